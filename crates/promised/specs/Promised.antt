-- What Turniploom promises: one record over the statements of the exported calls, a sentence above each field. docs/PROMISES.md is its index. Assumes nothing.
use Rattle.std.specs.Prelude.{ℕ, suc, ◌+◌, ◌-◌, ◌*◌, ◌/◌, ◌%◌, ◌^◌, ◌≤◌, ◌<◌, min, ◌≡◌, Bool, true, false, not, cond, ◌&&◌, ◌⊎◌, ◌≢◌, eqb, ltb, length, replicate, take, get_or, ℤ, pos, nat_abs, ◌*ℤ◌}
use mathlib.Core.List.{List, [], ◌∷◌, ◌++◌, Memᴰ}
use Rattle.std.specs.Int.Signed.{lt_z, le_z}
use Rattle.std.specs.Float.{nan, fin, binary64}
use Rattle.std.specs.Float.Ieee.{to_bits, of_int, up, down, lt, le, eq, ne}
use Rattle.std.specs.Float.Ieee.Exact.{HasValue}
use mir.Val.{bool_byte}
use Rattle.laws.specs.Mask.{mask}
use Rattle.ops.specs.Op.{Raise}
use Rattle.refusals.specs.declared.Answer.{Answer}
use Rattle.code.specs.declared.Ins.{Ins as Instruction}
use Rattle.refusals.specs.declared.Refusal.TheVariants.{Table}
use Rattle.std.specs.declared.result.Result.TheVariants.{Ok, Err}
use Rattle.fields.specs.Answers.{kinds_answer, role_answer, field_answer, writes_answer, touch_answer}
use Rattle.roles.specs.Kinds.{none, kinds_of}
use Rattle.roles.specs.Roles.{role_table}
use Rattle.touch.specs.Traps.{Traps}
use Rattle.laid.specs.Answers.{pure_answer}
use Rattle.shapes.specs.Answers.{flat_answer, guarded_answer}
use Rattle.sections.specs.Answers.{returns_answer}
use Rattle.params.specs.Answers.{written_answer}
use Rattle.passed.specs.Answers.{passed_answer}
use Rattle.callee.specs.Answers.{global_answer}
use Rattle.pushes.specs.Answers.{push_answer}
use Rattle.stack.specs.Answers.{stack_answer}
use Rattle.callee.specs.Trace.{says_at, heard, traced_by, traced}
use Rattle.unread.specs.Phi.{Dead}
use Rattle.generators.specs.Generator.{GenPure}
use Rattle.needed.specs.Path.{Needs}
use Rattle.seek.specs.Asked.{seek_next, jumps_in}
use Rattle.paths.specs.Search.{Turns}
use Rattle.flow.specs.Set.{bit}
use Rattle.flow.specs.Flow.{Flow, Least}
use Rattle.values.specs.Python.{Divides, floor_div, floor_mod, Digitwise, both, any_of, one, and_z, or_z, xor_z, eq_z, signed, sign}
use Rattle.values.specs.Folds.{SmallInt}
use Rattle.values.specs.declared.Val.TheVariants.{Float as Real}
use Rattle.std.specs.declared.option.Option.TheVariants.{Some}
use Rattle.pool.specs.Pool.{to_val, find_or_push, find_or_push_const}
use Rattle.chunk.specs.Chunk as chunk
use Rattle.chunk.specs.Chunk.{operand_at, origin_at, names, folds}
use Rattle.chunk.specs.Check.{chunk_check_of, ready_of}
use Rattle.chunk.specs.declared.Counts.{Counts}
use Rattle.fold.specs.Plan.{Chunk, kind_of}
use Rattle.landings.specs.Landings.{landings_of, Unmarked}
use Rattle.fold.specs.Pass.{Bars, by_scan, by_table, folded, fold_all}
use Rattle.named.specs.Unused.{AllNear, constant_named}
use Rattle.clear.specs.Clear as clearing
use Rattle.refold.specs.Lending.{Lending, fold_leaving}
use Rattle.refold.specs.Lendable.{Lendable}
use Rattle.refold.specs.Left.{PoolLeft, FoldBeyond, NoneDied, as_lent, TriesLeft, LandingsLeft, tried}
use Rattle.refold.specs.Examples.{jumping, summed, crossed, crossed_counts, crossed_lens}
use Rattle.refold.specs.Origins.{OriginsLeft}
use Rattle.runs.specs.Machine.{Ins, Stack, End, Run}
use Rattle.runs.specs.Rule.{WishRule}
use Rattle.answers.specs.Answers.{MadeTold, EnterTold, LeaveTold, ReplayTold, ExposedTold}
use Rattle.exported.specs.Settles.{One, Settles}
use Rattle.exported.specs.Calls.{TargetsCall, LoopsCall, EntriesBeyond, Marks, DeadCall, GenCall, NeededCall, MarksBeyond, Lists, KeptCall, KeptSettles}
use Rattle.exported.specs.Calls.{FoldCall, ClearCall, ClearBeyond}
use Rattle.exported.specs.Told.{TouchedHolds, start_at, row_left, OriginsKept}
use Rattle.exported.specs.Told.{Truth, list_left, KeptHolds, SameLists, folded_of, FoldsNext, ClearsNext, FoldsCleared, FoldsSame, ClearHolds, ClearedTwice}
use Rattle.exported.specs.Told.{RunsKept, ClearsKept, RunsCleared}
use Rattle.marked.specs.Marked.{Marked}
use Rattle.promised.specs.Late.{Late}
use Rattle.promised.specs.Breaks.{Breaks}
use Rattle.promised.specs.Above.{AtLevel, Entered}
use Rattle.code.specs.Ins.{ins_at, count}
use Rattle.refusals.specs.Answers.{answer_of, refusal_of}
use Rattle.flow.specs.Kept.{handlers_of}
use Rattle.flow.specs.Demand.{Alike}
use Rattle.steps.specs.Code.{flow, after_at}
use Rattle.levels.specs.Answers.{level_answer}
use Rattle.area.specs.Area.{free_of, put_in}
use Rattle.saver.specs.Saver.{Saver, regs_of, in_use}
use Rattle.leaves.specs.Leaving.{Back, returned, thrown}
use Rattle.frames.specs.Frames.{file_of, Sound, Open}
use Rattle.figures.specs.Figures.{body_figures}
use Rattle.figures.specs.Answers.{reports, add_call, join_call}
use Rattle.figures.specs.Month.{Body, report_of}
use Rattle.figures.specs.Month as figured
use Rattle.laws.specs.Page.{among}
use Rattle.laws.specs.Table.{filled_to}
use Rattle.blocks.specs.Blocks.{slot_at, steps_of}
use Rattle.trace.specs.Trace.{Recorded}
use Rattle.day.specs.Count.{reads_in, levels_in}
use Rattle.day.specs.Day.{replay_stages}
use Rattle.replays.specs.Positions.{slots_from, visited}
use Rattle.steps.specs.Level.{is_level}
use Rattle.nested.specs.Machine.{Event, nested, undisturbed, Sheltered}
use Rattle.nested.specs.Raising.{levels, mays, frame, Tidy}
use Rattle.nested.specs.Exposed.{ToldApart}
use Rattle.sheltered.specs.Saving.{Ran}
use Rattle.sheltered.specs.Calls.{RaisingCall, RaisingSettles, RaisingHolds, Both, NoneExposed, NotEnough, Enough, RaiseKept}

-- where a call's statement says 'the answer is x': there is one answer
abbrev pub OneAnswer : Answer → Type 0
OneAnswer x = One (λ r. r ≡ x)

-- instruction k of w has the mark 'names a constant', and its operand is i
pub record Naming (w : List ℕ) (i k : ℕ) : Type 0 where
  pub there : k < chunk.chunk_count w
  pub mark : names w k ≡ true
  pub is : operand_at w k ≡ i

-- all that is promised of the exported calls, of each by itself and of several together
pub record Promised : Type 0 where
  -- document 01's marked examples, P1 to P13, hold as computed from the definitions
  pub marked : Marked
  -- ---- each call has one result; a call that writes settles every lent word, leaves all as lent where it refuses, and touches no word past a need

  -- kinds has one answer
  pub one_kinds : (w : List ℕ) (at : ℕ) → OneAnswer (kinds_answer w at)
  -- role has one answer
  pub one_role : (w : List ℕ) (at : ℕ) → OneAnswer (role_answer w at)
  -- field has one answer
  pub one_field : (w : List ℕ) (at f : ℕ) → OneAnswer (field_answer w at f)
  -- writes has one answer
  pub one_writes : (w : List ℕ) (at r : ℕ) → OneAnswer (writes_answer w at r)
  -- touched has one answer
  pub one_touched : (w : List ℕ) (at : ℕ) → OneAnswer (touch_answer w at)
  -- version has one answer, 0.2.0
  pub one_version : OneAnswer (answer_of 0 2 0 0)
  -- pure has one answer
  pub one_pure : (w : List ℕ) → OneAnswer (pure_answer w)
  -- flat has one answer
  pub one_flat : (w : List ℕ) → OneAnswer (flat_answer w)
  -- guarded has one answer
  pub one_guarded : (w : List ℕ) → OneAnswer (guarded_answer w)
  -- returns has one answer
  pub one_returns : (w : List ℕ) (at : ℕ) → OneAnswer (returns_answer w at)
  -- params_written has one answer
  pub one_written : (w : List ℕ) (arity : ℕ) → OneAnswer (written_answer w arity)
  -- passed has one answer
  pub one_passed : (w : List ℕ) (at arity : ℕ) → OneAnswer (passed_answer w at arity)
  -- global_of has one answer
  pub one_global : (w : List ℕ) (at : ℕ) → OneAnswer (global_answer w at)
  -- pushed_back has one answer
  pub one_push : (w : List ℕ) (at r : ℕ) → OneAnswer (push_answer w at r)
  -- stack_callee has one answer
  pub one_stack : (w : List ℕ) (at count : ℕ) → OneAnswer (stack_answer w at count)
  -- targets settles its n + 1 entries
  pub targets : (w tries : List ℕ) → Settles (TargetsCall w tries) (EntriesBeyond w)
  -- loops_around settles its n + 1 entries
  pub loops : (w : List ℕ) → Settles (LoopsCall w) (EntriesBeyond w)
  -- dead_phi settles both its buffers
  pub dead : (w : List ℕ) (at r : ℕ) → Settles (DeadCall w at r) (MarksBeyond w)
  -- gen_pure settles both its buffers
  pub gen : (w : List ℕ) → Settles (GenCall w) (MarksBeyond w)
  -- needed settles both its buffers
  pub needed : (w : List ℕ) (regs at r : ℕ) → Settles (NeededCall w regs at r) (MarksBeyond w)
  -- kept settles its three buffers; refusal 5 for the list is the one refusal that changes a buffer, the scratch, which then holds the rows
  pub kept : (w : List ℕ) (regs : ℕ) (tries : List ℕ) (wide : Bool) → KeptSettles 64 w regs tries wide
  -- kept32 does the same with words of 32 bits
  pub kept32 : (w : List ℕ) (regs : ℕ) (tries : List ℕ) (wide : Bool) → KeptSettles 32 w regs tries wide
  -- fold settles its nine buffers, the tries and the table of landings
  pub folding : (strict : Bool) (c : Counts) → Settles (FoldCall strict c) (FoldBeyond c)
  -- clear settles its four buffers
  pub clear : (m : ℕ) → Settles (ClearCall m) (ClearBeyond m)
  -- ---- the walks

  -- dead_phi answers 1 exactly when no path from k + 1, over instructions that do not stop it, comes to one that reads r
  pub dead_truth : (w : List ℕ) (k q : ℕ) (b : Marks) (r : Answer) (a : Marks) → DeadCall w k q b r a → r.refusal ≡ 0 → Truth (Dead w k q) r
  -- gen_pure answers 1 exactly when the code is pure as a generator's
  pub gen_truth : (w : List ℕ) (b : Marks) (r : Answer) (a : Marks) → GenCall w b r a → r.refusal ≡ 0 → Truth (GenPure w) r
  -- bit r of a mask, as params_written and passed answer it, says what it is to say of r
  pub mask_bit : (f : ℕ → Bool) (n r : ℕ) → r < n → mask f n / 2 ^ r % 2 ≡ bool_byte (f r)
  -- the callee trace goes back instruction by instruction
  pub by_step : (w : List ℕ) (a d : ℕ) → 0 < d → traced w a d ≡ heard (says_at w (d - 1) a) (d - 1) (traced_by w a (d - 1))
  -- and starts again before the push it found
  pub left_out : (w : List ℕ) (a d p : ℕ) → p ≤ d → traced_by w a d p ≡ traced w a p
  -- ---- liveness, from refusal 0

  -- rows are the least solution, few sweeps find them, and each kept list is enough, with nothing idle, nothing to spare and nothing twice
  pub kept_holds : (bits : ℕ) (w : List ℕ) (regs : ℕ) (tries : List ℕ) (wide : Bool) (b : Lists) (r : Answer) (a : Lists)
      → KeptCall bits w regs tries wide b r a → r.refusal ≡ 0 → KeptHolds bits w regs tries wide r a
  -- either width, the forced wide route, and whatever is lent, give the same lists and offsets
  pub routes_same : (bits bits' : ℕ) (w : List ℕ) (regs : ℕ) (tries : List ℕ) (wide wide' : Bool) (b b' : Lists) (r r' : Answer) (a a' : Lists)
      → KeptCall bits w regs tries wide b r a → r.refusal ≡ 0 → KeptCall bits' w regs tries wide' b' r' a' → r'.refusal ≡ 0 → SameLists w r r' a a'
  -- row equations have one least solution
  pub least_one : (f : Flow) (start : ℕ) (R S : ℕ → ℕ) → Least f start R → Least f start S → (k : ℕ) → start ≤ k → R k ≡ S k
  -- ---- wish 3: what an instruction touches

  -- the fields that touched answers, and the run from b on, are the registers that the instruction by itself uses, gives up and writes
  pub touched_holds : (w : List ℕ) (at : ℕ) (r : Answer) → r ≡ touch_answer w at → r.refusal ≡ 0 → TouchedHolds (ins_at w at) r
  -- where one of the three sets is not what another leads one to expect, it is so
  pub touched_traps : Traps
  -- ---- wish 6: the table of roles

  -- the table of 1,280 bytes, with Raise's test of a beside it, says what the rule says on every opcode, x and a
  pub table_is : (i : Instruction) → i.op < 256
      → cond (eqb i.op Raise && not (eqb i.a 0)) none (get_or role_table (i.op * 5 + min i.x 4) 0) ≡ kinds_of i
  -- ---- wish 11: is this one register needed here?

  -- needed answers 1 exactly when some path from the position uses the register before it gives it up
  pub needed_truth : (w : List ℕ) (regs k q : ℕ) (b : Marks) (r : Answer) (a : Marks) → NeededCall w regs k q b r a → r.refusal ≡ 0
      → Truth (Needs (flow regs w) q k) r
  -- it is the bit in the finished rows of a kept call, of either width, that began at 0
  pub needed_bit : (bits : ℕ) (w : List ℕ) (regs : ℕ) (tries : List ℕ) (wide : Bool) (b : Lists) (r : Answer) (a : Lists) → KeptCall bits w regs tries wide b r
      a
      → r.refusal ≡ 0 → start_at bits wide regs w ≡ 0
      → (k q : ℕ) (m : Marks) (s : Answer) (m' : Marks) → NeededCall w regs k q m s m' → s.refusal ≡ 0 → bit (row_left bits regs w a k) q ≡ s.first
  -- as the forced wide route does
  pub wide_zero : (bits regs : ℕ) (w : List ℕ) → start_at bits true regs w ≡ 0
  -- its search begins with the asked position, if that is an instruction, and makes at most as many turns as there are instructions and jumps
  pub needed_few : (w seen seen' : List ℕ) (at k top : ℕ) → Turns (count w) (seek_next w) seen (bool_byte (ltb at (count w))) k seen' top
      → k ≤ count w + jumps_in w
  -- a turn looks only at an instruction with no mark and marks it, and a mark stays: none is looked at twice
  pub needed_once : (w seen seen' : List ℕ) (top k top' j : ℕ) → Turns (count w) (seek_next w) seen top k seen' top' → get_or seen j 0 ≡ 1 → get_or seen' j 0 ≡ 1
  -- ---- Python's numbers

  -- quotient and remainder are as Python's law asks
  pub divides : (a d : ℤ) → (d ≡ pos 0 → ⊥) → Divides a d (floor_div a d) (floor_mod a d)
  -- and no other pair is
  pub one_pair : (a d q r q' r' : ℤ) → Divides a d q r → Divides a d q' r' → (q ≡ q') × (r ≡ r')
  -- each digit of a & b is 1 where both are
  pub and_law : (a b : ℤ) → Digitwise both a b (and_z a b)
  -- each digit of a | b is 1 where one or both are
  pub or_law : (a b : ℤ) → Digitwise any_of a b (or_z a b)
  -- each digit of a ^ b is 1 where just one is
  pub xor_law : (a b : ℤ) → Digitwise one a b (xor_z a b)
  -- numbers with equal digits are equal
  pub one_digits : (f : ℕ → ℕ → ℕ) (a b z z' : ℤ) → Digitwise f a b z → Digitwise f a b z' → z ≡ z'
  -- the test of equal ints says that they are equal
  pub eq_z_true : (a b : ℤ) → eq_z a b ≡ true → a ≡ b
  -- and that an int equals itself
  pub eq_z_same : (a : ℤ) → eq_z a a ≡ true
  -- two ints in range compare through their floats as ints do
  pub lt_ints : (a b : ℤ) → SmallInt a → SmallInt b → lt (of_int binary64 a) (of_int binary64 b) ≡ lt_z a b
  pub le_ints : (a b : ℤ) → SmallInt a → SmallInt b → le (of_int binary64 a) (of_int binary64 b) ≡ le_z a b
  pub eq_ints : (a b : ℤ) → SmallInt a → SmallInt b → eq (of_int binary64 a) (of_int binary64 b) ≡ eq_z a b
  pub ne_ints : (a b : ℤ) → SmallInt a → SmallInt b → ne (of_int binary64 a) (of_int binary64 b) ≡ not (eq_z a b)
  -- an int in range becomes a float exactly
  pub exact_int : (a : ℤ) → SmallInt a → HasValue (of_int binary64 a) (sign a) (nat_abs a) 1
  -- an int beside a finite float, ±n * 2 ^ d, compares as the numbers do, both times the power of two below the line
  pub lt_mixed : (a : ℤ) → SmallInt a → (t : Bool) (n : ℕ) (d : ℤ) → lt (of_int binary64 a) (fin t n d) ≡ lt_z (a *ℤ pos (down d)) (signed t (n * up d))
  pub gt_mixed : (a : ℤ) → SmallInt a → (t : Bool) (n : ℕ) (d : ℤ) → lt (fin t n d) (of_int binary64 a) ≡ lt_z (signed t (n * up d)) (a *ℤ pos (down d))
  pub eq_mixed : (a : ℤ) → SmallInt a → (t : Bool) (n : ℕ) (d : ℤ) → eq (of_int binary64 a) (fin t n d) ≡ eq_z (a *ℤ pos (down d)) (signed t (n * up d))
  -- the single NaN has the bits 0x7FF8_0000_0000_0000
  pub the_nan : to_bits binary64 nan ≡ 0x7ff8_0000_0000_0000
  -- any lent float whose word is above infinity's, its sign apart, is read as the single NaN
  pub nan_read : (w : ℕ) → 0x7ff0_0000_0000_0000 < w % 2 ^ 63 → to_val 2 w ≡ Some (Real nan)
  -- a result that is NaN is kept as a float of those bits: found where a float has them, else pushed with them
  pub nan_kept : (kinds words : List ℕ) (n : ℕ) → find_or_push_const kinds words n (Real nan) ≡ find_or_push kinds words n 2 0x7ff8_0000_0000_0000
  -- ---- folding, from refusal 0

  -- the operators that room is counted for are the operators that are tried
  pub operators_same : (o : ℕ) → folds o ≡ tried (kind_of o)
  -- in plain mode the jump before the first operand forbids the fold if it lands between, the operator included, and not past it or on the first operand
  pub jumped : (tries : List ℕ) → (fold_all (by_scan false tries) (jumping 1) ≡ summed 1)
      × (fold_all (by_scan false tries) (jumping 2) ≡ jumping 2)
      × (fold_all (by_scan false tries) (jumping 3) ≡ jumping 3)
      × (fold_all (by_scan false tries) (jumping 4) ≡ summed 4)
  -- constants below the old count stay, and so do entries past the new one
  pub fold_pool : (strict : Bool) (c : Counts) (b : Lending) (r : Answer) (a : Lending) → FoldCall strict c b r a → r.refusal ≡ 0
      → PoolLeft b.buffers c (folded_of r) a.buffers
  -- the code that is left keeps the record rules, every table its rule, and there is room for the next fold
  pub fold_tables : (strict : Bool) (c : Counts) (b : Lending) (r : Answer) (a : Lending) → FoldCall strict c b r a → r.refusal ≡ 0 → Lendable (folded_of r) c a
  -- with the words past it, which are 0, it keeps them too
  pub fold_code : (strict : Bool) (c : Counts) (b : Lending) (r : Answer) (a : Lending) → FoldCall strict c b r a → r.refusal ≡ 0
      → (n : ℕ) → chunk_check_of b.buffers.code ≡ Ok n → chunk_check_of a.buffers.code ≡ Ok n
  -- if nothing died, code, constants, tries and every table stay as lent, the dead marks are 0, and the landings are those of what was lent
  pub fold_idle : (strict : Bool) (c : Counts) (b : Lending) (r : Answer) (a : Lending) → FoldCall strict c b r a → r.refusal ≡ 0
      → NoneDied b.buffers a.buffers → fold_leaving (Ok (folded_of r)) a ≡ as_lent b c
  -- ---- fold, clear, fold

  -- a folded chunk, its code cut at the answered count and the counts as answered, is folded again and not refused
  pub folds_next : (strict : Bool) (c : Counts) (b : Lending) (r : Answer) (a : Lending) → FoldCall strict c b r a → r.refusal ≡ 0 → FoldsNext c r a
  -- it is cleared, with a scratch as long as it has constants, and then folded, and neither is refused
  pub clears_next : (strict : Bool) (c : Counts) (b : Lending) (r : Answer) (a : Lending) → FoldCall strict c b r a → r.refusal ≡ 0 → ClearsNext c r a
  -- uncut it may be refused: so is what is left of three Phis, with 7 for table 2
  pub uncut : ready_of crossed [] [] [] crossed_counts crossed_lens 4 ≡ Err (Table 2)
  -- what the folding call accepts it accepts after clearing too, with the same buffers
  pub folds_cleared : (strict : Bool) (c : Counts) (b : Lending) (r : Answer) (a : Lending) → FoldCall strict c b r a → r.refusal ≡ 0 → FoldsCleared b c
  -- and folds to the same counts, tables, marks and remap, and instruction by instruction the same opcode, marks and load, if the fold ends below
  -- 65,535 constants and each operand with the mark is below the count, or at or past the count that the uncleared fold ends with
  pub folds_same : (strict : Bool) (c : Counts) (b : Lending) (r : Answer) (a : Lending) → FoldCall strict c b r a → r.refusal ≡ 0
      → r.second < 65535 → AllNear b.buffers.code c.constants r.second → FoldsSame strict b c r a
  -- why the last is asked: an operand between the two may come to load what a fold pushes; and P13 ships one constant
  pub late : Late
  -- ---- wishes 2 and 10: handlers are landings too, and landing counts beside the code

  -- strict mode by a true table makes the folds of strict mode by the scan over all jumps and handlers
  pub same_folds : (s : Chunk) → Unmarked s.code → (strict : Bool) (tries : List ℕ)
      → fold_all (by_table strict (landings_of s.code tries)) s ≡ fold_all (by_scan strict tries) s
  -- the table is true after every fold
  pub still_true : (s : Chunk) → Unmarked s.code → (bars : Bars) (tries : List ℕ) (k : ℕ) → k ≤ chunk.chunk_count s.code
      → landings_of (folded bars k s).code tries ≡ landings_of s.code tries
  -- after an answer each of its n + 1 entries is how many jumps and handlers land there in the chunk that is left, and 0 past its end
  pub fold_landings : (strict : Bool) (c : Counts) (b : Lending) (r : Answer) (a : Lending) → FoldCall strict c b r a → r.refusal ≡ 0
      → LandingsLeft b (folded_of r) a
  -- the tries are remapped as jump operands are, and each keeps its rule in the chunk that is left
  pub fold_tries : (strict : Bool) (c : Counts) (b : Lending) (r : Answer) (a : Lending) → FoldCall strict c b r a → r.refusal ≡ 0
      → TriesLeft b (folded_of r) a
  -- ---- wish 8: the origin of each instruction

  -- a survivor of a fold stands where remap says and keeps its origin, survivors stand in their order, and each instruction that is left is one: what
  -- folded has the origin of its first operand, where it stands
  pub origins_folded : (strict : Bool) (c : Counts) (b : Lending) (r : Answer) (a : Lending) → FoldCall strict c b r a → r.refusal ≡ 0
      → OriginsLeft b.buffers (folded_of r) a.buffers
  -- clearing moves none
  pub origins_cleared : (m : ℕ) (b : clearing.PoolBuffers) (r : Answer) (a : clearing.PoolBuffers) → ClearCall m b r a → r.refusal ≡ 0
      → (k : ℕ) → k < chunk.chunk_count b.code → origin_at a.code k ≡ origin_at b.code k
  -- folded, then cleared, and then folded again: each time every instruction has the origin of one that was there before all of it, in the same order
  pub origins_kept : (strict : Bool) (c : Counts) (b : Lending) (r : Answer) (a : Lending) → FoldCall strict c b r a → r.refusal ≡ 0 → OriginsKept b c r a
  -- ---- wish 14: folding keeps what a rule computes

  -- of a chunk as wish 14 has it: in strict mode a run ends before folding exactly when it ends after it, with the same stack or the same stop
  pub runs_kept : (c : Counts) (b : Lending) (r : Answer) (a : Lending) → FoldCall true c b r a → r.refusal ≡ 0
      → WishRule b.buffers.code c.constants → RunsKept b r a
  -- what is left, its code cut at the answered count, is such a chunk again
  pub rule_left : (c : Counts) (b : Lending) (r : Answer) (a : Lending) → FoldCall true c b r a → r.refusal ≡ 0
      → WishRule b.buffers.code c.constants → WishRule (take (chunk.stride * r.first) a.buffers.code) r.second
  -- clearing does the same: a run ends before it exactly when it ends after it, alike, and what is left is such a chunk
  pub clears_kept : (m : ℕ) (b : clearing.PoolBuffers) (r : Answer) (a : clearing.PoolBuffers) → ClearCall m b r a → r.refusal ≡ 0
      → WishRule b.code m → ClearsKept b r a
  -- folded, then cleared, and then folded again: each time a run ends exactly when it ended before all of it, alike
  pub runs_cleared : (c : Counts) (b : Lending) (r : Answer) (a : Lending) → FoldCall true c b r a → r.refusal ≡ 0
      → WishRule b.buffers.code c.constants → RunsCleared b c r a
  -- a run has one end
  pub one_end : (code : ℕ → Ins) (n k : ℕ) (s : Stack) (e e' : End) → Run code n k s e → Run code n k s e' → e ≡ e'
  -- why strict: P13's code is such a chunk, and its run, which ends, never ends after the plain fold
  pub plain_breaks : Breaks
  -- ---- wish 1: clear unused constants

  -- an instruction with the mark names the constant that its operand says
  pub named_by : (w : List ℕ) (i k : ℕ) → Naming w i k → constant_named w i ≡ true
  -- and a named constant is named by one
  pub naming : (w : List ℕ) (i : ℕ) → constant_named w i ≡ true → (k : ℕ) × Naming w i k
  -- exactly the named constants are left, in their order, freed entries are 0, and every instruction loads what it loaded
  pub clear_holds : (m : ℕ) (b : clearing.PoolBuffers) (r : Answer) (a : clearing.PoolBuffers) → ClearCall m b r a → r.refusal ≡ 0 → ClearHolds m b r a
  -- asked again, clear is not refused and changes nothing more but its scratch, which counts the constants that are left
  pub cleared_twice : (m : ℕ) (b : clearing.PoolBuffers) (r : Answer) (a : clearing.PoolBuffers) → ClearCall m b r a → r.refusal ≡ 0
      → (s : Answer) (x : clearing.PoolBuffers) → ClearCall r.first a s x → ClearedTwice r a s x
  -- ---- wish 4: the frame saver

  -- make, enter, a return and an exception settle the answer and every word of head, area and file; level has one answer
  pub one_level : (w : List ℕ) (at : ℕ) → OneAnswer (level_answer w at)
  pub one_make : (regs : ℕ) (head : List ℕ) (r r' : Answer) (a a' : List ℕ) → MadeTold regs head a r → MadeTold regs head a' r' → (r ≡ r') × (a ≡ a')
  pub one_enter : (s : Saver) (l : List ℕ) (q : ℕ) (r r' : Answer) (a a' : Saver) → EnterTold s l q a r → EnterTold s l q a' r' → (r ≡ r') × (a ≡ a')
  pub one_leave : (s : Saver) (back : Back) (r r' : Answer) (a a' : Saver) → LeaveTold s back a r → LeaveTold s back a' r' → (r ≡ r') × (a ≡ a')
  -- a level is entered, calls between nest to any depth, registers are overwritten at will; left by a return, the run resumed visits the same positions
  -- and reads the same values as one whose registers nobody touched, save for the result
  pub saved_return : (bits : ℕ) (w : List ℕ) (regs : ℕ) (tries : List ℕ) (a : Lists) (k : ℕ) (v : Answer) (s t : Saver) → AtLevel bits w regs tries a k v s
      → Entered (list_left a k) v.third s t
      → (x : ℕ) (t' : Saver) (r : Answer) → LeaveTold t (returned x) t' r → Alike (flow regs w) v.second (file_of t') (put_in regs v.third x (file_of s))
  -- left by an exception, so it does in every handler of a try around the level
  pub saved_handler : (bits : ℕ) (w : List ℕ) (regs : ℕ) (tries : List ℕ) (a : Lists) (k : ℕ) (v : Answer) (s t : Saver) → AtLevel bits w regs tries a k v s
      → Entered (list_left a k) v.third s t
      → (t' : Saver) (r : Answer) → LeaveTold t thrown t' r → (h : ℕ) → Memᴰ h (handlers_of (count w) k tries) → Alike (flow regs w) h (file_of t')
      (file_of s)
  -- that leaving is never refused, and the words in use are as before the entry
  pub saved_left : (bits : ℕ) (w : List ℕ) (regs : ℕ) (tries : List ℕ) (a : Lists) (k : ℕ) (v : Answer) (s t : Saver) → AtLevel bits w regs tries a k v s
      → Entered (list_left a k) v.third s t
      → (back : Back) (t' : Saver) (r : Answer) → LeaveTold t back t' r → r ≡ answer_of (in_use s) 0 0 0
  -- the kept list of a level is never refused with 14
  pub saved_fine : (bits : ℕ) (w : List ℕ) (regs : ℕ) (tries : List ℕ) (a : Lists) (k : ℕ) (v : Answer) (s : Saver) → AtLevel bits w regs tries a k v s
      → (t : Saver) (r : Answer) → EnterTold s (list_left a k) v.third t r → r.refusal ≢ 14
  -- 8 where free words are fewer than twice the list plus two, and then nothing changes; an answer everywhere else
  pub saved_full : (bits : ℕ) (w : List ℕ) (regs : ℕ) (tries : List ℕ) (a : Lists) (k : ℕ) (v : Answer) (s : Saver) → AtLevel bits w regs tries a k v s
      → free_of (in_use s) < 2 * length (list_left a k) + 2
      → (t : Saver) (r : Answer) → EnterTold s (list_left a k) v.third t r → (r ≡ refusal_of 8 (free_of (in_use s)) 0) × (t ≡ s)
  pub saved_room : (bits : ℕ) (w : List ℕ) (regs : ℕ) (tries : List ℕ) (a : Lists) (k : ℕ) (v : Answer) (s : Saver) → AtLevel bits w regs tries a k v s
      → 2 * length (list_left a k) + 2 ≤ free_of (in_use s)
      → (t : Saver) (r : Answer) → EnterTold s (list_left a k) v.third t r → r ≡ answer_of (in_use s + (2 * length (list_left a k) + 2)) 0 0 0
  -- a leaving is refused with 9 exactly where no call is open, after any history, and then nothing changes
  pub saved_none : {s : Saver} → Open s 0 → (back : Back) (t : Saver) (r : Answer) → LeaveTold s back t r → (r ≡ refusal_of 9 0 0) × (t ≡ s)
  pub saved_some : {s : Saver} {n : ℕ} → Open s (suc n) → (back : Back) (t : Saver) (r : Answer) → LeaveTold s back t r → r.refusal ≡ 0
  -- ---- wish 12: a month of scripts in figures

  -- all 0 is the report of no body
  pub figures_none : figured.HoldsReport (replicate 7 0) []
  -- an answered add leaves the report of all bodies so far, and tells the body's own levels and kept registers and the mean of all
  pub figures_add : (xs : List Body) (w o : List ℕ) (len : ℕ) (old new : List ℕ) (r : Answer) → figured.HoldsReport old xs → add_call w o len old ≡ reports new r
      → r.refusal ≡ 0
      → let all = xs ++ (record { code = w; offsets = o } ∷ []) in
      figured.HoldsReport new all × (r ≡ answer_of (body_figures w o).levels (body_figures w o).kept (report_of all).kept (report_of all).levels)
  -- reports of two groups joined are the report of all
  pub figures_join : (xs ys : List Body) (later old new : List ℕ) (r : Answer) → figured.HoldsReport old xs → figured.HoldsReport later ys
      → join_call later old ≡ reports new r → r.refusal ≡ 0
      → figured.HoldsReport new (xs ++ ys) × (r ≡ answer_of 0 0 (report_of (xs ++ ys)).kept (report_of (xs ++ ys)).levels)
  -- a refused add or join changes no word of the report
  pub add_keeps : (w o : List ℕ) (len : ℕ) (old new : List ℕ) (r : Answer) → add_call w o len old ≡ reports new r → r.refusal ≢ 0 → new ≡ old
  pub join_keeps : (later old new : List ℕ) (r : Answer) → join_call later old ≡ reports new r → r.refusal ≢ 0 → new ≡ old
  -- what an answered kept call left is added, or refused with 13: never with 15; its kept registers are as many as that call told
  pub figures_kept : (bits : ℕ) (w : List ℕ) (regs : ℕ) (tries : List ℕ) (wide : Bool) (b : Lists) (r : Answer) (a : Lists)
      → KeptCall bits w regs tries wide b r a → r.refusal ≡ 0
      → ((old new : List ℕ) (t : Answer) → add_call w a.offsets r.first old ≡ reports new t → (t.refusal ≡ 0) ⊎ (t.refusal ≡ 13))
      × ((body_figures w a.offsets).kept ≡ r.first)
  -- ---- wish 9: the replay of a survey day

  -- the replay settles the answer and every word of the reads
  pub one_replay : (w : List ℕ) (regs : ℕ) (tries t old : List ℕ) (r r' : Answer) (a a' : List ℕ) → ReplayTold w regs tries t old a r
      → ReplayTold w regs tries t old a' r' → (r ≡ r') × (a ≡ a')
  -- an answered trace is a recorded run: whole blocks, right checks, fillers at the end alone, the first position 0, each below n, every move allowed
  pub replay_recorded : (w : List ℕ) (regs : ℕ) (tries t old new : List ℕ) (r : Answer) → ReplayTold w regs tries t old new r → r.refusal ≡ 0
      → Recorded w tries t
  -- a recorded run is answered, where code, registers, tries and reads are not refused
  pub replay_answered : (w : List ℕ) (regs : ℕ) (tries t old new : List ℕ) (r : Answer) → ReplayTold w regs tries t old new r
      → replay_stages w regs tries (length old) ≡ Ok (count w) → Recorded w tries t → r.refusal ≡ 0
  -- where "after" names every move of a stretch, demand 3's machine has choices by which it visits exactly these positions, whatever is written
  pub replay_run : (w : List ℕ) (regs : ℕ) (tries t old new : List ℕ) (r : Answer) → ReplayTold w regs tries t old new r → r.refusal ≡ 0
      → (s m : ℕ) → s + m ≤ steps_of t → ((j : ℕ) → s ≤ j → suc j < s + m → among (slot_at t (suc j)) (after_at w (slot_at t j)) ≡ true)
      → (choices : List ℕ) × ((news : List (List ℕ)) (file : List ℕ) → visited (flow regs w) choices news (slot_at t s) file ≡ slots_from t s m)
  -- the answer has the steps and the levels met
  pub replay_steps : (w : List ℕ) (regs : ℕ) (tries t old new : List ℕ) (r : Answer) → ReplayTold w regs tries t old new r → r.refusal ≡ 0
      → r ≡ answer_of (steps_of t) (levels_in w t (steps_of t)) 0 0
  -- reads[r] is the number of steps that use r; words past the registers are as lent
  pub replay_reads : (w : List ℕ) (regs : ℕ) (tries t old new : List ℕ) (r : Answer) → ReplayTold w regs tries t old new r → r.refusal ≡ 0
      → new ≡ filled_to (reads_in w t (steps_of t)) regs old
  -- a refused trace has no report: the reads are as lent
  pub replay_none : (w : List ℕ) (regs : ℕ) (tries t old new : List ℕ) (r : Answer) → ReplayTold w regs tries t old new r → r.refusal ≢ 0 → new ≡ old
  -- ---- beyond the wishes: registers that a later exception needs

  -- kept_raising settles its three buffers, as kept does
  pub raising : (w : List ℕ) (regs : ℕ) (tries : List ℕ) (all : Bool) → RaisingSettles w regs tries all
  -- exposed settles the answer and every word of its buffer
  pub one_exposed : (plain list out : List ℕ) (r r' : Answer) (a a' : List ℕ) → ExposedTold plain list out a r → ExposedTold plain list out a' r' → (r ≡ r')
      × (a ≡ a')
  -- for a keeper of archives: at every level all registers but the listed ones and the result are overwritten at will, calls return or raise, what may
  -- raise goes on in a handler around it, as often as it likes, and all that is read is what the undisturbed run reads; with least rows, none to spare
  pub raising_holds : (w : List ℕ) (regs : ℕ) (tries : List ℕ) (all : Bool) (b : Lists) (r : Answer) (a : Lists) → RaisingCall w regs tries all b r a
      → r.refusal ≡ 0
      → RaisingHolds w regs tries all r a
  -- the same through the frame saver's calls: each call is entered with its level's list and left by a return or an exception
  pub raising_saved : (w : List ℕ) (regs : ℕ) (tries : List ℕ) (all : Bool) (b : Lists) (r : Answer) (a : Lists) → RaisingCall w regs tries all b r a
      → r.refusal ≡ 0
      → (k : ℕ) (s : Saver) → Sound s → regs_of s ≡ regs → (es : List Event) (told : List (ℕ × List ℕ)) → Ran w regs tries all (list_left a) k s es told
      → told ≡ nested (frame (mays all w) regs w tries) undisturbed es k (file_of s)
  -- at each level the list of kept_raising holds the list of kept, of any width and route
  pub raising_more : (w : List ℕ) (regs : ℕ) (tries : List ℕ) (all : Bool) (plain list : Lists) → Both w regs tries all plain list
      → (k : ℕ) → k < count w → is_level (ins_at w k) ≡ true → (q : ℕ) → Memᴰ q (list_left plain k) → Memᴰ q (list_left list k)
  -- where exposed tells of no level any register, kept's own lists are enough too
  pub plain_enough : (w : List ℕ) (regs : ℕ) (tries : List ℕ) (all : Bool) (plain list : Lists) → Both w regs tries all plain list
      → ((k : ℕ) → k < count w → is_level (ins_at w k) ≡ true → NoneExposed (list_left plain k) (list_left list k))
      → Sheltered (frame (mays all w) regs w tries) (list_left plain)
  -- each register that it tells of a level is exposed in truth: a callee that overwrites it alone, there alone, changes what some run reads
  pub exposed_truth : (w : List ℕ) (regs : ℕ) (tries : List ℕ) (all : Bool) (plain list : Lists) → Both w regs tries all plain list
      → (k : ℕ) → k < count w → is_level (ins_at w k) ≡ true → (o o' : List ℕ) (s : Answer) → ExposedTold (list_left plain k) (list_left list k) o o' s
      → s.refusal ≡ 0 → (q : ℕ) → Memᴰ q (take s.first o') → ToldApart (frame (mays all w) regs w tries) (list_left plain) k q
  -- where no try is lent and no dunder mark stands on ReturnR, Jump, UnpackR, WithEnter or WithExit, kept's own lists are enough
  pub no_try_shelters : (bits : ℕ) (w : List ℕ) (regs : ℕ) (wide : Bool) (b : Lists) (r : Answer) (a : Lists) → KeptCall bits w regs [] wide b r a
      → r.refusal ≡ 0
      → Tidy w → Sheltered (frame (levels w) regs w []) (list_left a)
  -- but not in general: the body whose handler reads r5, which the call before the try may overwrite; kept_raising keeps it at both calls
  pub plain_not_enough : NotEnough
  pub raising_enough : Enough
  -- Raise is no level: only where anything may raise is r5 kept for its handler
  pub raise_kept : RaiseKept
