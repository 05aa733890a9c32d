-- What an answer with refusal 0 says of the buffers that the call left. Assumes nothing.
use Rattle.std.specs.Prelude.{◌≡◌, ◌⊎◌, Bool, true, false, ℕ, suc, ◌+◌, ◌*◌, ◌^◌, ◌≤◌, ◌<◌, length, get_or, take}
use mathlib.Core.List.{List, [], ◌++◌, Memᴰ}
use Rattle.code.specs.Ins.{ins_at, count}
use Rattle.refusals.specs.declared.Answer.{Answer}
use Rattle.code.specs.declared.Ins.{Ins}
use Rattle.roles.specs.Sets.{from, used_by, given_by}
use Rattle.touch.specs.Touch.{named as fields_named, written_by}
use Rattle.flow.specs.Flow.{Least, Closed}
use Rattle.flow.specs.Sweep.{row, backs, start_of}
use Rattle.flow.specs.Demand.{Keeps, Lost, Once}
use Rattle.steps.specs.Level.{is_level}
use Rattle.steps.specs.Code.{flow, jumps_back}
use Rattle.rows.specs.Route.{route_start, rows_in}
use Rattle.kept.specs.Level.{level_of, kept_at}
use Rattle.kept.specs.Lists.{part_at}
use Rattle.chunk.specs.Chunk as chunk
use Rattle.chunk.specs.Chunk.{op_at, mark_at, operand_at, names}
use Rattle.chunk.specs.declared.Counts.{Counts}
use Rattle.optimizer.specs.declared.Folded.{Folded}
use Rattle.named.specs.Unused.{constant_named, before, numbered, loaded}
use Rattle.clear.specs.Clear as clearing
use Rattle.refold.specs.Lending.{Lending}
use Rattle.refold.specs.Lendable.{cut_at, counts_left, clearable, cleared_buffers, with_constants, counts_cleared}
use Rattle.refold.specs.Refolded.{RefoldedAll}
use Rattle.refold.specs.Origins.{Carried}
use Rattle.runs.specs.Rule.{WishRule}
use Rattle.runs.specs.Kept.{Same}
use Rattle.exported.specs.Calls.{Lists, FoldCall, ClearCall}

-- ---- touched

-- the registers that three bits name: 0 a, 1 b, 2 c
abbrev pub fields_of : ℕ → Ins → List ℕ
fields_of m i = fields_named (2 * m) i.a i.b i.c

-- the answer names what the instruction uses, gives up and writes; the run from b on is given up and written
pub record TouchedHolds (i : Ins) (r : Answer) : Type 0 where
  pub used : fields_of r.first i ≡ used_by i
  pub given : fields_of r.second i ++ from i.b r.fourth ≡ given_by i
  pub written : fields_of r.third i ++ from i.b r.fourth ≡ written_by i

-- ---- dead_phi, gen_pure and needed

-- 1 says that P holds, 0 that it does not, and there is no other answer
abbrev pub Truth : Type 0 → Answer → Type 0
Truth P r = ((r.first ≡ 1) × P) ⊎ ((r.first ≡ 0) × (P → ⊥))

-- ---- kept

-- where the sweeps began in the end
abbrev pub start_at : ℕ → Bool → ℕ → List ℕ → ℕ
start_at bits wide regs w = start_of (flow regs w) (route_start bits wide regs w)

-- row k, as it stands in the scratch
abbrev pub row_left : ℕ → ℕ → List ℕ → Lists → ℕ → ℕ
row_left bits regs w a k = row (rows_in bits regs w a.rows) k

-- the list of position k, as it stands in the lent list
abbrev pub list_left : Lists → ℕ → List ℕ
list_left a k = part_at a.offsets a.list k

-- the call on w, with so many registers and these tries, answered r and left a
pub record KeptHolds (bits : ℕ) (w : List ℕ) (regs : ℕ) (tries : List ℕ) (wide : Bool) (r : Answer) (a : Lists) : Type 0 where
  -- the rows are the least solution of the row equations from the start on
  pub least : Least (flow regs w) (start_at bits wide regs w) (row_left bits regs w a)
  -- from there on nothing goes before it
  pub closed : Closed (flow regs w) (start_at bits wide regs w)
  -- rows below the start are 0, and so is row n
  pub below : (k : ℕ) → k < start_at bits wide regs w → row_left bits regs w a k ≡ 0
  pub last : row_left bits regs w a (count w) ≡ 0
  -- no register at or above the count appears
  pub within : (k : ℕ) → row_left bits regs w a k < 2 ^ regs
  -- full sweeps are at most the jumps at or past the start to their own position or back, plus two; at most one is abandoned
  pub few : (r.second ≤ backs (flow regs w) (start_at bits wide regs w) + 2) × (r.third ≤ 1)
  -- and at most the jumps of all the code to their own position or back, plus two
  pub sweeps : (r.second ≤ jumps_back w + 2) × (r.third ≤ 1)
  -- from offset k to offset k + 1 stands the kept list of position k, by the rows in the scratch
  pub stands : (k : ℕ) → k < count w → list_left a k ≡ kept_at regs w tries (rows_in bits regs w a.rows) k
  -- demand 3: what stands in the lent list at a level is enough, and nothing is kept idly
  pub keeps : (k : ℕ) → k < count w → is_level (ins_at w k) ≡ true → Keeps (flow regs w) (list_left a k) (level_of regs w tries k)
  -- drop any register from a list as it stands, and two files that agree on the rest are told apart
  pub spare : (k : ℕ) → k < count w → is_level (ins_at w k) ≡ true
      → (q : ℕ) → Memᴰ q (list_left a k) → Lost (flow regs w) (list_left a k) (level_of regs w tries k) q
  -- no register stands twice in a list
  pub once : (k : ℕ) → k < count w → is_level (ins_at w k) ≡ true → Once (list_left a k)
  -- a position that is no level has an empty list
  pub empty : (k : ℕ) → k < count w → is_level (ins_at w k) ≡ false → list_left a k ≡ []

-- two answers: one length, one list and one page of offsets
pub record SameLists (w : List ℕ) (r r' : Answer) (a a' : Lists) : Type 0 where
  pub total : r.first ≡ r'.first
  pub list : take r.first a.list ≡ take r'.first a'.list
  pub offsets : take (suc (count w)) a.offsets ≡ take (suc (count w)) a'.offsets

-- ---- fold and clear, one after the other

-- the counts that a fold answers: instructions, constants, phi_map, phi_sources
abbrev pub folded_of : Answer → Folded
folded_of r = record { instructions = r.first; constants = r.second; map = r.third; sources = r.fourth }

-- what a fold left is lent to another, the code cut at the answered count and the counts as answered: it is answered too
abbrev pub FoldsNext : Counts → Answer → Lending → Type 0
FoldsNext c r a = (strict : Bool) (t : Answer) (y : Lending) → FoldCall strict (counts_left (folded_of r) c) (cut_at (folded_of r) a) t y → t.refusal ≡ 0

-- it is cleared first, with a scratch as long as there are constants, and folded again: both are answered
abbrev pub ClearsNext : Counts → Answer → Lending → Type 0
ClearsNext c r a =
    (scratch : List ℕ) → r.second ≤ length scratch
    → (s : Answer) (x : clearing.PoolBuffers) → ClearCall r.second (clearable (folded_of r) a scratch) s x
    → (s.refusal ≡ 0)
    × ((strict : Bool) (t : Answer) (y : Lending) → FoldCall strict (counts_cleared (folded_of r) c s.first) (cleared_buffers a x) t y → t.refusal ≡ 0)

-- what the clearing call is lent of b
abbrev pub clearing_of : Lending → List ℕ → clearing.PoolBuffers
clearing_of b scratch = clearing.pool_buffers b.buffers.code b.buffers.kinds b.buffers.words scratch

-- the chunk b is cleared before it is folded: both calls are answered, and the fold is as the one that answered r and left a
abbrev pub FoldsSame : Bool → Lending → Counts → Answer → Lending → Type 0
FoldsSame strict b c r a =
    (scratch : List ℕ) → c.constants ≤ length scratch
    → (s : Answer) (x : clearing.PoolBuffers) → ClearCall c.constants (clearing_of b scratch) s x
    → (t : Answer) (y : Lending)
    → FoldCall strict (with_constants s.first c) (cleared_buffers b x) t y
    → (s.refusal ≡ 0) × (t.refusal ≡ 0) × RefoldedAll (folded_of r) a (folded_of t) y

-- a chunk that the folding call accepts is accepted after clearing too, with the same buffers
abbrev pub FoldsCleared : Lending → Counts → Type 0
FoldsCleared b c =
    (scratch : List ℕ) (s : Answer) (x : clearing.PoolBuffers) → ClearCall c.constants (clearing_of b scratch) s x
    → s.refusal ≡ 0
    → (strict : Bool) (t : Answer) (y : Lending)
    → FoldCall strict (with_constants s.first c) (cleared_buffers b x) t y → t.refusal ≡ 0

-- a run from an empty stack ends before the fold exactly when it ends after it, with the same stack or the same stop
abbrev pub RunsKept : Lending → Answer → Lending → Type 0
RunsKept b r a =
    Same b.buffers.code b.buffers.kinds b.buffers.words (chunk.chunk_count b.buffers.code)
    a.buffers.code a.buffers.kinds a.buffers.words r.first

-- the same of clearing by itself, which leaves such a chunk again
pub record ClearsKept (b : clearing.PoolBuffers) (r : Answer) (a : clearing.PoolBuffers) : Type 0 where
  pub same : Same b.code b.kinds b.words (chunk.chunk_count b.code) a.code a.kinds a.words (chunk.chunk_count b.code)
  pub rule : WishRule a.code r.first

-- what a fold left is cleared, the code cut at the answered count and the constants as answered: it ends as b did; and so does what a strict fold of
-- that leaves
abbrev pub RunsCleared : Lending → Counts → Answer → Lending → Type 0
RunsCleared b c r a =
    (scratch : List ℕ) (s : Answer) (x : clearing.PoolBuffers) → ClearCall r.second (clearable (folded_of r) a scratch) s x → s.refusal ≡ 0
    → Same b.buffers.code b.buffers.kinds b.buffers.words (chunk.chunk_count b.buffers.code) x.code x.kinds x.words r.first
    × ((t : Answer) (y : Lending) → FoldCall true (counts_cleared (folded_of r) c s.first) (cleared_buffers a x) t y → t.refusal ≡ 0 → RunsKept b t y)

-- what a fold left is cleared, the code cut at the answered count: every instruction has the origin of one of b's, in the same order; and so has every
-- one that another fold leaves of that
abbrev pub OriginsKept : Lending → Counts → Answer → Lending → Type 0
OriginsKept b c r a =
    let w = b.buffers.code in
    (scratch : List ℕ) (s : Answer) (x : clearing.PoolBuffers) → ClearCall r.second (clearable (folded_of r) a scratch) s x → s.refusal ≡ 0
    → Carried (chunk.chunk_count w) w r.first x.code
    × ((strict : Bool) (t : Answer) (y : Lending) → FoldCall strict (counts_cleared (folded_of r) c s.first) (cleared_buffers a x) t y → t.refusal ≡ 0
    → Carried (chunk.chunk_count w) w t.first y.buffers.code)

-- ---- clear

-- of m constants, r.first are left: exactly those that some instruction with the mark names
pub record ClearHolds (m : ℕ) (b : clearing.PoolBuffers) (r : Answer) (a : clearing.PoolBuffers) : Type 0 where
  -- the count is how many are named, and never grows
  pub count : r.first ≡ before b.code m
  pub fewer : r.first ≤ m
  -- each named constant stands at the number of named ones before it, so in its order
  pub kind : (i : ℕ) → i < m → constant_named b.code i ≡ true → get_or a.kinds (before b.code i) 0 ≡ get_or b.kinds i 0
  pub word : (i : ℕ) → i < m → constant_named b.code i ≡ true → get_or a.words (before b.code i) 0 ≡ get_or b.words i 0
  pub order : (i j : ℕ) → i < j → constant_named b.code i ≡ true → before b.code i < before b.code j
  -- each place below the new count is one named constant's
  pub onto : (j : ℕ) → j < r.first → (i : ℕ) × (i < m) × (constant_named b.code i ≡ true) × (before b.code i ≡ j)
  -- freed entries are 0
  pub kinds_freed : (j : ℕ) → r.first ≤ j → j < m → get_or a.kinds j 0 ≡ 0
  pub words_freed : (j : ℕ) → r.first ≤ j → j < m → get_or a.words j 0 ≡ 0
  -- opcodes and marks stay, and so do operands without the mark and operands at or past the count
  pub ops : (k : ℕ) → k < chunk.chunk_count b.code → op_at a.code k ≡ op_at b.code k
  pub marks : (k : ℕ) → k < chunk.chunk_count b.code → mark_at a.code k ≡ mark_at b.code k
  pub plain : (k : ℕ) → k < chunk.chunk_count b.code → names b.code k ≡ false → operand_at a.code k ≡ operand_at b.code k
  pub far : (k : ℕ) → k < chunk.chunk_count b.code → m ≤ operand_at b.code k → operand_at a.code k ≡ operand_at b.code k
  -- an operand with the mark, below the count, becomes its constant's new number
  pub near : (k : ℕ) → k < chunk.chunk_count b.code → names b.code k ≡ true → operand_at b.code k < m
      → operand_at a.code k ≡ before b.code (operand_at b.code k)
  -- an instruction with the mark loads the same kind and word as before, or still none
  pub loads_kind : (k : ℕ) → k < chunk.chunk_count b.code → names b.code k ≡ true
      → loaded a.kinds r.first (operand_at a.code k) ≡ loaded b.kinds m (operand_at b.code k)
  pub loads_word : (k : ℕ) → k < chunk.chunk_count b.code → names b.code k ≡ true
      → loaded a.words r.first (operand_at a.code k) ≡ loaded b.words m (operand_at b.code k)
  -- the scratch holds each constant's new number
  pub scratch : a.scratch ≡ numbered (before b.code) m b.scratch

-- a clearing call that answered r and left a is asked again: the same answer, and nothing changes but the scratch, which then counts from 0
pub record ClearedTwice (r : Answer) (a : clearing.PoolBuffers) (s : Answer) (x : clearing.PoolBuffers) : Type 0 where
  pub answer : s ≡ r
  pub code : x.code ≡ a.code
  pub kinds : x.kinds ≡ a.kinds
  pub words : x.words ≡ a.words
  pub scratch : x.scratch ≡ numbered (λ i. i) r.first a.scratch
