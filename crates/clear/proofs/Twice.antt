-- Running the clearing call twice changes nothing more. Assumes nothing.
use Prim.Native.Nat.{ℕ, zero, suc, ◌+◌, ◌*◌, ◌≤◌, ◌<◌}
use native.Mathlib.Nat.{sub_self, le_refl}
use native.Mathlib.Numerals.{add-one}
use native.Mathlib.Omega.{arith}
use mathlib.Core.Path.{◌≡◌, refl, sym, ap, ◌∙◌}
use mathlib.Core.Bool.{Bool, true, false}
use mathlib.Core.List.{List, [], ◌∷◌}
use lib.Dec.{ltb}
use lib.ListN.{length, get_or, take, drop, length-append, length-drop, take-append-drop}
use lib.Seq.{set-get_or, take-suc}
use borrow.Author.Tests.{ltb-true, ltb-false, le-leb, le-ltb}
use Rattle.laws.specs.All.{every, many}
use Rattle.laws.specs.Each.{each}
use Rattle.laws.specs.Walk.{first}
use Rattle.laws.proofs.Branch.{and-true}
use Rattle.laws.proofs.Each.{each_word}
use Rattle.laws.proofs.Many.{many_few}
use Rattle.refusals.specs.Stages.{Checked}
use Rattle.std.specs.declared.result.Result.TheVariants.{Ok, Err}
use Rattle.refusals.proofs.Stages.{room_before}
use Rattle.chunk.specs.Chunk.{stride, chunk_count, operand_at, names, breaks_at}
use Rattle.chunk.specs.Tables.{constant_kept, within, constants_kept, table_of}
use Rattle.chunk.specs.Check.{first_bad_of, chunk_check_of}
use Rattle.laws.proofs.Counting.{every_at}
use Rattle.named.specs.Unused.{constant_named, before, packed_list, pooled, renamed_operand, recoded, numbered}
use Rattle.clear.specs.Clear.{Is, No, PoolBuffers, ClearOutcome, clear_outcome, cleared, clear_ready_of, clear_call}
use Rattle.clear.specs.Inner.{ClearRoom}
use Rattle.clear.proofs.Answers.{refused_call, answered_call}
use Rattle.clear.proofs.Whole.{numbered_ext}
use Rattle.named.proofs.Recoding.{Recoding, recoding_none, recoding_more, recoding_done}
use Rattle.clear.proofs.Tested.{held_of, table_met}
use Rattle.clear.proofs.Kept.{named_by, naming, onto, pooled_kept, pooled_length}
use Rattle.clear.proofs.Loads.{recoded_length, recoded_count, recoded_op, recoded_mark, recoded_names, near_moves, operand_unmarked, operand_far}
use Rattle.clear.proofs.Loads.{operand_near}

-- ---- where every constant is named, nothing moves

many_all : (f : ℕ → Bool) (n : ℕ) → ((j : ℕ) → j < n → f j ≡ true) → many f n ≡ n
unfolding many
many_all f zero h = refl
many_all f (suc n) h = rw (many_all f n (λ j l. h j (omega arith)), h n (omega arith)) (omega arith)

kept_all : (f : ℕ → Bool) (n : ℕ) (l : List ℕ) → ((j : ℕ) → j < n → f j ≡ true) → n ≤ length l → packed_list f n l ≡ take n l
unfolding packed_list each
kept_all f zero l h b = refl
kept_all f (suc n) l h b = rw (h n (omega arith), kept_all f n l (λ j q. h j (omega arith)) (omega arith)) (sym (take-suc l n 0 b))

pooled_all : (f : ℕ → Bool) (n : ℕ) (l : List ℕ) → ((j : ℕ) → j < n → f j ≡ true) → n ≤ length l → pooled f n l ≡ l
unfolding pooled
pooled_all f n l h b = rw (kept_all f n l h b, many_all f n h, sub_self n) (take-append-drop n l)

module _ (number : ℕ → ℕ) (m : ℕ) (w : List ℕ) (long : length w ≡ stride * chunk_count w) (same : (k : ℕ) → k < chunk_count w → renamed_operand number m w k
    ≡ operand_at w k) where
  still : (k : ℕ) → k ≤ chunk_count w → Recoding number m w w k
  still zero h = recoding_none number m w
  still (suc k) h =
      let r = recoding_more (still k (omega arith)) (operand_at w k) (sym (same k h)) h long in
      let z = rw (set-get_or w (stride * k + 2) 0) at r in
      rw (add-one k) at z

  pub recoded_idle : recoded number m w ≡ w
  recoded_idle = sym (recoding_done (still (chunk_count w) (le_refl (chunk_count w))) (le_refl (chunk_count w)) (le_refl (chunk_count w)) long)

-- ---- after the call every constant is named

module _ (w : List ℕ) (m : ℕ) where
  pub all_named : (j : ℕ) → j < before w m → constant_named (recoded (before w) m w) j ≡ true
  all_named j h =
      let p = onto (constant_named w) m j h in
      let x = naming w p.place p.passes in
      let q : operand_at w x.by < m = rw x.is p.below in
      named_by (recoded (before w) m w) j x.by (rw (recoded_count (before w) m w) x.there) (recoded_names (before w) m w x.by x.there ∙ x.mark)
      (near_moves (before w) m w x.by x.there x.mark q ∙ ap (before w) x.is ∙ p.number)

  abbrev after : List ℕ
  after = recoded (before w) m w

  same_operand : (k : ℕ) → renamed_operand (before after) (before w m) after k ≡ operand_at after k
  same_operand k = go (names after k) refl (ltb (operand_at after k) (before w m)) refl
    where
      go : (n : Bool) → names after k ≡ n → (t : Bool) → ltb (operand_at after k) (before w m) ≡ t → renamed_operand (before after) (before w m) after k
          ≡ operand_at after k
      go false n t e = operand_unmarked (before after) (before w m) after k n
      go true n false e = operand_far (before after) (before w m) after k (ltb-false (operand_at after k) (before w m) e)
      go true n true e =
          let q = ltb-true (operand_at after k) (before w m) e in
          operand_near (before after) (before w m) after k n q ∙ many_all (constant_named after) (operand_at after k) (λ j l. all_named j (omega arith))

  code_again : recoded (before after) (before w m) after ≡ after
  code_again =
      recoded_idle (before after) (before w m) after
      (recoded_length (before w) m w ∙ ap (λ (x : ℕ). stride * x) (sym (recoded_count (before w) m w)))
      (λ k h. same_operand k)

  pool_again : (l : List ℕ) → m ≤ length l → pooled (constant_named after) (before w m) (pooled (constant_named w) m l) ≡ pooled (constant_named w) m l
  pool_again l h = pooled_all (constant_named after) (before w m) (pooled (constant_named w) m l) all_named
      (omega (arith, pooled_length (constant_named w) m l h, many_few (constant_named w) m))

-- the same count, code, kinds and words; the scratch counts from 0 up to the constants that are left, and stays as lent past them
pub record Again (b : PoolBuffers) (r : ℕ) (o : ClearOutcome) : Type 0 where
  pub answer : o.answer ≡ Is r
  pub code : o.after.code ≡ b.code
  pub kinds : o.after.kinds ≡ b.kinds
  pub words : o.after.words ≡ b.words
  pub scratch : o.after.scratch ≡ numbered (λ i. i) r b.scratch

cleared_again : (b : PoolBuffers) (m : ℕ) → ClearRoom b m → Again (cleared b m).after (before b.code m) (cleared (cleared b m).after (before b.code m))
unfolding cleared
cleared_again b m h =
    record {
      answer = ap Is (many_all (constant_named (after b.code m)) (before b.code m) (all_named b.code m));
      code = code_again b.code m;
      kinds = pool_again b.code m b.kinds h.kinds;
      words = pool_again b.code m b.words h.words;
      scratch =
          numbered_ext (before (after b.code m)) (λ i. i) (before b.code m)
          (λ i l. many_all (constant_named (after b.code m)) i (λ j q. all_named b.code m j (omega arith)))
          (numbered (before b.code) m b.scratch);
    }

-- ---- and it is not refused

first_ext : (f g : ℕ → Bool) (n k : ℕ) → ((i : ℕ) → i < k + n → f i ≡ g i) → first f k n ≡ first g k n
unfolding first
first_ext f g zero k h = refl
first_ext f g (suc n) k h = rw (h k (omega arith), first_ext f g n (suc k) (λ i l. h i (omega arith)))

pub every_of : (f : ℕ → Bool) (n : ℕ) → ((k : ℕ) → k < n → f k ≡ true) → every f n ≡ true
unfolding every
every_of f zero h = refl
every_of f (suc n) h = rw (every_of f n (λ k l. h k (omega arith)), h n (omega arith))

module _ (number : ℕ → ℕ) (m : ℕ) (w : List ℕ) (long : length w ≡ stride * chunk_count w) where
  breaks_same : (k : ℕ) → k < chunk_count w → breaks_at (recoded number m w) k ≡ breaks_at w k
  breaks_same k h = rw (recoded_op number m w k h, recoded_mark number m w k h)

  first_same : first_bad_of (recoded number m w) ≡ first_bad_of w
  first_same =
      ap (first (breaks_at (recoded number m w)) 0) (recoded_count number m w)
      ∙ first_ext (breaks_at (recoded number m w)) (breaks_at w) (chunk_count w) 0 (λ i h. breaks_same i (omega arith))

  pub check_same : chunk_check_of (recoded number m w) ≡ chunk_check_of w
  unfolding chunk_check_of
  check_same = let e : length (recoded number m w) ≡ length w = recoded_length number m w ∙ sym long in rw (first_same, e)

module _ (w kinds words : List ℕ) (m : ℕ) (hk : m ≤ length kinds) (hw : m ≤ length words) (few : m ≤ 65536) where
  entry_kept : every (constant_kept kinds words) m ≡ true → (j : ℕ) → j < before w m → constant_kept (pooled (constant_named w) m kinds)
      (pooled (constant_named w) m words) j ≡ true
  entry_kept e j h =
      let p = onto (constant_named w) m j h in
      let k : get_or (pooled (constant_named w) m kinds) j 0 ≡ get_or kinds p.place 0 = ap (λ (x : ℕ). get_or (pooled (constant_named w) m kinds) x 0)
      (sym p.number)
      ∙ pooled_kept (constant_named w) m kinds p.place p.below p.passes in
      let v : get_or (pooled (constant_named w) m words) j 0 ≡ get_or words p.place 0 = ap (λ (x : ℕ). get_or (pooled (constant_named w) m words) x 0)
      (sym p.number)
      ∙ pooled_kept (constant_named w) m words p.place p.below p.passes in
      rw (k, v) (every_at (constant_kept kinds words) m p.place e p.below)

  pub constants_same : every (constant_kept kinds words) m ≡ true → constants_kept (pooled (constant_named w) m kinds) (pooled (constant_named w) m words)
      (before w m) ≡ true
  constants_same e =
      let f = many_few (constant_named w) m in
      let a : before w m ≤ 65536 = omega arith in
      let b : before w m ≤ length (pooled (constant_named w) m kinds) = omega (arith, pooled_length (constant_named w) m kinds hk) in
      let c : before w m ≤ length (pooled (constant_named w) m words) = omega (arith, pooled_length (constant_named w) m words hw) in
      rw (
        le-leb (before w m) 65536 a,
        le-leb (before w m) (length (pooled (constant_named w) m kinds)) b,
        le-leb (before w m) (length (pooled (constant_named w) m words)) c,
        every_of (constant_kept (pooled (constant_named w) m kinds) (pooled (constant_named w) m words)) (before w m) (entry_kept e),
      )

numbered_length : (number : ℕ → ℕ) (m : ℕ) (l : List ℕ) → m ≤ length l → length (numbered number m l) ≡ length l
unfolding numbered
numbered_length number m l h = length-append (each (λ i. number i ∷ []) m) (drop m l) ∙ omega (arith, each_word number m, length-drop m l)

module _ (b : PoolBuffers) (m n : ℕ) (ready : clear_ready_of b m ≡ Ok n) where
  held : ClearRoom b m
  held = held_of b m (Ok n) (sym ready) n refl

  ready_again : clear_ready_of (cleared b m).after (before b.code m) ≡ Ok n
  unfolding clear_ready_of cleared
  ready_again =
      let v = table_of (chunk_check_of b.code) 1 (constants_kept b.kinds b.words m) in
      let t = table_met n (chunk_check_of b.code) 1 (constants_kept b.kinds b.words m) (sym (room_before n v 1 (length b.scratch) m (sym ready))) in
      let e = (and-true (within m (length b.kinds) (length b.words)) (every (constant_kept b.kinds b.words) m) t.1).1 in
      let s : before b.code m ≤ length (numbered (before b.code) m b.scratch) = omega
      (arith, numbered_length (before b.code) m b.scratch held.scratch, many_few (constant_named b.code) m, held.scratch) in
      rw (
        check_same (before b.code) m b.code held.whole,
        t.0,
        constants_same b.code b.kinds b.words m held.kinds held.words held.few e,
        le-ltb (length (numbered (before b.code) m b.scratch)) (before b.code m) s,
      )

  call_again : Again (cleared b m).after (before b.code m) (clear_call (cleared b m).after (before b.code m))
  unfolding clear_call
  call_again = rw ready_again (cleared_again b m held)

-- an answer asked for again is the same answer
pub clear_twice : (b : PoolBuffers) (m r : ℕ) (a : PoolBuffers) → clear_call b m ≡ clear_outcome (Is r) a → Again a r (clear_call a r)
clear_twice b m r a e = go (clear_ready_of b m) refl
  where
    go : (v : Checked) → clear_ready_of b m ≡ v → Again a r (clear_call a r)
    go (Err q) f =
        let y : No q ≡ Is r = ap (λ (x : ClearOutcome). x.answer) (sym (refused_call b m q f) ∙ e) in
        absurd (let z : ◌≡◌ {A = ℕ} 0 1 = cc in omega arith)
    go (Ok n) f =
        let h : clear_outcome (Is (before b.code m)) (cleared b m).after ≡ clear_outcome (Is r) a = sym (answered_call b m n f) ∙ e in
        let y : Is (before b.code m) ≡ Is r = ap (λ (x : ClearOutcome). x.answer) h in
        let i : before b.code m ≡ r = cc in
        let j : (cleared b m).after ≡ a = ap (λ (x : ClearOutcome). x.after) h in
        rw (← i, ← j) (call_again b m n f)
