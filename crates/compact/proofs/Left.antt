-- The words of what compaction leaves: a live instruction's stand at its new position, and zeros past them. Assumes nothing.
use Prim.Native.Nat.{ℕ, zero, suc, ◌+◌, ◌-◌, ◌*◌, ◌≤◌, ◌<◌}
use native.Mathlib.Omega.{arith}
use mathlib.Core.Path.{◌≡◌, refl, sym, ap, ◌∙◌}
use mathlib.Core.Bool.{Bool, true, false, cond}
use mathlib.Core.List.{List, [], ◌++◌}
use lib.Dec.{ltb, eqb}
use lib.ListN.{length, get_or, replicate, length-append, get_or-append}
use lib.Seq.{get_or-append-add}
use borrow.Author.Tests.{ltb-true, ltb-false, eqb-true, eq-eqb}
use mir.Val.{bool_byte}
use Rattle.laws.specs.All.{many}
use Rattle.laws.specs.Each.{each}
use Rattle.chunk.specs.Chunk.{stride, op_at, mark_at, operand_at, origin_at}
use Rattle.laws.proofs.Counting.{many_le, zeros_at}
use Rattle.positions.specs.Remap.{alive, live}
use Rattle.compact.specs.Tables.{moved_operand, words_of, left_at, left, compacted}
use Rattle.positions.proofs.Moves.{live_on}

-- a live position goes below what a later one has before it
pub live_less : (dead : List ℕ) (n k : ℕ) → k < n → get_or dead k 0 ≡ 0 → live dead k < live dead n
live_less dead n k h d = omega (arith, live_on dead k d, many_le (alive dead) (k + 1) n (omega arith))

-- ---- a position that is left comes from a live one

pub record From (dead : List ℕ) (n k : ℕ) : Type 0 where
  pub place : ℕ
  pub below : place < n
  pub lives : get_or dead place 0 ≡ 0
  pub is : live dead place ≡ k

pub from : (dead : List ℕ) (n k : ℕ) → k < live dead n → From dead n k
unfolding many
from dead zero k h = absurd (omega arith)
from dead (suc n) k h = go (eqb (get_or dead n 0) 0) refl (ltb k (live dead n)) refl h (from dead n k)
  where
    go : (t : Bool) → alive dead n ≡ t → (b : Bool) → ltb k (live dead n) ≡ b → k < live dead n + bool_byte (alive dead n)
        → (k < live dead n → From dead n k) → From dead (suc n) k
    go t e true q h ih = let f = ih (ltb-true k (live dead n) q) in record { place = f.place; below = omega (arith, f.below); lives = f.lives; is = f.is }
    go true e false q h ih =
        let g : k < live dead n + 1 = rw e at h in
        record { place = n; below = omega arith; lives = eqb-true _ _ e; is = omega (arith, ltb-false k (live dead n) q) }
    go false e false q h ih =
        let g : k < live dead n + 0 = rw e at h in
        absurd (omega (arith, ltb-false k (live dead n) q))

-- ---- the words of a live instruction

module _ (dead w : List ℕ) where
  left_on : (k : ℕ) → get_or dead k 0 ≡ 0 → left_at dead w k ≡ words_of dead w k
  left_on k d = rw (eq-eqb (get_or dead k 0) 0 d) refl

  pub left_long : (k : ℕ) → length (each (left_at dead w) k) ≡ stride * live dead k
  unfolding each many
  left_long zero = refl
  left_long (suc k) = length-append (each (left_at dead w) k) (left_at dead w k) ∙ omega (arith, left_long k, one_long (alive dead k))
    where
      one_long : (t : Bool) → length (cond t (words_of dead w k) []) ≡ stride * bool_byte t
      one_long true = refl
      one_long false = refl

  left_word : (n k j : ℕ) → k < n → j < stride → get_or dead k 0 ≡ 0 → get_or (each (left_at dead w) n) (stride * live dead k + j) 0 ≡ get_or (words_of dead w k) j 0
  unfolding each
  left_word zero k j h l d = absurd (omega arith)
  left_word (suc n) k j h l d = go (ltb k n) refl (λ b. left_word n k j b l d)
    where
      go : (t : Bool) → ltb k n ≡ t → (k < n → get_or (each (left_at dead w) n) (stride * live dead k + j) 0 ≡ get_or (words_of dead w k) j 0)
          → get_or (each (left_at dead w) n ++ left_at dead w n) (stride * live dead k + j) 0 ≡ get_or (words_of dead w k) j 0
      go true e ih =
          let b = ltb-true k n e in
          get_or-append (each (left_at dead w) n) (left_at dead w n) 0 (stride * live dead k + j) (omega (arith, left_long n, live_less dead n k b d)) ∙ ih b
      go false e ih =
          let s : k ≡ n = omega (arith, ltb-false k n e) in
          let f : stride * live dead k + j ≡ length (each (left_at dead w) n) + j = omega (arith, left_long n, ap (live dead) s) in
          let g : left_at dead w n ≡ words_of dead w n = left_on n (sym (ap (λ (m : ℕ). get_or dead m 0) s) ∙ d) in
          ap (λ (y : ℕ). get_or (each (left_at dead w) n ++ left_at dead w n) y 0) f ∙ get_or-append-add (each (left_at dead w) n) (left_at dead w n) j 0
          ∙ ap (λ (l : List ℕ). get_or l j 0) g ∙ ap (λ (m : ℕ). get_or (words_of dead w m) j 0) (sym s)

  word_left : (k j : ℕ) → k < length dead → j < stride → get_or dead k 0 ≡ 0 → get_or (compacted dead w) (stride * live dead k + j) 0 ≡ get_or (words_of dead w k) j 0
  unfolding compacted left
  word_left k j h l d =
      get_or-append (each (left_at dead w) (length dead)) (replicate (length w - length (each (left_at dead w) (length dead))) 0) 0 (stride * live dead k + j)
      (omega (arith, left_long (length dead), live_less dead (length dead) k h d))
      ∙ left_word (length dead) k j h l d

  module _ (k : ℕ) (h : k < length dead) (d : get_or dead k 0 ≡ 0) where
    pub op_left : op_at (compacted dead w) (live dead k) ≡ op_at w k
    op_left =
        let e : stride * live dead k ≡ stride * live dead k + 0 = omega arith in
        ap (λ (y : ℕ). get_or (compacted dead w) y 0) e ∙ word_left k 0 h (omega arith) d

    pub mark_left : mark_at (compacted dead w) (live dead k) ≡ mark_at w k
    mark_left = word_left k 1 h (omega arith) d

    pub operand_left : operand_at (compacted dead w) (live dead k) ≡ moved_operand dead w k
    operand_left = word_left k 2 h (omega arith) d

    pub origin_left : origin_at (compacted dead w) (live dead k) ≡ origin_at w k
    origin_left = word_left k 3 h (omega arith) d

  -- the words past what is left are 0
  pub mark_past : (k : ℕ) → live dead (length dead) ≤ k → mark_at (compacted dead w) k ≡ 0
  unfolding compacted left
  mark_past k h =
      let l = left_long (length dead) in
      let d = each (left_at dead w) (length dead) in
      let e : stride * k + 1 ≡ length d + (stride * k + 1 - length d) = omega arith in
      ap (λ (y : ℕ). get_or (d ++ replicate (length w - length d) 0) y 0) e ∙ get_or-append-add d (replicate (length w - length d) 0) (stride * k + 1 - length d) 0
      ∙ zeros_at (length w - length d) (stride * k + 1 - length d)
