-- A register that is listed before, and one that is not in the file: one law for each way out. Assumes nothing.
use mathlib.Core.Path.{◌≡◌, refl, sym, ap₂, ◌∙◌}
use mathlib.Core.Bool.{Bool, true, false, ◌||◌}
use mathlib.Core.List.{List}
use Prim.Native.Nat.{ℕ, zero, suc, ◌+◌, ◌≤◌, ◌<◌, zero-le}
use native.Mathlib.Numerals.{add-one}
use native.Mathlib.Omega.{arith}
use borrow.Author.Tests.{eq-eqb, ne_eqb, leb-false}
use lib.Dec.{leb, eqb}
use lib.ListN.{length, get_or, take}
use Rattle.std.specs.Prelude.{nat_eq}
use Rattle.std.specs.List.{list_any}
use Rattle.std.proofs.lemmas.List.Folds.{list_any_more}
use Rattle.laws.specs.Some.{some}
use Rattle.laws.proofs.Some.{passes_at, some_more, nowhere_yet, nowhere}
use Rattle.laws.proofs.Walk.{none_passed}
use Rattle.taken.specs.Lists.{strange, first_strange}

-- what is among the first i is at some place below i
pub among_first : (l : List ℕ) (q i : ℕ) → i ≤ length l → list_any (λ y. nat_eq y q) (take i l) ≡ some (λ j. eqb (get_or l j 0) q) i
unfolding some
among_first l q zero h = refl
among_first l q (suc i) h = rw (← add-one i, list_any_more (λ y. nat_eq y q) l i 0 (omega arith), among_first l q i (omega arith)) refl

abbrev pub as_at : List ℕ → ℕ → ℕ → Bool
as_at l i = λ j. eqb (get_or l j 0) (get_or l i 0)

module _ (l : List ℕ) (i : ℕ) where
  pub before_none : some (as_at l i) 0 ≡ false
  before_none = nowhere_yet (as_at l i)

  pub before_yes : (j : ℕ) → j < i → get_or l j 0 ≡ get_or l i 0 → true ≡ some (λ j. eqb (get_or l j 0) (get_or l i 0)) i
  before_yes j h e = sym (passes_at (as_at l i) j i h (eq-eqb (get_or l j 0) (get_or l i 0) e))

  pub before_on : (j : ℕ) → (get_or l j 0 ≡ get_or l i 0 → ⊥) → some (as_at l i) j ≡ false → some (as_at l i) (j + 1) ≡ false
  before_on j n e = rw (some_more (as_at l i) j, e, ne_eqb (get_or l j 0) (get_or l i 0) n)

  pub before_no : (j : ℕ) → i ≤ j → j ≤ i → some (as_at l i) j ≡ false → false ≡ some (λ j. eqb (get_or l j 0) (get_or l i 0)) i
  before_no j h k e = nowhere (as_at l i) j i h k e

  pub before_asked : (t : Bool) → i ≤ length l → t ≡ list_any (λ y. nat_eq y (get_or l i 0)) (take i l)
      → t ≡ some (λ j. eqb (get_or l j 0) (get_or l i 0)) i
  before_asked t h e = e ∙ among_first l (get_or l i 0) i h

pub strange_is : (regs : ℕ) (l : List ℕ) (i r : ℕ) (t : Bool) → r ≡ get_or l i 0 → t ≡ some (λ j. eqb (get_or l j 0) (get_or l i 0)) i
    → leb regs r || t ≡ strange regs l i
strange_is regs l i r t e f = ap₂ (λ (x : ℕ) (y : Bool). leb regs x || y) e f

-- where no place is strange, each register is in the file
pub all_in : (regs : ℕ) (l : List ℕ) → length l ≤ first_strange regs l → (i : ℕ) → i < length l → get_or l i 0 < regs
unfolding first_strange
all_in regs l h i k = leb-false regs (get_or l i 0)
    (left (leb regs (get_or l i 0)) (some (λ j. eqb (get_or l j 0) (get_or l i 0)) i) (none_passed (strange regs l) i (length l) 0 (omega arith) zero-le (omega arith)))
  where
    left : (a b : Bool) → a || b ≡ false → a ≡ false
    left true b e = e
    left false b e = refl
