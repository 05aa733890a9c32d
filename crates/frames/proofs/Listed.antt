-- Refusal 14 is given exactly where a listed register is not in the file or stands there twice. Assumes nothing.
use mathlib.Core.Path.{◌≡◌, refl, sym, ◌∙◌, subst}
use mathlib.Core.Logic.{⊎_elim}
use mathlib.Core.Bool.{Bool, true, false, ◌||◌, false≢true}
use mathlib.Core.List.Memᴰ
use mathlib.Core.List.{List, [], ◌∷◌, Memᴰ}
use Prim.Native.Nat.{ℕ, zero, suc, ◌+◌, ◌≤◌, ◌<◌, zero-le}
use native.Mathlib.Omega.{arith}
use borrow.Author.Tests.{lt-leb, eqb-true, eq-eqb}
use lib.Dec.{leb, eqb}
use lib.ListN.{length, get_or}
use Rattle.laws.specs.Some.{some}
use Rattle.laws.proofs.Some.{passes_at}
use Rattle.laws.proofs.Walk.{none_passed, reaches}
use Rattle.flow.specs.Demand.{Once}
use Rattle.taken.specs.Lists.{strange, first_strange}
use Rattle.taken.proofs.Lists.{all_in}

-- whether the number at place j is the one at place i
abbrev as_at : List ℕ → ℕ → ℕ → Bool
as_at l i = λ j. eqb (get_or l j 0) (get_or l i 0)

-- a member stands somewhere
pub in_place : {r : ℕ} (l : List ℕ) → Memᴰ r l → (i : ℕ) × (i < length l) × (get_or l i 0 ≡ r)
in_place [] m = absurd (Memᴰ.not-nil m)
in_place {r = r} (x ∷ l) m = ⊎_elim
    (λ e. (0, omega arith, sym e))
    (λ m'. let (i, h, e) = in_place {r = r} l m' in (suc i, omega arith, e)) (Memᴰ.cases_cons m)

-- and what stands somewhere is a member
pub at_place : (l : List ℕ) (i : ℕ) → i < length l → Memᴰ (get_or l i 0) l
at_place [] i h = absurd (omega arith)
at_place (x ∷ l) zero h = Memᴰ.head refl
at_place (x ∷ l) (suc i) h = Memᴰ.tail (at_place l i (omega arith))

-- some place passes
passed : (f : ℕ → Bool) (n : ℕ) → some f n ≡ true → (j : ℕ) × (j < n) × (f j ≡ true)
unfolding some
passed f zero e = absurd (false≢true e)
passed f (suc n) e = go (some f n) refl (λ h. passed f n h)
  where
    go : (t : Bool) → some f n ≡ t → (some f n ≡ true → (j : ℕ) × (j < n) × (f j ≡ true)) → (j : ℕ) × (j < suc n) × (f j ≡ true)
    go true q rec = let (j, h, p) = rec q in (j, omega arith, p)
    go false q rec = (n, omega arith, rw q at e)

-- one register at two places, and the list is not once
twice : (l : List ℕ) (i j : ℕ) → j < i → i < length l → get_or l j 0 ≡ get_or l i 0 → Once l → ⊥
twice [] i j h k e o = omega arith
twice (x ∷ l) zero j h k e o = omega arith
twice (x ∷ l) (suc i) zero h k e o = o.0 (subst (λ (y : ℕ). Memᴰ y l) (sym e) (at_place l i (omega arith)))
twice (x ∷ l) (suc i) (suc j) h k e o = twice l i j (omega arith) (omega arith) e o.1

module _ (regs : ℕ) (l : List ℕ) where
  -- registers of the file, each listed once: not refused
  pub fine_list : ((r : ℕ) → Memᴰ r l → r < regs) → Once l → length l ≤ first_strange regs l
  unfolding first_strange
  fine_list below once = omega (arith, reaches (strange regs l) (length l) 0 (λ j a b. plain j b))
    where
      plain : (j : ℕ) → j < 0 + length l → strange regs l j ≡ false
      plain j h = rw (lt-leb regs (get_or l j 0) (below (get_or l j 0) (at_place l j (omega arith)))) (go (some (as_at l j) j) refl)
        where
          go : (t : Bool) → some (as_at l j) j ≡ t → t ≡ false
          go false e = refl
          go true e = let (i, k, p) = passed (as_at l j) j e in absurd (twice l j i k (omega arith) (eqb-true (get_or l i 0) (get_or l j 0) p) once)

  module _ (fine : length l ≤ first_strange regs l) where
    -- not refused: each is in the file
    pub fine_in : (r : ℕ) → Memᴰ r l → r < regs
    fine_in r m = let (i, h, e) = in_place l m in subst (λ (x : ℕ). x < regs) e (all_in regs l fine i h)

    apart : (i j : ℕ) → j < i → i < length l → get_or l j 0 ≡ get_or l i 0 → ⊥
    unfolding first_strange
    apart i j h k e = false≢true
        (sym (right (leb regs (get_or l i 0)) (some (as_at l i) i) (none_passed (strange regs l) i (length l) 0 (omega arith) zero-le (omega arith)))
        ∙ passes_at (as_at l i) j i h (eq-eqb (get_or l j 0) (get_or l i 0) e))
      where
        right : (a b : Bool) → a || b ≡ false → b ≡ false
        right true b e = absurd (false≢true (sym e))
        right false b e = e

    -- and stands there once
    pub fine_once : Once l
    fine_once = once l apart
      where
        once : (x : List ℕ) → ((i j : ℕ) → j < i → i < length x → get_or x j 0 ≡ get_or x i 0 → ⊥) → Once x
        once [] h = tt
        once (y ∷ x) h = (
          λ m. let (i, k, e) = in_place x m in h (suc i) 0 (omega arith) (omega arith) (sym e),
          once x (λ i j a b e. h (suc i) (suc j) (omega arith) (omega arith) e),
        )
