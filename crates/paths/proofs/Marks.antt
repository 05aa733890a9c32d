-- Marks of 0 and 1: how many of the first n are set, and a mark more. Assumes nothing.
use mathlib.Core.Path.{◌≡◌, refl}
use mathlib.Core.Bool.{Bool, true, false}
use mathlib.Core.List.{List}
use Prim.Native.Nat.{ℕ, zero, suc, ◌+◌, ◌<◌, ◌≤◌}
use native.Mathlib.Omega.{arith}
use lib.Dec.{eqb}
use lib.ListN.{length, get_or, set}
use lib.Seq.{get_or-set_same, get_or-set_other}
use borrow.Author.Tests.{eqb-true, eqb-false}

unfoldable pub marked : List ℕ → ℕ → ℕ
marked l zero = 0
marked l (suc m) = marked l m + get_or l m 0

pub few_marked : (l : List ℕ) (n : ℕ) → ((j : ℕ) → j < n → get_or l j 0 ≤ 1) → marked l n ≤ n
unfolding marked
few_marked l zero h = omega arith
few_marked l (suc n) h = omega (arith, few_marked l n (λ j g. h j (omega arith)), h n (omega arith))

module _ (l : List ℕ) (j v : ℕ) (l-has : j < length l) where
  at_cases : (i : ℕ) (b : Bool) → eqb i j ≡ b → (P : ℕ → Type 0) → (i ≡ j → P v) → ((i ≡ j → ⊥) → P (get_or l i 0)) → P (get_or (set l j v) i 0)
  at_cases i true e P same other = let q = eqb-true i j e in rw (q, get_or-set_same l j v 0 l-has) (same q)
  at_cases i false e P same other = let q = eqb-false i j e in rw (get_or-set_other l j i v 0 q) (other q)

  -- a store at j, read at i
  pub stored_at : (i : ℕ) (P : ℕ → Type 0) → (i ≡ j → P v) → ((i ≡ j → ⊥) → P (get_or l i 0)) → P (get_or (set l j v) i 0)
  stored_at i P = at_cases i (eqb i j) refl P

  past : (n : ℕ) → n ≤ j → marked (set l j v) n ≡ marked l n
  unfolding marked
  past zero h = refl
  past (suc n) h = rw (past n (omega arith), get_or-set_other l j n v 0 (omega arith))

  more_cases : (n : ℕ) (b : Bool) → eqb n j ≡ b → j < suc n → (j < n → marked (set l j v) n + get_or l j 0 ≡ marked l n + v)
      → marked (set l j v) (suc n) + get_or l j 0 ≡ marked l (suc n) + v
  unfolding marked
  more_cases n true e h ih =
      let q = eqb-true n j e in
      rw (q, past j (omega arith), get_or-set_same l j v 0 l-has) (omega arith)
  more_cases n false e h ih =
      let q = eqb-false n j e in
      rw (get_or-set_other l j n v 0 q) (omega (arith, ih (omega arith)))

  pub more_marked : (n : ℕ) → j < n → marked (set l j v) n + get_or l j 0 ≡ marked l n + v
  more_marked zero h = absurd (omega arith)
  more_marked (suc n) h = more_cases n (eqb n j) refl h (more_marked n)
