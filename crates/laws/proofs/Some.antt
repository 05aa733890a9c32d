-- Laws of `some`, for a loop that tests t at each k below n and leaves at the first that passes. Assumes nothing.
use mathlib.Core.Path.{◌≡◌, refl, sym, ◌∙◌}
use mathlib.Core.Logic.{⊎_elim}
use mathlib.Core.Bool.{Bool, true, false, ◌||◌}
use Prim.Native.Nat.{ℕ, zero, suc, ◌+◌, ◌<◌, ◌≤◌}
use native.Mathlib.Nat.{eq-or-lt_of_le}
use native.Mathlib.Omega.{arith}
use native.Mathlib.Numerals.{add-one}
use Rattle.laws.specs.Some.{some}

or_yes : (b : Bool) → b || true ≡ true
or_yes true = refl
or_yes false = refl

module _ (f : ℕ → Bool) where
  pub nowhere_yet : some f 0 ≡ false
  unfolding some
  nowhere_yet = refl

  pub some_more : (k : ℕ) → some f (k + 1) ≡ some f k || f k
  unfolding some
  some_more k = rw add-one

  pub passes_at : (k n : ℕ) → k < n → f k ≡ true → some f n ≡ true
  unfolding some
  passes_at k zero h e = absurd (omega arith)
  passes_at k (suc n) h e =
      ⊎_elim
      (λ q. rw (rw q at e) (or_yes (some f n)))
      (λ q. rw (passes_at k n q e))
      (eq-or-lt_of_le (le_of k n h))
    where
      le_of : (k n : ℕ) → k < suc n → k ≤ n
      le_of k n h = omega arith

  module _ (k n : ℕ) (t : Bool) (e : t ≡ f k) where
    pub not_here : t ≡ false → some f k ≡ false → some f (k + 1) ≡ false
    not_here h x = rw (some_more k, x, sym e ∙ h)

    pub here_it_is : t ≡ true → k < n → true ≡ some f n
    here_it_is h l = sym (passes_at k n l (sym e ∙ h))

  pub nowhere : (k n : ℕ) → n ≤ k → k ≤ n → some f k ≡ false → false ≡ some f n
  nowhere k n h l x = let q : n ≡ k = omega arith in rw q (sym x)

pub ruleset somewhere = (nowhere_yet, not_here, here_it_is, nowhere)
