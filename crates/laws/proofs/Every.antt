-- Laws of `every`, for a loop that tests t at each k below n and leaves at the first that fails. Assumes nothing.
use mathlib.Core.Path.{◌≡◌, refl, sym, ◌∙◌}
use mathlib.Core.Logic.{⊎_elim}
use mathlib.Core.Bool.{Bool, true, false, not, ◌&&◌}
use Prim.Native.Nat.{ℕ, zero, suc, ◌+◌, ◌<◌, ◌≤◌}
use native.Mathlib.Nat.{eq-or-lt_of_le}
use native.Mathlib.Omega.{arith}
use native.Mathlib.Numerals.{add-one}
use borrow.Author.Tests.{not-true, not-false}
use Rattle.laws.specs.All.{every}

and_no : (b : Bool) → b && false ≡ false
and_no true = refl
and_no false = refl

module _ (f : ℕ → Bool) where
  pub none_yet : every f 0 ≡ true
  unfolding every
  none_yet = refl

  fails_at : (k n : ℕ) → k < n → f k ≡ false → every f n ≡ false
  unfolding every
  fails_at k zero h e = absurd (omega arith)
  fails_at k (suc n) h e =
      ⊎_elim
      (λ q. rw (rw q at e) (and_no (every f n)))
      (λ q. rw (fails_at k n q e))
      (eq-or-lt_of_le (le_of k n h))
    where
      le_of : (k n : ℕ) → k < suc n → k ≤ n
      le_of k n h = omega arith

  module _ (k n : ℕ) (t : Bool) (e : t ≡ f k) where
    pub one_more : t ≡ true → every f k ≡ true → every f (k + 1) ≡ true
    unfolding every
    one_more h x = rw (add-one, x, sym e ∙ h)

    pub one_fails : t ≡ false → k < n → false ≡ every f n
    one_fails h l = sym (fails_at k n l (sym e ∙ h))

    pub one_more' : not t ≡ false → every f k ≡ true → every f (k + 1) ≡ true
    one_more' h = one_more (not-false t h)

    pub one_fails' : not t ≡ true → k < n → false ≡ every f n
    one_fails' h = one_fails (not-true t h)

  pub all_pass : (k n : ℕ) → n ≤ k → k ≤ n → every f k ≡ true → true ≡ every f n
  all_pass k n h l x = let q : n ≡ k = omega arith in rw q (sym x)

pub ruleset all = (none_yet, one_more, one_fails, one_more', one_fails', all_pass)
