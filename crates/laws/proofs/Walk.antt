-- Laws of `first` for a loop that counts k up to n, tests t at k, and keeps that what is left has the answer r of the whole. Assumes nothing.
use mathlib.Core.Path.{◌≡◌, refl}
use mathlib.Core.Logic.{⊎_elim}
use mathlib.Core.Bool.{Bool, true, false, cond}
use Prim.Native.Nat.{ℕ, zero, suc, ◌+◌, ◌-◌, ◌<◌, ◌≤◌}
use native.Mathlib.Nat.{eq-or-lt_of_le}
use native.Mathlib.Omega.{arith}
use native.Mathlib.Numerals.{add-one}
use Rattle.laws.specs.Walk.{first}

module _ (f : ℕ → Bool) (k n r : ℕ) where
  pub begins : first f 0 n ≡ r → first f 0 (n - 0) ≡ r
  begins e =
      let d : n - 0 ≡ n = omega arith in
      rw d e

  pub goes_on : (t : Bool) → t ≡ f k → t ≡ false → k < n → first f k (n - k) ≡ r → first f (k + 1) (n - (k + 1)) ≡ r
  unfolding first
  goes_on t e z h i =
      let d : n - k ≡ suc (n - (k + 1)) = omega arith in
      let q : f k ≡ false = cc in
      rw add-one (rw (d, q, add-one) at i)

  pub stops : (t : Bool) → t ≡ f k → t ≡ true → k < n → first f k (n - k) ≡ r → k ≡ r
  unfolding first
  stops t e z h i =
      let d : n - k ≡ suc (n - (k + 1)) = omega arith in
      let q : f k ≡ true = cc in
      rw (d, q) at i

  pub ends : n ≤ k → first f k (n - k) ≡ r → k ≡ r
  unfolding first
  ends h i =
      let d : n - k ≡ 0 = omega arith in
      rw d at i

pub ruleset finds = (begins, goes_on, stops, ends)

-- no place passes f where the walk reaches the end
module _ (f : ℕ → Bool) (j : ℕ) where
  step : (m k : ℕ) (b : Bool) → f k ≡ b → k + suc m ≤ first f k (suc m) → k ≤ j → j < k + suc m
      → (suc k + m ≤ first f (suc k) m → suc k ≤ j → j < suc k + m → f j ≡ false)
      → f j ≡ false
  unfolding first
  step m k true e h l u ih =
      let z : k + suc m ≤ k = rw e at h in
      absurd (omega arith)
  step m k false e h l u ih =
      let z : k + suc m ≤ first f (suc k) m = rw e at h in
      ⊎_elim (λ q. rw (← q) e) (λ q. ih (omega arith) q (omega arith)) (eq-or-lt_of_le l)

  pub none_passed : (m k : ℕ) → k + m ≤ first f k m → k ≤ j → j < k + m → f j ≡ false
  none_passed zero k h l u = absurd (omega arith)
  none_passed (suc m) k h l u = step m k (f k) refl h l u (none_passed m (suc k))

-- the end is as far as the walk goes
pub first_le : (f : ℕ → Bool) (m k : ℕ) → first f k m ≤ k + m
unfolding first
first_le f zero k = omega arith
first_le f (suc m) k = go (f k) (first_le f m (suc k))
  where
    go : (t : Bool) → first f (suc k) m ≤ suc k + m → cond t k (first f (suc k) m) ≤ k + suc m
    go true h = omega arith
    go false h = omega arith

-- it reaches the end where no place passes
pub reaches : (f : ℕ → Bool) (m k : ℕ) → ((j : ℕ) → k ≤ j → j < k + m → f j ≡ false) → first f k m ≡ k + m
unfolding first
reaches f zero k h = omega arith
reaches f (suc m) k h = rw (h k (omega arith) (omega arith)) (omega (arith, reaches f m (suc k) (λ j a b. h j (omega arith) (omega arith))))

-- and short of the end it stands where one passes
pub first_passes : (f : ℕ → Bool) (m k : ℕ) → first f k m < k + m → f (first f k m) ≡ true
unfolding first
first_passes f zero k h = absurd (omega arith)
first_passes f (suc m) k h = go (f k) refl h (first_passes f m (suc k))
  where
    go : (t : Bool) → f k ≡ t → cond t k (first f (suc k) m) < k + suc m → (first f (suc k) m < suc k + m → f (first f (suc k) m) ≡ true)
        → f (cond t k (first f (suc k) m)) ≡ true
    go true e h ih = e
    go false e h ih = ih (omega arith)
