-- Laws of `many` and `every` whatever the loop, and a list of zeros. Assumes nothing.
use Prim.Native.Nat.{ℕ, zero, suc, ◌+◌, ◌-◌, ◌≤◌, ◌<◌}
use native.Mathlib.Nat.{eq-or-lt_of_le, le_of_suc-le-suc}
use native.Mathlib.Omega.{arith}
use mathlib.Core.Path.{◌≡◌, refl}
use mathlib.Core.Logic.{⊎_elim}
use mathlib.Core.Bool.{Bool, true, false}
use lib.ListN.{get_or, replicate}
use Rattle.laws.specs.All.{every, many}
use Rattle.laws.proofs.Branch.{and-true}

module _ (f : ℕ → Bool) where
  many_on : (d k : ℕ) → many f k ≤ many f (d + k)
  unfolding many
  many_on zero k = let e : 0 + k ≡ k = omega arith in rw e (omega arith)
  many_on (suc d) k = let e : suc d + k ≡ suc (d + k) = omega arith in rw e (omega (arith, many_on d k))

  -- no fewer pass below n than below k
  pub many_le : (k n : ℕ) → k ≤ n → many f k ≤ many f n
  many_le k n h = let e : (n - k) + k ≡ n = omega arith in rw e at (many_on (n - k) k)

  pub many_none : (n : ℕ) → ((k : ℕ) → k < n → f k ≡ false) → many f n ≡ 0
  unfolding many
  many_none zero h = refl
  many_none (suc n) h = rw (many_none n (λ k l. h k (omega arith)), h n (omega arith)) refl

  pub many_ext : (g : ℕ → Bool) (n : ℕ) → ((k : ℕ) → k < n → f k ≡ g k) → many f n ≡ many g n
  unfolding many
  many_ext g zero h = refl
  many_ext g (suc n) h = rw (many_ext g n (λ k l. h k (omega arith)), h n (omega arith))

  pub every_at : (n k : ℕ) → every f n ≡ true → k < n → f k ≡ true
  unfolding every
  every_at zero k e h = absurd (omega arith)
  every_at (suc n) k e h =
      let p = and-true (every f n) (f n) e in
      ⊎_elim (λ q. rw q p.1) (λ q. every_at n k p.0 q) (eq-or-lt_of_le (le_of_suc-le-suc h))

  -- where every place passes, so many do
  pub many_all : (n : ℕ) → every f n ≡ true → many f n ≡ n
  unfolding every many
  many_all zero e = refl
  many_all (suc n) e = let p = and-true (every f n) (f n) e in rw (many_all n p.0, p.1) (omega arith)

  every_on : (d k : ℕ) → every f (d + k) ≡ true → every f k ≡ true
  unfolding every
  every_on zero k e = let z : 0 + k ≡ k = omega arith in rw z at e
  every_on (suc d) k e =
      let z : suc d + k ≡ suc (d + k) = omega arith in
      let g : every f (suc (d + k)) ≡ true = rw z at e in
      every_on d k (and-true (every f (d + k)) (f (d + k)) g).0

  pub every_le : (k n : ℕ) → k ≤ n → every f n ≡ true → every f k ≡ true
  every_le k n h e = let z : (n - k) + k ≡ n = omega arith in every_on (n - k) k (rw z e)

pub zeros_at : (n i : ℕ) → ◌≡◌ {A = ℕ} (get_or (replicate n 0) i 0) 0
zeros_at zero i = refl
zeros_at (suc n) zero = refl
zeros_at (suc n) (suc i) = zeros_at n i
