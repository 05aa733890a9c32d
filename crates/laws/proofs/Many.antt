-- Laws of `many`, for a loop that adds 1 at each k below n where a test t holds. Assumes nothing.
use mathlib.Core.Path.{◌≡◌, refl}
use mathlib.Core.Bool.{Bool, true, false}
use Prim.Native.Nat.{ℕ, zero, suc, ◌+◌, ◌≤◌}
use native.Mathlib.Omega.{arith}
use native.Mathlib.Numerals.{add-one}
use mir.Val.{bool_byte}
use Rattle.laws.specs.All.{many}

pub bit_small : (b : Bool) → bool_byte b ≤ 1
bit_small true = omega arith
bit_small false = omega arith

module _ (f : ℕ → Bool) where
  pub none_counted : 0 ≡ many f 0
  unfolding many
  none_counted = refl

  pub many_more : (k : ℕ) → many f (k + 1) ≡ many f k + bool_byte (f k)
  unfolding many
  many_more k = rw add-one

  pub counted_on : (k v r : ℕ) (t : Bool) → v ≡ many f k → r ≡ bool_byte t → t ≡ f k → v + r ≡ many f (k + 1)
  counted_on k v r t e g h = rw (many_more k, e, g, h)

  pub many_few : (k : ℕ) → many f k ≤ k
  unfolding many
  many_few zero = omega arith
  many_few (suc k) = omega (arith, many_few k, bit_small (f k))

  -- no more pass one test than a wider one
  pub many_fewer : (g : ℕ → Bool) → ((k : ℕ) → f k ≡ true → g k ≡ true) → (k : ℕ) → many f k ≤ many g k
  unfolding many
  many_fewer g h zero = omega arith
  many_fewer g h (suc k) = go (f k) (g k) (h k) (many_fewer g h k)
    where
      go : (a b : Bool) → (a ≡ true → b ≡ true) → many f k ≤ many g k → many f k + bool_byte a ≤ many g k + bool_byte b
      go true b i l = let e = i refl in rw e (omega arith)
      go false b i l = omega (arith, bit_small b)
