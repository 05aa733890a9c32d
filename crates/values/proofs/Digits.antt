-- The bitwise operators. The formulas of specs/Python.antt satisfy the law `Digitwise` (`and_law`, `or_law`, `xor_law`), and two numbers that satisfy it
-- are equal (`one_digits`), since two numbers with equal digits are (`same_digits`). Assumes nothing.
use Prim.Native.Nat.{ℕ, zero, suc, ◌+◌, ◌*◌, ◌/◌, ◌%◌, ◌^◌, ◌<◌}
use native.Mathlib.Nat.{pow-suc}
use native.Mathlib.Omega.{arith}
use mathlib.Core.Path.{◌≡◌, sym, ap, ◌∙◌}
use lib.IntN.{ℤ, pos, negsuc, ◌+ℤ◌, ◌*ℤ◌}
use lib.Signed.{mag}
use lib.Bits.{bit_xor, differ, and_step, or_step, xor_step, and_le_l, and_le_r}
use Rattle.values.specs.Python.{down_div, down_mod, digit, Digitwise, both, any_of, one, and_z, or_z, xor_z}
use Rattle.values.proofs.Division.{down_law}

-- ---- a law that holds of the last digit and is kept by halving holds of each digit

module _ (f : ℕ → ℕ → ℕ) (g : ℤ → ℤ → ℤ) where
  by_halves : ((a b : ℤ) → down_mod (g a b) 2 ≡ f (down_mod a 2) (down_mod b 2)) → ((a b : ℤ) → down_div (g a b) 2 ≡ g (down_div a 2) (down_div b 2)) → (a b : ℤ)
      → Digitwise f a b (g a b)
  unfolding digit
  by_halves last half a b zero = last a b
  by_halves last half a b (suc i) = ap (λ (z : ℤ). digit z i) (half a b) ∙ by_halves last half (down_div a 2) (down_div b 2) i

-- ---- and

last_and : (a b : ℤ) → down_mod (and_z a b) 2 ≡ both (down_mod a 2) (down_mod b 2)
unfolding down_mod and_z
last_and (pos a) (pos b) = omega (arith, and_step a b)
last_and (pos a) (negsuc b) = omega (arith, and_step a b, and_le_l (a / 2) (b / 2))
last_and (negsuc a) (pos b) = omega (arith, and_step a b, and_le_r (a / 2) (b / 2))
last_and (negsuc a) (negsuc b) = omega (arith, or_step a b)

half_and : (a b : ℤ) → down_div (and_z a b) 2 ≡ and_z (down_div a 2) (down_div b 2)
unfolding down_div and_z
half_and (pos a) (pos b) = ap pos (omega (arith, and_step a b))
half_and (pos a) (negsuc b) = ap pos (omega (arith, and_step a b))
half_and (negsuc a) (pos b) = ap pos (omega (arith, and_step a b))
half_and (negsuc a) (negsuc b) = ap (λ (k : ℕ). negsuc k) (omega (arith, or_step a b))

pub and_law : (a b : ℤ) → Digitwise both a b (and_z a b)
and_law = by_halves both and_z last_and half_and

-- ---- or

last_or : (a b : ℤ) → down_mod (or_z a b) 2 ≡ any_of (down_mod a 2) (down_mod b 2)
unfolding down_mod or_z
last_or (pos a) (pos b) = omega (arith, or_step a b)
last_or (pos a) (negsuc b) = omega (arith, and_step a b, and_le_r (a / 2) (b / 2))
last_or (negsuc a) (pos b) = omega (arith, and_step a b, and_le_l (a / 2) (b / 2))
last_or (negsuc a) (negsuc b) = omega (arith, and_step a b)

half_or : (a b : ℤ) → down_div (or_z a b) 2 ≡ or_z (down_div a 2) (down_div b 2)
unfolding down_div or_z
half_or (pos a) (pos b) = ap pos (omega (arith, or_step a b))
half_or (pos a) (negsuc b) = ap (λ (k : ℕ). negsuc k) (omega (arith, and_step a b))
half_or (negsuc a) (pos b) = ap (λ (k : ℕ). negsuc k) (omega (arith, and_step a b))
half_or (negsuc a) (negsuc b) = ap (λ (k : ℕ). negsuc k) (omega (arith, and_step a b))

pub or_law : (a b : ℤ) → Digitwise any_of a b (or_z a b)
or_law = by_halves any_of or_z last_or half_or

-- ---- xor

differ_is : (x y : ℕ) → x < 2 → y < 2 → differ x y ≡ one x y
differ_is zero y h k = omega arith
differ_is (suc x) zero h k = omega arith
differ_is (suc zero) (suc y) h k = omega arith
differ_is (suc (suc x)) (suc y) h k = absurd (omega arith)

step : (a b : ℕ) → bit_xor a b ≡ bit_xor (a / 2) (b / 2) * 2 + one (a % 2) (b % 2)
step a b = xor_step a b ∙ ap (λ (k : ℕ). bit_xor (a / 2) (b / 2) * 2 + k) (differ_is (a % 2) (b % 2) (omega arith) (omega arith))

last_xor : (a b : ℤ) → down_mod (xor_z a b) 2 ≡ one (down_mod a 2) (down_mod b 2)
unfolding down_mod xor_z
last_xor (pos a) (pos b) = omega (arith, step a b)
last_xor (pos a) (negsuc b) = omega (arith, step a b)
last_xor (negsuc a) (pos b) = omega (arith, step a b)
last_xor (negsuc a) (negsuc b) = omega (arith, step a b)

half_xor : (a b : ℤ) → down_div (xor_z a b) 2 ≡ xor_z (down_div a 2) (down_div b 2)
unfolding down_div xor_z
half_xor (pos a) (pos b) = ap pos (omega (arith, step a b))
half_xor (pos a) (negsuc b) = ap (λ (k : ℕ). negsuc k) (omega (arith, step a b))
half_xor (negsuc a) (pos b) = ap (λ (k : ℕ). negsuc k) (omega (arith, step a b))
half_xor (negsuc a) (negsuc b) = ap pos (omega (arith, step a b))

pub xor_law : (a b : ℤ) → Digitwise one a b (xor_z a b)
xor_law = by_halves one xor_z last_xor half_xor

-- ---- equal digits, equal numbers

last_one : (a b : ℤ) → mag a < 1 → mag b < 1 → down_mod a 2 ≡ down_mod b 2 → a ≡ b
unfolding down_mod
last_one (pos a) (pos b) h k e = ap pos (omega arith)
last_one (pos a) (negsuc b) h k e = absurd (omega arith)
last_one (negsuc a) (pos b) h k e = absurd (omega arith)
last_one (negsuc a) (negsuc b) h k e = ap (λ (n : ℕ). negsuc n) (omega arith)

half_mag : (a : ℤ) (k : ℕ) → mag a < 2 ^ suc k → mag (down_div a 2) < 2 ^ k
unfolding down_div
half_mag (pos a) k h = omega (arith, pow-suc 2 k)
half_mag (negsuc a) k h = omega (arith, pow-suc 2 k)

within : (k : ℕ) (a b : ℤ) → mag a < 2 ^ k → mag b < 2 ^ k → ((i : ℕ) → digit a i ≡ digit b i) → a ≡ b
unfolding digit
within zero a b h k e = last_one a b h k (e 0)
within (suc n) a b h k e =
    let q = within n (down_div a 2) (down_div b 2) (half_mag a n h) (half_mag b n k) (λ i. e (suc i)) in
    sym (down_law a 2 (omega arith)) ∙ ap (λ (z : ℤ). z *ℤ pos 2 +ℤ pos (down_mod a 2)) q ∙ ap (λ (m : ℕ). down_div b 2 *ℤ pos 2 +ℤ pos m) (e 0) ∙ down_law b 2
    (omega arith)

below_power : (n : ℕ) → n < 2 ^ n
below_power zero = omega arith
below_power (suc n) = omega (arith, below_power n, pow-suc 2 n)

pub same_digits : (a b : ℤ) → ((i : ℕ) → digit a i ≡ digit b i) → a ≡ b
same_digits a b e =
    let p = below_power (mag a + mag b) in
    within (mag a + mag b) a b (omega arith) (omega arith) e

pub one_digits : (f : ℕ → ℕ → ℕ) (a b z z' : ℤ) → Digitwise f a b z → Digitwise f a b z' → z ≡ z'
one_digits f a b z z' p q = same_digits z z' (λ i. p i ∙ sym (q i))
