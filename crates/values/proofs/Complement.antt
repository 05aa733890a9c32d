-- The complement's digits: b and c with b + c + 1 ≡ 2 ^ k are each other's complement in k digits.
-- One induction (`parts`); the rest is sums. Assumes nothing.
use Prim.Native.Nat.{ℕ, zero, suc, ◌+◌, ◌-◌, ◌/◌, ◌^◌, ◌<◌}
use native.Mathlib.Nat.{pow-suc}
use native.Mathlib.Omega.{arith}
use mathlib.Core.Path.{◌≡◌}
use lib.Bits.{bit_and, bit_or, bit_xor, and_step, and_comm, or_add_and, xor_add_and, and_le_l, and_le_r}

-- a's digits at b's ones, and at b's zeros, are a's
pub parts : (k a b c : ℕ) → b + c + 1 ≡ 2 ^ k → a < 2 ^ k → bit_and a b + bit_and a c ≡ a
parts zero a b c e h = omega (arith, and_le_l a b, and_le_l a c)
parts (suc k) a b c e h =
    let p = pow-suc 2 k in
    let ih = parts k (a / 2) (b / 2) (c / 2) (omega arith) (omega arith) in
    omega (arith, and_step a b, and_step a c)

module _ (k a b c d : ℕ) (bd : b + d + 1 ≡ 2 ^ k) (ac : a + c + 1 ≡ 2 ^ k) where
  ha : a < 2 ^ k
  ha = omega arith

  hb : b < 2 ^ k
  hb = omega arith

  hc : c < 2 ^ k
  hc = omega arith

  -- a with b's complement
  pub and_pn : bit_and a d ≡ a - bit_and a b
  and_pn = omega (arith, parts k a b d bd ha)

  pub or_pn : bit_or a d + (b - bit_and a b) + 1 ≡ 2 ^ k
  or_pn = omega (arith, parts k a b d bd ha, or_add_and a d, and_le_r a b)

  pub xor_pn : bit_xor a d + bit_xor a b + 1 ≡ 2 ^ k
  xor_pn = omega (arith, parts k a b d bd ha, xor_add_and a d, xor_add_and a b)

  -- the two complements
  crossed : bit_and c d + a + b + 1 ≡ 2 ^ k + bit_and a b
  crossed = omega (arith, parts k c b d bd hc, parts k b a c ac hb, and_comm b c, and_comm b a)

  pub and_nn : bit_and c d + bit_or a b + 1 ≡ 2 ^ k
  and_nn = omega (arith, crossed, or_add_and a b)

  pub or_nn : bit_or c d + bit_and a b + 1 ≡ 2 ^ k
  or_nn = omega (arith, crossed, or_add_and c d)

  pub xor_nn : bit_xor c d ≡ bit_xor a b
  xor_nn = omega (arith, crossed, xor_add_and c d, xor_add_and a b)
