-- Ints in 64 bits: what an operation of the machine gives is the operation of ℤ, where it fits. Assumes nothing.
use Prim.Native.Nat.{ℕ, zero, suc, ◌+◌, ◌-◌, ◌*◌, ◌%◌, ◌^◌, ◌≤◌, ◌<◌}
use native.Mathlib.Nat.{div-le_self, mod-le, one-mul}
use native.Mathlib.Omega.{arith}
use mathlib.Core.Path.{◌≡◌, refl, sym, ap, ◌∙◌, subst}
use mathlib.Core.Bool.{Bool, true, false, cond}
use lib.Dec.{T, ltb, leb, eqb, le→leb, lt→ltb, lit<}
use lib.Pow.{shl_exact, pow-lt}
use lib.Ieee.{binary64, in_float}
use lib.IntN.{ℤ, pos, negsuc, neg_ℤ, nat_abs, +ℤ_idl, ◌+ℤ◌, ◌-ℤ◌, sub_ℕ}
use lib.Signed.{mag, lt_z, non_neg, quot_z, rem_z, shr_z, mag_shr}
use lib.Bits.{bit_and, bit_or, bit_xor, and_comm, or_comm, xor_comm, and_lt, or_lt, xor_lt}
use mir.Syntax.{w64}
use mir.Val.{SFits, to_z, of_z}
use mir.ValLaws.{to_z_pos, to_z-neg, to_z-of_z}
use borrow.Author.Tests.{leb-true, leb-false, lt-ltb, le-ltb, ltb-true, ltb-false, eq-eqb, ne_eqb}
use Rattle.values.specs.Python.{and_z, or_z, xor_z, shift_down, floor_div, down_div, eq_z}
use Rattle.values.specs.Folds.{SmallInt, in_range, divmod, shifted}
use Rattle.values.specs.declared.Val.TheVariants.{Int}
use Rattle.std.specs.declared.option.Option.TheVariants.{Some, None}
use Rattle.values.proofs.Division.{Same, abs_quot, abs_rem}
use Rattle.values.proofs.Complement.{and_pn, or_pn, xor_pn, and_nn, or_nn, xor_nn}

-- what the machine reads back from an int's bits
pub back : {z : ℤ} → SFits w64 z → to_z w64 (of_z w64 z) ≡ z
back {z} f = to_z-of_z w64 z f

pub back_ok : (z : ℤ) → mag z < 2 ^ 63 → to_z w64 (of_z w64 z) ≡ z
back_ok z h = back (record { sfits = h })

no : {X : Type 0} → false ≡ true → X
no e = absurd (subst T (sym e) tt)

pub positive : (n : ℕ) → (n ≡ 0 → ⊥) → 0 < n
positive zero h = absurd (h refl)
positive (suc n) h = omega arith

-- ---- the range

pub out : (z : ℤ) → 2 ^ 47 ≤ mag z → None ≡ in_range z
unfolding in_range
out z h = ap (λ (t : Bool). cond t (Some (Int z)) None) (sym (le-ltb (mag z) (2 ^ 47) h))

pub within : (z : ℤ) → mag z < 2 ^ 47 → Some (Int z) ≡ in_range z
unfolding in_range
within z h = ap (λ (t : Bool). cond t (Some (Int z)) None) (sym (lt-ltb (mag z) (2 ^ 47) h))

pub overflown : (z : ℤ) → (SFits w64 z → ⊥) → None ≡ in_range z
overflown z h = out z (far (leb (2 ^ 47) (mag z)) refl)
  where
    far : (t : Bool) → leb (2 ^ 47) (mag z) ≡ t → 2 ^ 47 ≤ mag z
    far true e = leb-true (2 ^ 47) (mag z) e
    far false e = absurd (h (record { sfits = omega (arith, leb-false (2 ^ 47) (mag z) e) }))

pub below_least : (z : ℤ) → lt_z z (negsuc 140737488355327) ≡ true → 2 ^ 47 ≤ mag z
below_least (pos n) e = no e
below_least (negsuc n) e = omega (arith, ltb-true 140737488355327 n e)

pub above_most : (z : ℤ) → lt_z (pos 140737488355327) z ≡ true → 2 ^ 47 ≤ mag z
above_most (pos n) e = omega (arith, ltb-true 140737488355327 n e)
above_most (negsuc n) e = no e

pub between : (z : ℤ) → lt_z z (negsuc 140737488355327) ≡ false → lt_z (pos 140737488355327) z ≡ false → mag z < 2 ^ 47
between (pos n) e f = omega (arith, ltb-false 140737488355327 n f)
between (negsuc n) e f = omega (arith, ltb-false 140737488355327 n e)

pub small_fits : {z : ℤ} → SmallInt z → SFits w64 z
small_fits h = record { sfits = omega (arith, h.small) }

-- ---- sums and the opposite

-- a difference of two numbers up to k is within k
mag_sub : (a b k : ℕ) → a ≤ k → b ≤ k → mag (sub_ℕ a b) ≤ k
mag_sub a b k p q = go (ltb a b)
  where
    go : (t : Bool) → mag (cond t (negsuc (b - suc a)) (pos (a - b))) ≤ k
    go true = omega arith
    go false = omega arith

sum_mag : (a b : ℤ) → mag a < 2 ^ 48 → mag b < 2 ^ 48 → mag (a +ℤ b) < 2 ^ 63
sum_mag (pos a) (pos b) s t = omega arith
sum_mag (pos a) (negsuc b) s t = omega (arith, mag_sub a (suc b) (2 ^ 48) (omega arith) (omega arith))
sum_mag (negsuc a) (pos b) s t = omega (arith, mag_sub b (suc a) (2 ^ 48) (omega arith) (omega arith))
sum_mag (negsuc a) (negsuc b) s t = omega arith

near_fits : (a b : ℤ) → mag a < 2 ^ 48 → mag b < 2 ^ 48 → SFits w64 (a +ℤ b)
near_fits a b s t = record { sfits = sum_mag a b s t }

pub sum_fits : {a b : ℤ} → SmallInt a → SmallInt b → SFits w64 (a +ℤ b)
sum_fits {a} {b} s t = near_fits a b (omega (arith, s.small)) (omega (arith, t.small))

neg_mag : (a : ℤ) → mag (neg_ℤ a) ≤ suc (mag a)
neg_mag (pos zero) = omega arith
neg_mag (pos (suc n)) = omega arith
neg_mag (negsuc n) = omega arith

pub difference_fits : {a b : ℤ} → SmallInt a → SmallInt b → SFits w64 (a -ℤ b)
difference_fits {a} {b} s t = near_fits a (neg_ℤ b) (omega (arith, s.small)) (omega (arith, neg_mag b, t.small))

-- the machine's -a is 0 - a
pub minus_is : (a : ℤ) → pos 0 -ℤ a ≡ neg_ℤ a
minus_is a = +ℤ_idl (neg_ℤ a)

pub minus_fits : {a : ℤ} → SmallInt a → SFits w64 (pos 0 -ℤ a)
minus_fits s = difference_fits {a = pos 0} (record { small = lit< tt }) s

-- ---- sizes and products

mag_le : (z : ℤ) → mag z ≤ nat_abs z
mag_le (pos n) = omega arith
mag_le (negsuc n) = omega arith

abs_le : (z : ℤ) → nat_abs z ≤ suc (mag z)
abs_le (pos n) = omega arith
abs_le (negsuc n) = omega arith

-- a not below 0
pub up : (a : ℤ) → lt_z a (pos 0) ≡ false → T (non_neg a)
up (pos n) e = tt
up (negsuc n) e = no (sym e)

-- bits that are 0
pub zero_bits : {z : ℤ} → SFits w64 z → eqb (of_z w64 z) 0 ≡ eq_z z (pos 0)
zero_bits {z = pos n} f = refl
zero_bits {z = negsuc n} f = ne_eqb (2 ^ 64 - suc n) 0 (λ h. omega (arith, f.sfits))

-- ---- division

pub bits_up : {d : ℤ} → SFits w64 d → (of_z w64 d ≡ 0 → ⊥) → 0 < nat_abs d
bits_up {d = pos zero} f n = absurd (n refl)
bits_up {d = pos (suc d)} f n = omega arith
bits_up {d = negsuc d} f n = omega arith

pub zero_divisor : (a : ℤ) {d : ℤ} → SFits w64 d → of_z w64 d ≡ 0 → None ≡ divmod a d
unfolding divmod
zero_divisor a f e = rw (sym (zero_bits f), eq-eqb _ 0 e) refl

pub same_divmod : (a d q r : ℤ) → 0 < nat_abs d → Same a d q r → Some (q, r) ≡ divmod a d
unfolding divmod
same_divmod a d q r h s = rw (not_zero d h, s.quotient, s.remainder) refl
  where
    not_zero : (d : ℤ) → 0 < nat_abs d → eq_z d (pos 0) ≡ false
    not_zero (pos d) h = ne_eqb d 0 (λ e. omega arith)
    not_zero (negsuc d) h = refl

quot_mag : (a d : ℤ) → SmallInt a → mag (quot_z a d) < 2 ^ 48
quot_mag a d s = omega (arith, mag_le (quot_z a d), abs_quot a d, div-le_self (nat_abs a) (nat_abs d), abs_le a, s.small)

rem_mag : (a d : ℤ) → SmallInt a → mag (rem_z a d) < 2 ^ 48
rem_mag a d s = omega (arith, mag_le (rem_z a d), abs_rem a d, mod-le (nat_abs a) (nat_abs d), abs_le a, s.small)

module _ (a d : ℤ) (s : SmallInt a) (t : SmallInt d) where
  pub quot_fits : SFits w64 (quot_z a d)
  quot_fits = record { sfits = omega (arith, quot_mag a d s) }

  pub rem_fits : SFits w64 (rem_z a d)
  rem_fits = record { sfits = omega (arith, rem_mag a d s) }

  pub quot_less_fits : SFits w64 (quot_z a d -ℤ pos 1)
  quot_less_fits = near_fits (quot_z a d) (negsuc 0) (quot_mag a d s) (omega arith)

  pub rem_more_fits : SFits w64 (rem_z a d +ℤ d)
  rem_more_fits = near_fits (rem_z a d) d (rem_mag a d s) (omega (arith, t.small))

-- ---- digits: 64 of them read as signed are a number at most half of them, or a complement

low : {x : ℕ} (y : ℕ) → x ≡ y → y < 2 ^ 63 → to_z w64 x ≡ pos y
low y e h = ap (to_z w64) e ∙ to_z_pos w64 y h

high : (x y : ℕ) → x + y + 1 ≡ 2 ^ 64 → y < 2 ^ 63 → to_z w64 x ≡ negsuc y
high x y e h = let e' : x ≡ 2 ^ 64 - suc y = omega arith in ap (to_z w64) e' ∙ to_z-neg w64 y h

turn : {n : ℕ} → n < 2 ^ 63 → n + (2 ^ 64 - suc n) + 1 ≡ 2 ^ 64
turn h = omega arith

pub and64 : (a b : ℤ) → SFits w64 a → SFits w64 b → to_z w64 (bit_and (of_z w64 a) (of_z w64 b)) ≡ and_z a b
unfolding and_z
and64 (pos a) (pos b) s t = low (bit_and a b) refl (and_lt 63 a b s.sfits t.sfits)
and64 (pos a) (negsuc b) s t = low (a - bit_and a b) (and_pn 64 a b _ _ (turn t.sfits) (turn s.sfits)) (omega (arith, s.sfits))
and64 (negsuc a) (pos b) s t =
    low (b - bit_and a b) (and_comm (2 ^ 64 - suc a) b ∙ and_pn 64 b a _ _ (turn s.sfits) (turn t.sfits) ∙ ap (λ (x : ℕ). b - x) (and_comm b a))
    (omega (arith, t.sfits))
and64 (negsuc a) (negsuc b) s t = high _ (bit_or a b) (and_nn 64 a b _ _ (turn t.sfits) (turn s.sfits)) (or_lt 63 a b s.sfits t.sfits)

pub or64 : (a b : ℤ) → SFits w64 a → SFits w64 b → to_z w64 (bit_or (of_z w64 a) (of_z w64 b)) ≡ or_z a b
unfolding or_z
or64 (pos a) (pos b) s t = low (bit_or a b) refl (or_lt 63 a b s.sfits t.sfits)
or64 (pos a) (negsuc b) s t = high _ (b - bit_and a b) (or_pn 64 a b _ _ (turn t.sfits) (turn s.sfits)) (omega (arith, t.sfits))
or64 (negsuc a) (pos b) s t =
    high (bit_or (2 ^ 64 - suc a) b) (a - bit_and a b)
    (omega (arith, or_pn 64 b a _ _ (turn s.sfits) (turn t.sfits), or_comm (2 ^ 64 - suc a) b, and_comm b a))
    (omega (arith, s.sfits))
or64 (negsuc a) (negsuc b) s t = high _ (bit_and a b) (or_nn 64 a b _ _ (turn t.sfits) (turn s.sfits)) (and_lt 63 a b s.sfits t.sfits)

pub xor64 : (a b : ℤ) → SFits w64 a → SFits w64 b → to_z w64 (bit_xor (of_z w64 a) (of_z w64 b)) ≡ xor_z a b
unfolding xor_z
xor64 (pos a) (pos b) s t = low (bit_xor a b) refl (xor_lt 63 a b s.sfits t.sfits)
xor64 (pos a) (negsuc b) s t = high _ (bit_xor a b) (xor_pn 64 a b _ _ (turn t.sfits) (turn s.sfits)) (xor_lt 63 a b s.sfits t.sfits)
xor64 (negsuc a) (pos b) s t =
    high (bit_xor (2 ^ 64 - suc a) b) (bit_xor a b)
    (omega (arith, xor_pn 64 b a _ _ (turn s.sfits) (turn t.sfits), xor_comm (2 ^ 64 - suc a) b, xor_comm b a))
    (xor_lt 63 a b s.sfits t.sfits)
xor64 (negsuc a) (negsuc b) s t = low (bit_xor a b) (xor_nn 64 a b _ _ (turn t.sfits) (turn s.sfits)) (xor_lt 63 a b s.sfits t.sfits)

-- ---- shifts

pub shift_low : (n : ℤ) (f : ℕ → ℤ) → lt_z n (pos 0) ≡ true → None ≡ shifted n f
unfolding shifted
shift_low (pos n) f e = absurd (let k : n < 0 = ltb-true n 0 e in omega arith)
shift_low (negsuc n) f e = refl

pub shift_far : (n : ℤ) (f : ℕ → ℤ) → lt_z (pos 62) n ≡ true → None ≡ shifted n f
unfolding shifted
shift_far (pos n) f e = ap (λ (t : Bool). cond t (in_range (f n)) None) (sym (le-ltb n 63 (omega (arith, ltb-true 62 n e))))
shift_far (negsuc n) f e = refl

pub shift_is : (n : ℤ) (f : ℕ → ℤ) → lt_z n (pos 0) ≡ false → lt_z (pos 62) n ≡ false → in_range (f (nat_abs n)) ≡ shifted n f
unfolding shifted
shift_is (pos n) f e h = ap (λ (t : Bool). cond t (in_range (f n)) None) (sym (lt-ltb n 63 (omega (arith, ltb-false 62 n h))))
shift_is (negsuc n) f e h = no (sym e)

pub shift_near : (n : ℤ) → lt_z n (pos 0) ≡ false → lt_z (pos 62) n ≡ false → nat_abs n ≤ 62
shift_near (pos n) e h = ltb-false 62 n h
shift_near (negsuc n) e h = no (sym e)

-- 1 moved up by n is 2 ^ n
pub one_up : (n : ℕ) → n ≤ 62 → to_z w64 ((1 * 2 ^ n) % 2 ^ 64) ≡ pos (2 ^ n)
one_up n h = low (2 ^ n) (shl_exact 1 n 64 (lit< tt) (omega arith) ∙ one-mul (2 ^ n)) (pow-lt {i = n} {j = 63} (omega arith))

pub shift_down_lem : (a : ℤ) (n : ℕ) → shr_z a (2 ^ n) ≡ shift_down a n
unfolding shift_down floor_div down_div
shift_down_lem (pos a) n = refl
shift_down_lem (negsuc a) n = refl

-- 62 places at most, or none
pub shift_back : {a : ℤ} (n : ℤ) → SFits w64 a → lt_z n (pos 0) ≡ false → lt_z (pos 62) n ≡ false
    → in_range (to_z w64 (of_z w64 (shr_z a (2 ^ of_z w64 n)))) ≡ shifted n (shift_down a)
shift_back {a} (pos n) s e f =
    ap in_range (back_ok (shr_z a (2 ^ n)) (omega (arith, mag_shr a (2 ^ n), s.sfits)) ∙ shift_down_lem a n) ∙ shift_is (pos n) (shift_down a) e f
shift_back (negsuc n) s e f = no (sym e)

-- ---- floats

pub exact : (a : ℤ) → SmallInt a → T (in_float binary64 a)
unfolding in_float
exact (pos n) h = le→leb n (2 ^ 53) (omega (arith, h.small))
exact (negsuc n) h = lt→ltb n (2 ^ 53) (omega (arith, h.small))

-- what the contracts of `values` need of the machine's ints: their bits and ranges, and what fits
pub ruleset ranges = (back, small_fits, overflown, below_least, above_most, between, sum_fits, difference_fits, minus_is, minus_fits, zero_bits, exact)

-- the shifts
pub ruleset shifts = (shift_low, shift_far, shift_is, shift_near, shift_back, one_up, up)

-- the division
pub ruleset division = (positive, bits_up, zero_divisor, same_divmod, quot_fits, rem_fits, quot_less_fits, rem_more_fits)

-- all of them, and the bit operators
pub ruleset word = (ranges, and64, or64, xor64, shifts, division)
