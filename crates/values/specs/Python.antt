-- Python's integers, over unbounded ℤ: the Python Language Reference, 6.6 to 6.10. Each law stands first, and the one result that it settles after it.
use Rattle.std.specs.Prelude.{ℕ, zero, suc, ◌+◌, ◌-◌, ◌/◌, ◌%◌, ◌^◌, min, max, ◌≡◌, Bool, true, false, ◌⊎◌, T, eqb, ℤ, pos, negsuc, neg_ℤ, ◌+ℤ◌, ◌*ℤ◌}
use Rattle.std.specs.Int.Signed.{lt_z, le_z}
use Rattle.std.specs.Int.Bits.{bit_and, bit_or, bit_xor}

-- ---- floor division and modulo (6.7). proofs/Division.antt: `divides` and `only` say that floor_div and floor_mod are the only such pair

-- a is q times d, and r is left: r is 0 or has d's sign, and is nearer to 0 than d
pub record Divides (a d q r : ℤ) : Type 0 where
  pub whole : q *ℤ d +ℤ r ≡ a
  pub left : (T (le_z (pos 0) r) × T (lt_z r d)) ⊎ (T (lt_z d r) × T (le_z r (pos 0)))

-- by a d above 0: the quotient rounded down, and what it leaves
unfoldable pub down_div : ℤ → ℕ → ℤ
down_div (pos a) d = pos (a / d)
down_div (negsuc a) d = negsuc (a / d)

-- what a division by a d above 0 leaves: from 0 up to d, and not d
unfoldable pub down_mod : ℤ → ℕ → ℕ
down_mod (pos a) d = a % d
down_mod (negsuc a) d = d - suc (a % d)

-- the quotient, rounded down; by a d below 0 that of the opposite number by the opposite divisor
unfoldable pub floor_div : ℤ → ℤ → ℤ
unfolding down_div
floor_div a (pos d) = down_div a d
floor_div a (negsuc d) = down_div (neg_ℤ a) (suc d)

-- what floor division by d leaves: 0, or a number of d's sign
unfoldable pub floor_mod : ℤ → ℤ → ℤ
unfolding down_mod
floor_mod a (pos d) = pos (down_mod a d)
floor_mod a (negsuc d) = neg_ℤ (pos (down_mod (neg_ℤ a) (suc d)))

-- ---- bitwise operators (6.9). proofs/Digits.antt: `and_law`, `or_law`, `xor_law` and `one_digits` say that and_z, or_z and xor_z are the only such numbers

-- the i-th digit in two's complement without end: the last is what a division by 2 leaves, and the others are the quotient's
unfoldable pub digit : ℤ → ℕ → ℕ
unfolding down_div down_mod
digit z zero = down_mod z 2
digit z (suc i) = digit (down_div z 2) i

-- each digit of z is f of a's and b's
abbrev pub Digitwise : (ℕ → ℕ → ℕ) → ℤ → ℤ → ℤ → Type 0
Digitwise f a b z = (i : ℕ) → digit z i ≡ f (digit a i) (digit b i)

-- 1 where both are, where one or both are, and where just one is
abbrev pub both : ℕ → ℕ → ℕ
both x y = min x y

-- 1 where one digit is 1 or both are
abbrev pub any_of : ℕ → ℕ → ℕ
any_of x y = max x y

-- 1 where just one of two digits is 1
abbrev pub one : ℕ → ℕ → ℕ
one x y = (x + y) % 2

-- bit by bit and: `negsuc n` is -(n + 1), which has n's digits, each turned over
unfoldable pub and_z : ℤ → ℤ → ℤ
and_z (pos a) (pos b) = pos (bit_and a b)
and_z (pos a) (negsuc b) = pos (a - bit_and a b)
and_z (negsuc a) (pos b) = pos (b - bit_and a b)
and_z (negsuc a) (negsuc b) = negsuc (bit_or a b)

-- bitwise or of two ints, in two's complement without end
unfoldable pub or_z : ℤ → ℤ → ℤ
or_z (pos a) (pos b) = pos (bit_or a b)
or_z (pos a) (negsuc b) = negsuc (b - bit_and a b)
or_z (negsuc a) (pos b) = negsuc (a - bit_and a b)
or_z (negsuc a) (negsuc b) = negsuc (bit_and a b)

-- bitwise exclusive or of two ints, in two's complement without end
unfoldable pub xor_z : ℤ → ℤ → ℤ
xor_z (pos a) (pos b) = pos (bit_xor a b)
xor_z (pos a) (negsuc b) = negsuc (bit_xor a b)
xor_z (negsuc a) (pos b) = negsuc (bit_xor a b)
xor_z (negsuc a) (negsuc b) = pos (bit_xor a b)

-- ---- shifts (6.8): times, and floor-divided by, a power of two

-- z shifted up by n places
unfoldable pub shift_up : ℤ → ℕ → ℤ
shift_up z n = z *ℤ pos (2 ^ n)

-- z shifted down by n places, rounded down
unfoldable pub shift_down : ℤ → ℕ → ℤ
unfolding floor_div
shift_down z n = floor_div z (pos (2 ^ n))

-- ---- comparisons (6.10): the order of ℤ is the kit's lt_z and le_z

-- two ints are the same
abbrev pub eq_z : ℤ → ℤ → Bool
eq_z (pos a) (pos b) = eqb a b
eq_z (pos a) (negsuc b) = false
eq_z (negsuc a) (pos b) = false
eq_z (negsuc a) (negsuc b) = eqb a b

-- ---- an int beside a float, which is a sign and a size

-- the int with this sign, true for minus, and this size
abbrev pub signed : Bool → ℕ → ℤ
signed false n = pos n
signed true n = neg_ℤ (pos n)

-- an int is below 0
abbrev pub sign : ℤ → Bool
sign (pos n) = false
sign (negsuc n) = true
