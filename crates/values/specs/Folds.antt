-- What an operator makes of constant operands, or `None`: document 01, 'Folding'.
use Rattle.std.specs.Prelude.{ℕ, ◌^◌, ◌<◌, Bool, not, cond, ltb, ℤ, pos, negsuc, neg_ℤ, ◌+ℤ◌, ◌-ℤ◌, ◌*ℤ◌, Float}
use Rattle.std.specs.Int.Signed.{mag, lt_z, le_z}
use Rattle.std.specs.Float.{binary64}
use Rattle.std.specs.Float.Ieee.{of_bits, of_int, add, sub, mul, div, neg, lt, le, eq, ne}
use Rattle.values.specs.Python.{floor_div, floor_mod, and_z, or_z, xor_z, shift_up, shift_down, eq_z}
use Rattle.values.specs.declared.Val.{Val}
use Rattle.values.specs.declared.Val.TheVariants.{Int, Float as Real, Bool as Truth}
use Rattle.std.specs.declared.option.Option.{Option}
use Rattle.std.specs.declared.option.Option.TheVariants.{Some, None}
use Rattle.values.specs.declared.Op.{Op}
use Rattle.values.specs.declared.Op.TheVariants.{Add, Sub, Mul, Div, Mod, FloorDiv, Eq, NotEq, Lt, Gt, LtEq, GtEq, BitAnd, BitOr, BitXor, Shl, Shr}

-- within −140,737,488,355,328 to 140,737,488,355,327: `mag` is n for n and for -(n + 1)
pub record SmallInt (z : ℤ) : Type 0 where
  pub small : mag z < 2 ^ 47

-- an int result stays within that range, or no fold
unfoldable pub in_range : ℤ → Option Val
in_range z = cond (ltb (mag z) (2 ^ 47)) (Some (Int z)) None

-- a zero divisor is not folded
unfoldable pub divmod : ℤ → ℤ → Option (ℤ × ℤ)
divmod a d = cond (eq_z d (pos 0)) None (Some (floor_div a d, floor_mod a d))

-- the quotient as a result: in range, and of no zero divisor
unfoldable pub quotient : Option (ℤ × ℤ) → Option Val
unfolding in_range
quotient (Some p) = in_range p.0
quotient None = None

-- what is left as a result: in range, and of no zero divisor
unfoldable pub remainder : Option (ℤ × ℤ) → Option Val
unfolding in_range
remainder (Some p) = in_range p.1
remainder None = None

-- shift counts 0 to 62
unfoldable pub shifted : ℤ → (ℕ → ℤ) → Option Val
unfolding in_range
shifted (pos n) f = cond (ltb n 63) (in_range (f n)) None
shifted (negsuc n) f = None

-- a truth as a result
abbrev pub truth : Bool → Option Val
truth b = Some (Truth b)

-- two ints, by Python's rules
unfoldable pub ints : Op → ℤ → ℤ → Option Val
unfolding in_range divmod quotient remainder shifted
ints Add a b = in_range (a +ℤ b)
ints Sub a b = in_range (a -ℤ b)
ints Mul a b = in_range (a *ℤ b)
ints Div a b = None
ints Mod a b = remainder (divmod a b)
ints FloorDiv a b = quotient (divmod a b)
ints Eq a b = truth (eq_z a b)
ints NotEq a b = truth (not (eq_z a b))
ints Lt a b = truth (lt_z a b)
ints Gt a b = truth (lt_z b a)
ints LtEq a b = truth (le_z a b)
ints GtEq a b = truth (le_z b a)
ints BitAnd a b = in_range (and_z a b)
ints BitOr a b = in_range (or_z a b)
ints BitXor a b = in_range (xor_z a b)
ints Shl a b = shifted b (shift_up a)
ints Shr a b = shifted b (shift_down a)

-- equal to +0, and so to -0
abbrev pub is_zero : Float → Bool
is_zero x = eq x (of_bits binary64 0)

-- two floats, by IEEE 754: each operation rounds once
unfoldable pub floats : Op → Float → Float → Option Val
floats Add x y = Some (Real (add binary64 x y))
floats Sub x y = Some (Real (sub binary64 x y))
floats Mul x y = Some (Real (mul binary64 x y))
floats Div x y = cond (is_zero y) None (Some (Real (div binary64 x y)))
floats Mod x y = None
floats FloorDiv x y = None
floats Eq x y = truth (eq x y)
floats NotEq x y = truth (ne x y)
floats Lt x y = truth (lt x y)
floats Gt x y = truth (lt y x)
floats LtEq x y = truth (le x y)
floats GtEq x y = truth (le y x)
floats BitAnd x y = None
floats BitOr x y = None
floats BitXor x y = None
floats Shl x y = None
floats Shr x y = None

-- an int beside a float becomes one, exactly; a bool is no operand
unfoldable pub fold_binop : Op → Val → Val → Option Val
unfolding ints floats
fold_binop o (Int a) (Int b) = ints o a b
fold_binop o (Int a) (Real y) = floats o (of_int binary64 a) y
fold_binop o (Int a) (Truth t) = None
fold_binop o (Real x) (Int b) = floats o x (of_int binary64 b)
fold_binop o (Real x) (Real y) = floats o x y
fold_binop o (Real x) (Truth t) = None
fold_binop o (Truth s) b = None

-- Not: whether a number is zero, and the opposite of a bool
unfoldable pub fold_not : Val → Option Val
fold_not (Int a) = truth (eq_z a (pos 0))
fold_not (Real x) = truth (is_zero x)
fold_not (Truth t) = truth (not t)

-- Minus: the opposite of a number, an int's within the range; a bool has none
unfoldable pub fold_neg : Val → Option Val
unfolding in_range
fold_neg (Int a) = in_range (neg_ℤ a)
fold_neg (Real x) = Some (Real (neg x))
fold_neg (Truth t) = None
