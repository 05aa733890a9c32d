-- Values that a constant can hold: what folds give. Assumes nothing.
use Prim.Native.Nat.{ℕ, ◌^◌, ◌<◌}
use mathlib.Core.Path.{◌≡◌, refl, subst}
use mathlib.Core.Bool.{Bool, true, false, not, cond}
use lib.Dec.{T, ltb, eqb}
use lib.IntN.{ℤ, pos, negsuc, neg_ℤ, ◌+ℤ◌, ◌-ℤ◌, ◌*ℤ◌}
use lib.Signed.{mag}
use lib.Ieee.{Float, binary64, fits, of_int, div, of_bits}
use lib.Ieee.Fits.{add-fits, sub-fits, mul-fits, div-fits, neg-fits}
use lib.Ieee.Bits.{of_bits-fits}
use borrow.Author.Tests.{ltb-true}
use mir.Syntax.{w64}
use mir.Val.{to_z}
use Rattle.values.specs.Python.{and_z, or_z, xor_z, shift_up, shift_down}
use Rattle.values.specs.Folds.{in_range, divmod, quotient, remainder, shifted, ints, is_zero, floats, fold_binop, fold_not, fold_neg}
use Rattle.values.specs.declared.Val.{Val}
use Rattle.values.specs.declared.Val.TheVariants.{Int, Float as Real, Bool as Truth}
use Rattle.std.specs.declared.option.Option.{Option}
use Rattle.std.specs.declared.option.Option.TheVariants.{Some, None}
use Rattle.values.specs.declared.Op.{Op}
use Rattle.values.specs.declared.Op.TheVariants.{Add, Sub, Mul, Div, Mod, FloorDiv, Eq, NotEq, Lt, Gt, LtEq, GtEq, BitAnd, BitOr, BitXor, Shl, Shr}
use Rattle.pool.specs.Pool.{to_val}

abbrev pub Good : Val → Type 0
Good (Int z) = mag z < 2 ^ 47
Good (Real x) = T (fits binary64 x)
Good (Truth b) = Unit {0}

-- a result, if there is one
abbrev GoodM : Option Val → Type 0
GoodM (Some v) = Good v
GoodM None = Unit {0}

pub good_of : {f : Option Val} {v : Val} → f ≡ Some v → GoodM f → Good v
good_of e h = subst GoodM e h

range_good : (z : ℤ) → GoodM (in_range z)
unfolding in_range
range_good z = go (ltb (mag z) (2 ^ 47)) refl
  where
    go : (t : Bool) → ltb (mag z) (2 ^ 47) ≡ t → GoodM (cond t (Some (Int z)) None)
    go true e = ltb-true (mag z) (2 ^ 47) e
    go false e = tt

quotient_good : (d : Option (ℤ × ℤ)) → GoodM (quotient d)
unfolding quotient
quotient_good (Some p) = range_good p.0
quotient_good None = tt

remainder_good : (d : Option (ℤ × ℤ)) → GoodM (remainder d)
unfolding remainder
remainder_good (Some p) = range_good p.1
remainder_good None = tt

shifted_good : (n : ℤ) (f : ℕ → ℤ) → GoodM (shifted n f)
unfolding shifted
shifted_good (pos n) f = go (ltb n 63)
  where
    go : (t : Bool) → GoodM (cond t (in_range (f n)) None)
    go true = range_good (f n)
    go false = tt
shifted_good (negsuc n) f = tt

ints_good : (o : Op) (a b : ℤ) → GoodM (ints o a b)
unfolding ints
ints_good Add a b = range_good (a +ℤ b)
ints_good Sub a b = range_good (a -ℤ b)
ints_good Mul a b = range_good (a *ℤ b)
ints_good Div a b = tt
ints_good Mod a b = remainder_good (divmod a b)
ints_good FloorDiv a b = quotient_good (divmod a b)
ints_good Eq a b = tt
ints_good NotEq a b = tt
ints_good Lt a b = tt
ints_good Gt a b = tt
ints_good LtEq a b = tt
ints_good GtEq a b = tt
ints_good BitAnd a b = range_good (and_z a b)
ints_good BitOr a b = range_good (or_z a b)
ints_good BitXor a b = range_good (xor_z a b)
ints_good Shl a b = shifted_good b (shift_up a)
ints_good Shr a b = shifted_good b (shift_down a)

floats_good : (o : Op) (x y : Float) → GoodM (floats o x y)
unfolding floats
floats_good Add x y = add-fits binary64 x y
floats_good Sub x y = sub-fits binary64 x y
floats_good Mul x y = mul-fits binary64 x y
floats_good Div x y = go (is_zero y)
  where
    go : (t : Bool) → GoodM (cond t None (Some (Real (div binary64 x y))))
    go true = tt
    go false = div-fits binary64 x y
floats_good Mod x y = tt
floats_good FloorDiv x y = tt
floats_good Eq x y = tt
floats_good NotEq x y = tt
floats_good Lt x y = tt
floats_good Gt x y = tt
floats_good LtEq x y = tt
floats_good GtEq x y = tt
floats_good BitAnd x y = tt
floats_good BitOr x y = tt
floats_good BitXor x y = tt
floats_good Shl x y = tt
floats_good Shr x y = tt

pub binop_good : (o : Op) (a b : Val) → GoodM (fold_binop o a b)
unfolding fold_binop
binop_good o (Int a) (Int b) = ints_good o a b
binop_good o (Int a) (Real y) = floats_good o (of_int binary64 a) y
binop_good o (Int a) (Truth t) = tt
binop_good o (Real x) (Int b) = floats_good o x (of_int binary64 b)
binop_good o (Real x) (Real y) = floats_good o x y
binop_good o (Real x) (Truth t) = tt
binop_good o (Truth s) b = tt

pub not_good : (a : Val) → GoodM (fold_not a)
unfolding fold_not
not_good (Int z) = tt
not_good (Real x) = tt
not_good (Truth b) = tt

pub neg_good : (a : Val) → Good a → GoodM (fold_neg a)
unfolding fold_neg
neg_good (Int z) h = range_good (neg_ℤ z)
neg_good (Real x) h = neg-fits binary64 x h
neg_good (Truth b) h = tt

-- ---- an operand

val_is_good : (k w : ℕ) → GoodM (to_val k w)
unfolding to_val
val_is_good k w = go (eqb k 1) (eqb k 2) (eqb k 3)
  where
    go : (a b d : Bool) → GoodM (cond a (in_range (to_z w64 w)) (cond b (Some (Real (of_bits binary64 w))) (cond d (Some (Truth (not (eqb w 0)))) None)))
    go true b d = range_good (to_z w64 w)
    go false true d = of_bits-fits binary64 w
    go false false true = tt
    go false false false = tt

pub val_good : (k w : ℕ) {v : Val} → to_val k w ≡ Some v → Good v
val_good k w e = good_of e (val_is_good k w)
