-- The single NaN: what is read as it, and what is kept of it. Assumes nothing.
use mathlib.Core.Path.{◌≡◌, refl, sym, ap, ◌∙◌}
use mathlib.Core.Bool.{true, false≢true}
use mathlib.Core.List.{List}
use Prim.Native.Nat.{ℕ, ◌%◌, ◌^◌, ◌<◌}
use lib.Ieee.{Float, nan, inf, fin, is_nan, binary64, of_bits, to_bits}
use lib.Ieee.Bits.{nan_bits_is, nan_bits_above}
use borrow.Author.Tests.{lt-ltb}
use Rattle.std.specs.declared.option.Option.TheVariants.{Some}
use Rattle.values.specs.declared.Val.TheVariants.{Float as Real}
use Rattle.pool.specs.Pool.{to_val, find_or_push, find_or_push_const}

-- the bits of the single NaN
pub the_nan : to_bits binary64 nan ≡ 0x7ff8_0000_0000_0000
unfolding to_bits
the_nan = refl

only : (x : Float) → is_nan x ≡ true → x ≡ nan
unfolding is_nan
only nan e = refl
only (inf s) e = absurd (false≢true e)
only (fin s m d) e = absurd (false≢true e)

-- any word above infinity's, its sign apart, is read as the single NaN
pub nan_read : (w : ℕ) → 0x7ff0_0000_0000_0000 < w % 2 ^ 63 → to_val 2 w ≡ Some (Real nan)
unfolding to_val
nan_read w h = ap (λ (x : Float). Some (Real x)) (only (of_bits binary64 w) (sym (nan_bits_is binary64 w) ∙ nan_bits_above binary64 w ∙ lt-ltb 0x7ff0_0000_0000_0000
    (w % 2 ^ 63) h))

-- a result that is NaN is kept as a float of those bits: found where a float has them, else pushed with them
pub nan_kept : (kinds words : List ℕ) (n : ℕ) → find_or_push_const kinds words n (Real nan) ≡ find_or_push kinds words n 2 0x7ff8_0000_0000_0000
unfolding find_or_push_const
nan_kept kinds words n = ap (find_or_push kinds words n 2) the_nan
