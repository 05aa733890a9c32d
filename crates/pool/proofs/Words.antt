-- Constants' words as ints and as floats. Assumes nothing.
use Prim.Native.Nat.{ℕ, ◌≤◌, ◌<◌, ◌%◌}
use mathlib.Core.Path.{◌≡◌, refl, sym, ◌∙◌, subst}
use mathlib.Core.Bool.{true, false, not}
use lib.Dec.{T}
use lib.Ieee.{Float, nan, inf, fin, binary64, is_nan, of_bits, to_bits, nan_bits}
use lib.Ieee.Bits.{nan_bits_is, nan_bits_above}
use Rattle.laws.proofs.Branch.{branch}
use Rattle.laws.proofs.Walk.{finds}
use borrow.Author.Tests.{lt-ltb, le-ltb}

-- ---- floats

is_nan_lem : (x : Float) → is_nan x ≡ true → nan ≡ x
unfolding is_nan
is_nan_lem nan e = refl
is_nan_lem (inf s) e = absurd (subst T (sym e) tt)
is_nan_lem (fin s m k) e = absurd (subst T (sym e) tt)

pub nan_bits_lem : (w : ℕ) → 9218868437227405312 < w % 9223372036854775808 → nan ≡ of_bits binary64 w
nan_bits_lem w h = is_nan_lem (of_bits binary64 w) (sym (nan_bits_is binary64 w) ∙ nan_bits_above binary64 w ∙ lt-ltb _ _ h)

pub plain_bits : (w : ℕ) → w % 9223372036854775808 ≤ 9218868437227405312 → T (not (nan_bits binary64 w))
plain_bits w h = rw (nan_bits_above binary64 w, le-ltb 9218868437227405312 (w % 9223372036854775808) h) tt

pub nan_word : (x : Float) → is_nan x ≡ true → 9221120237041090560 ≡ to_bits binary64 x
unfolding to_bits is_nan
nan_word nan e = refl
nan_word (inf s) e = absurd (subst T (sym e) tt)
nan_word (fin s m k) e = absurd (subst T (sym e) tt)

pub plain_float : (x : Float) → is_nan x ≡ false → T (not (is_nan x))
plain_float x e = rw e tt

-- what the contracts of `pool` need
pub ruleset word = (branch, finds, nan_bits_lem, plain_bits, nan_word, plain_float)
