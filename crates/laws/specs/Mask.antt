-- A number whose bit r, for r below n, says f r. Assumes nothing.
use Rattle.std.specs.Prelude.{ℕ, zero, suc, ◌+◌, ◌*◌, ◌^◌, Bool}
use mir.Val.{bool_byte}

-- the number whose bit r says f r, for each r below n
unfoldable pub mask : (ℕ → Bool) → ℕ → ℕ
mask f zero = 0
mask f (suc r) = mask f r + bool_byte (f r) * 2 ^ r
