-- What holds at some place below n. Assumes nothing.
use Rattle.std.specs.Prelude.{ℕ, zero, suc, Bool, false, ◌||◌}

-- f holds at some place below n
unfoldable pub some : (ℕ → Bool) → ℕ → Bool
some f zero = false
some f (suc k) = some f k || f k
