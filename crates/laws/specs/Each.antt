-- A list told place by place, from the front. Assumes nothing.
use Rattle.std.specs.Prelude.{ℕ, zero, suc, List, [], ◌++◌}

-- the words of place 0, then those of place 1, and so on: n places
unfoldable pub each : (ℕ → List ℕ) → ℕ → List ℕ
each g zero = []
each g (suc k) = each g k ++ g k
