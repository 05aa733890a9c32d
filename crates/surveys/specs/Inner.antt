-- What only the inside of `surveys` needs: contracts of inner functions and proofs cite it, no promise does. Assumes nothing.
use Rattle.std.specs.Prelude.{ℕ, ◌+◌, ◌<◌, ◌≡◌, Bool, cond, List, get_or}
use Rattle.laws.specs.Table.{Held}

-- 1 at each p up to n with f p, and nothing else changed
pub record Lands (n : ℕ) (f : ℕ → Bool) (out out' : List ℕ) : Type 0 where
  pub each : (p : ℕ) → p < n + 1 → get_or out' p 0 ≡ cond (f p) 1 (get_or out p 0)
  pub held : Held (n + 1) out out'
