-- What only the inside of `positions` needs: contracts of inner functions and proofs cite it, no promise does. Assumes nothing.
use Rattle.std.specs.Prelude.{ℕ, ◌+◌, ◌≤◌, ◌≡◌, List, length, get_or}
use Rattle.positions.specs.Remap.{live, remap_of}

-- a table that has them
pub record Remap (dead map : List ℕ) : Type 0 where
  pub whole : map ≡ remap_of dead
  pub long : length map ≡ length dead + 1
  pub at : (i : ℕ) → i ≤ length dead → get_or map i 0 ≡ live dead i
