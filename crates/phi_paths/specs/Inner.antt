-- What only the inside of `phi_paths` needs: contracts of inner functions and proofs cite it, no promise does. Assumes nothing.
use Rattle.std.specs.Prelude.{ℕ, ◌+◌, ◌/◌, ◌≤◌, List, length}
use Rattle.code.specs.Inner.{Whole}

-- accepted code, and buffers for a search of it
pub record PhiRoom (w seen todo : List ℕ) : Type 0 where
  pub whole : Whole w
  pub few : length w / 6 ≤ 65535
  pub marks : length w / 6 + 1 ≤ length seen
  pub waiting : length w / 6 + 1 ≤ length todo
