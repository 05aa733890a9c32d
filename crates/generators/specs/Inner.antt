-- What only the inside of `generators` needs: contracts of inner functions and proofs cite it, no promise does. Assumes nothing.
use Rattle.std.specs.Prelude.{ℕ, ◌+◌, ◌/◌, ◌≡◌, List, length}
use Rattle.laws.specs.Table.{cleared_to}
use Rattle.phi_paths.specs.Inner.{PhiRoom}

-- room for a search, and both buffers clear
pub record Clear (w seen todo : List ℕ) : Type 0 where
  pub room : PhiRoom w seen todo
  pub marks : seen ≡ cleared_to (length w / 6 + 1) seen
  pub waiting : todo ≡ cleared_to (length w / 6 + 1) todo
