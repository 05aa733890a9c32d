-- What only the inside of `exposes` needs: contracts of inner functions and proofs cite it, no promise does. Assumes nothing.
use Rattle.std.specs.Prelude.{ℕ, ◌≡◌, List, length}
use Rattle.kept.specs.Lists.{over}
use Rattle.nested.specs.Exposed.{exposed}

-- what is exposed of a list stands at the front of a lent buffer, words past it as lent; and how many there are
pub record Exposes (plain list old out : List ℕ) (n : ℕ) : Type 0 where
  pub many : n ≡ length (exposed plain list)
  pub put : out ≡ over (exposed plain list) old
