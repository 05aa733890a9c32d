-- What only the inside of `compact` needs: contracts of inner functions and proofs cite it, no promise does. Assumes nothing.
use Rattle.std.specs.Prelude.{ℕ, ◌≡◌, List, length}
use Rattle.positions.specs.Remap.{live, remap_of}
use Rattle.positions.specs.Moved.{placed}
use Rattle.compact.specs.Tables.{compacted}

-- all of it, from n dead marks
pub record Compacted (dead w stmts calls : List ℕ) (r : ℕ) (w' remap' stmts' calls' : List ℕ) : Type 0 where
  pub count : r ≡ live dead (length dead)
  pub code : w' ≡ compacted dead w
  pub remap : remap' ≡ remap_of dead
  pub stmt : stmts' ≡ placed dead stmts
  pub call : calls' ≡ placed dead calls
