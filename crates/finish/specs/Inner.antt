-- What only the inside of `finish` needs: contracts of inner functions and proofs cite it, no promise does. Assumes nothing.
use Rattle.std.specs.Prelude.{◌+◌, ◌*◌, ◌%◌, ◌≤◌, ◌≡◌, length}
use Rattle.laws.specs.All.{many}
use Rattle.chunk.specs.Chunk.{stride, is_phi}
use Rattle.finish.specs.Finish.{Tables}

-- the tables are there, with the room that folding needs
pub record TableRoom (t : Tables) : Type 0 where
  pub code : length t.code ≡ stride * length t.dead
  pub few : length t.dead ≤ 65535
  pub map : length t.map ≡ length t.dead
  pub entries : t.left.map ≤ length t.map
  pub words : t.left.sources ≤ length t.sources
  pub pairs : 2 * many (is_phi t.code) (length t.dead) ≤ length t.sources
  pub stmts : length t.stmts % 2 ≡ 0
  pub calls : length t.calls % 2 ≡ 0
  pub remap : length t.remap ≡ length t.dead + 1
