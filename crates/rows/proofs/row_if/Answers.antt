-- `rows::row_if` meets its contract. Assumes nothing.
use Rattle.sets.proofs.Nums.{row_read, row_none}
use Rattle.rows.proofs.row_if.Goals as goal

pub returns-then-t : goal.returns-then-t
returns-then-t g c = row_read g.met.W.Word.numbered _ _ _ _ c.if-t.true c.index-rows-k.is c.requires

pub returns-else-t : goal.returns-else-t
returns-else-t g c = row_none g.met.W.Word.numbered _ _ _ _ c.if-t.false c.none.ensures
