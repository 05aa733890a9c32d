-- `positions::place` meets its contract. Assumes nothing.
use borrow.Author.Rules.{rules}
use Rattle.positions.proofs.Moves.{placing}
use Rattle.positions.proofs.place.Goals as goal

pub loop-k-preserved : goal.loop-k-preserved
loop-k-preserved c = search (rules, placing)
