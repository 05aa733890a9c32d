-- `positions::fill_remap` meets its contract. Assumes nothing.
use borrow.Author.Rules.{rules}
use Rattle.positions.proofs.Moves.{counting}
use Rattle.positions.proofs.fill_remap.Goals as goal

pub loop-i-preserved : goal.loop-i-preserved
loop-i-preserved c = search (rules, counting)
