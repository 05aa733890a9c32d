-- `near::lowest` meets its contract. Assumes nothing.
use borrow.Author.Rules.{rules}
use Rattle.near.proofs.Near.{lowering_more, lowering_end}
use Rattle.near.proofs.lowest.Goals as goal

pub loop-i-preserved : goal.loop-i-preserved
loop-i-preserved c = search (rules, lowering_more)

pub returns : goal.returns
returns c = search (rules, lowering_end)
