-- `near::handlers_word` meets its contract. Assumes nothing.
use borrow.Author.Rules.{rules}
use Rattle.near.proofs.Near.{joining_more, joining_end}
use Rattle.near.proofs.handlers_word.Goals as goal

pub loop-i-preserved : goal.loop-i-preserved
loop-i-preserved c = search (rules, joining_more)

pub returns : goal.returns
returns c = search (rules, joining_end)
