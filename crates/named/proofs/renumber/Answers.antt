-- `named::renumber` meets its contract. Assumes nothing.
use borrow.Author.Rules.{rules}
use Rattle.named.proofs.Recoding.{recoding_none, recoding_more, recoding_done}
use Rattle.named.proofs.renumber.Goals as goal

pub loop-k-init : goal.loop-k-init
loop-k-init c = search (rules, recoding_none)

pub loop-k-preserved : goal.loop-k-preserved
loop-k-preserved c = search (rules, recoding_more)

pub returns : goal.returns
returns c = search (rules, recoding_done)
