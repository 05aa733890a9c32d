-- `kept::count_all` meets its contract. Assumes nothing.
use borrow.Author.Rules.{rules}
use Rattle.kept.proofs.Passes.{summings}
use Rattle.kept.proofs.count_all.Goals as goal

pub loop-k-init : goal.loop-k-init
loop-k-init g c = search (rules, summings)

pub overflow_add-m : goal.overflow_add-m
overflow_add-m g c = search (rules, summings)

pub loop-k-preserved : goal.loop-k-preserved
loop-k-preserved g c = search (rules, summings)

pub returns : goal.returns
returns g c = search (rules, summings)
