-- `pass::fold_all` meets its contract: after ip attempts the chunk is the definition's. Assumes nothing.
use borrow.Author.Rules.{rules}
use Rattle.fold.proofs.Grown.{asked_none, asked_ready, asked_more, asked_all}
use Rattle.pass.proofs.fold_all.Goals as goal

pub loop-ip-init : goal.loop-ip-init
loop-ip-init c = search (rules, asked_none)

pub try_fold-held-requires : goal.try_fold-held-requires
try_fold-held-requires c = search asked_ready

pub loop-ip-preserved : goal.loop-ip-preserved
loop-ip-preserved c = search (rules, asked_more)

pub returns : goal.returns
returns c = search asked_all
