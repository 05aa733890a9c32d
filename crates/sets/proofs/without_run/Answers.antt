-- `sets::without_run` meets its contract. Assumes nothing.
use borrow.Author.Rules.{rules}
use Rattle.sets.proofs.Words.{off_start, off_more}
use Rattle.sets.proofs.without_run.Goals as goal

pub loop-i-init : goal.loop-i-init
loop-i-init g c = search (rules, off_start)

pub loop-i-preserved : goal.loop-i-preserved
loop-i-preserved g c = search (rules, off_more)
