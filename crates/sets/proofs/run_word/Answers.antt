-- `sets::run_word` meets its contract. Assumes nothing.
use borrow.Author.Rules.{rules}
use Rattle.sets.proofs.Sets.{run_start, run_more}
use Rattle.sets.proofs.run_word.Goals as goal

pub loop-i-init : goal.loop-i-init
loop-i-init g c = search (rules, run_start)

pub loop-i-preserved : goal.loop-i-preserved
loop-i-preserved g c = search (rules, run_more)
