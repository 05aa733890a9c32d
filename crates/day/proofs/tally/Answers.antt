-- `day::tally` meets its contract. Assumes nothing.
use borrow.Author.Rules.{rules}
use Rattle.day.proofs.Counts.{countings, counting_low, counting_in, counting_fits}
use Rattle.day.proofs.tally.Goals as goal

pub loop-s-init : goal.loop-s-init
loop-s-init c = search (rules, countings)

pub count_step-requires : goal.count_step-requires
count_step-requires c = search (rules, counting_low, counting_in)

pub overflow_add-levels : goal.overflow_add-levels
overflow_add-levels c = search (rules, counting_fits)

pub loop-s-preserved : goal.loop-s-preserved
loop-s-preserved c = search (rules, countings)

pub returns : goal.returns
returns c = search (rules, countings)
