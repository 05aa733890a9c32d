-- `loops::count_loops` meets its contract. Assumes nothing.
use borrow.Author.Rules.{rules}
use Rattle.loops.proofs.Adding.{counts_up}
use Rattle.loops.proofs.count_loops.Goals as goal

pub loop-g-init : goal.loop-g-init
loop-g-init c = search (rules, counts_up)

pub end_of-e-requires : goal.end_of-e-requires
end_of-e-requires c = search (rules, counts_up)

pub overflow_add-g : goal.overflow_add-g
overflow_add-g c = search (rules, counts_up)

pub overflow_add-n : goal.overflow_add-n
overflow_add-n c = search (rules, counts_up)

pub add_over-requires : goal.add_over-requires
add_over-requires c = search (rules, counts_up)

pub loop-g-preserved : goal.loop-g-preserved
loop-g-preserved c = search (rules, counts_up)

pub shape_of-out : goal.shape_of-out
shape_of-out c = search (rules, counts_up)

pub returns : goal.returns
returns c = search (rules, counts_up)
