-- `loops::count_loops` meets its contract. Assumes nothing.
use Rattle.loops.proofs.Adding.{Counting}
use Rattle.loops.proofs.count_loops.Given as goal

abbrev pub invariant-loop-g : goal.invariant-loop-g
invariant-loop-g l = Counting l.code l.initial.out l.out l.g
