-- `loops::add_over` meets its contract. Assumes nothing.
use Rattle.loops.proofs.Adding.{Adding}
use Rattle.loops.proofs.add_over.Given as goal

abbrev pub invariant-loop-p : goal.invariant-loop-p
invariant-loop-p l = Adding l.m l.a l.b l.initial.out l.out l.p
