-- `named::mark_named` meets its contract. Assumes nothing.
use Rattle.named.proofs.Marking.{Marking}
use Rattle.named.proofs.mark_named.Given as goal

abbrev pub invariant-loop-k : goal.invariant-loop-k
invariant-loop-k l = Marking l.code l.m l.initial.scratch l.scratch l.k
