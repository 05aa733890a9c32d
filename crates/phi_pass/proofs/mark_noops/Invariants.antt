-- `phi_pass::mark_noops` meets its contract. Assumes nothing.
use Rattle.phi_pass.proofs.Pairs.{Marked}
use Rattle.phi_pass.proofs.mark_noops.Given as goal

abbrev pub invariant-loop-i : goal.invariant-loop-i
invariant-loop-i l = Marked l.code l.map l.sources l.dead l.initial.dead l.i
