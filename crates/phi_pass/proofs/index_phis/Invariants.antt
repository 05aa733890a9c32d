-- `phi_pass::index_phis` meets its contract. Assumes nothing.
use Rattle.phi_pass.proofs.Pairs.{Indexed}
use Rattle.phi_pass.proofs.index_phis.Given as goal

abbrev pub invariant-loop-i : goal.invariant-loop-i
invariant-loop-i l = Indexed l.code l.map l.initial.map l.next l.i
