-- `exposes::has_reg` meets its contract. Assumes nothing.
use Rattle.exposes.proofs.Exposing.{Seeking}
use Rattle.exposes.proofs.has_reg.Given as goal

abbrev pub invariant-loop-i : goal.invariant-loop-i
invariant-loop-i l = Seeking l.l l.r l.i
