-- `surveys::land_tries` meets its contract. Assumes nothing.
use Rattle.surveys.proofs.Landing.{Landing}
use Rattle.surveys.specs.Targets.{handled}
use Rattle.surveys.proofs.land_tries.Given as goal

abbrev pub invariant-loop-i : goal.invariant-loop-i
invariant-loop-i l = Landing l.n (handled l.tries) l.initial.out l.out l.m l.i
