-- `surveys::land_jumps` meets its contract. Assumes nothing.
use Rattle.surveys.proofs.Landing.{Landing}
use Rattle.surveys.specs.Targets.{jumped}
use Rattle.surveys.proofs.land_jumps.Given as goal

abbrev pub invariant-loop-k : goal.invariant-loop-k
invariant-loop-k l = Landing l.n (jumped l.code) l.initial.out l.out l.n l.k
