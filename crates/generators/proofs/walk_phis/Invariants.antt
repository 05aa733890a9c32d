-- `generators::walk_phis` meets its contract. Assumes nothing.
use Rattle.generators.proofs.Dying.{Walked}
use Rattle.generators.proofs.walk_phis.Given as goal

abbrev pub invariant-loop-k : goal.invariant-loop-k
invariant-loop-k l = Walked l.code l.initial.seen l.initial.todo l.seen l.todo l.k
