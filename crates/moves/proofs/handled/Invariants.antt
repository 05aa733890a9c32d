-- `moves::handled` meets its contract. Assumes nothing.
use Rattle.moves.proofs.Moves.{Handling}
use Rattle.moves.proofs.handled.Given as goal

abbrev pub invariant-loop-i : goal.invariant-loop-i
invariant-loop-i l = Handling l.tries l.n l.p l.q l.i
