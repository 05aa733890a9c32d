-- `positions::place` meets its contract, pair by pair. Assumes nothing.
use Rattle.positions.proofs.Moves.{Placed}
use Rattle.positions.proofs.place.Given as goal

abbrev pub invariant-loop-k : goal.invariant-loop-k
invariant-loop-k l = Placed l.dead l.pairs l.initial.pairs l.k
