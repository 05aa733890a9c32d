-- `positions::fill_remap` meets its contract. Assumes nothing.
use Rattle.positions.proofs.Moves.{Counted}
use Rattle.positions.proofs.fill_remap.Given as goal

abbrev pub invariant-loop-i : goal.invariant-loop-i
invariant-loop-i l = Counted l.dead l.remap l.initial.remap l.at l.i
