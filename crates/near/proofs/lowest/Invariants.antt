-- `near::lowest` meets its contract. Assumes nothing.
use Rattle.near.proofs.Near.{Lowering}
use Rattle.near.proofs.lowest.Given as goal

abbrev pub invariant-loop-i : goal.invariant-loop-i
invariant-loop-i l = Lowering l.k l.tries l.low l.i
