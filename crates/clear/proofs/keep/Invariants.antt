-- `clear::keep` meets its contract. Assumes nothing.
use Rattle.clear.proofs.Moving.{Going}
use Rattle.clear.proofs.keep.Given as goal

abbrev pub invariant-loop-i : goal.invariant-loop-i
invariant-loop-i l = Going l.kinds l.initial.kinds l.words l.initial.words l.scratch l.initial.scratch l.to l.i
