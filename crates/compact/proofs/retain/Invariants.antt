-- `compact::retain` meets its contract. Assumes nothing.
use Rattle.compact.proofs.Moves.{Kept}
use Rattle.compact.proofs.retain.Given as goal

abbrev pub invariant-loop-i : goal.invariant-loop-i
invariant-loop-i l = Kept l.dead l.code l.initial.code l.to l.i
