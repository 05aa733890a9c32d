-- `near::handlers_word` meets its contract. Assumes nothing.
use Rattle.near.proofs.Near.{Joining}
use Rattle.near.proofs.handlers_word.Given as goal

abbrev pub invariant-loop-i : goal.invariant-loop-i
invariant-loop-i l = Joining l.n l.k l.rows l.tries l.out l.i
