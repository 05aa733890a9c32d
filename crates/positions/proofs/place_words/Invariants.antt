-- `positions::place_words` meets its contract, word by word. Assumes nothing.
use Rattle.positions.proofs.Moves.{Moving}
use Rattle.positions.proofs.place_words.Given as goal

abbrev pub invariant-loop-w : goal.invariant-loop-w
invariant-loop-w l = Moving l.dead l.words l.initial.words l.w-index
