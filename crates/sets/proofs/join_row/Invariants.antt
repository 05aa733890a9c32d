-- `sets::join_row` meets its contract. Assumes nothing.
use Rattle.sets.proofs.Words.{Joining}
use Rattle.sets.proofs.join_row.Given as goal

abbrev pub invariant-loop-j : goal.invariant-loop-j
invariant-loop-j g l = Joining g.W.Word.WORDS (g.W.Word.words_of l.initial.out) (g.W.Word.nums l.rows) l.at l.words l.j (g.W.Word.words_of l.out)
