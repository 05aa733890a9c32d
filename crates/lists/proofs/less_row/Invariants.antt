-- `lists::less_row` meets its contract. Assumes nothing.
use Rattle.lists.proofs.Less.{Lessing}
use Rattle.lists.proofs.less_row.Given as goal

abbrev pub invariant-loop-j : goal.invariant-loop-j
invariant-loop-j g l = Lessing g.W.Word.WORDS (g.W.Word.nums l.rows) (g.W.Word.words_of l.less) l.at l.words l.j (g.W.Word.words_of l.out)
