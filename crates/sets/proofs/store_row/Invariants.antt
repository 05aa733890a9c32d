-- `sets::store_row` meets its contract. Assumes nothing.
use Rattle.flow.specs.Inner.{WordsStored}
use Rattle.sets.proofs.store_row.Given as goal

abbrev pub invariant-loop-j : goal.invariant-loop-j
invariant-loop-j g l = WordsStored (g.W.Word.nums l.initial.rows) l.at l.j (g.W.Word.words_of l.set) (g.W.Word.nums l.rows) l.changed
