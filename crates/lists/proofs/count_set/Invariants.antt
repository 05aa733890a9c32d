-- `lists::count_set` meets its contract. Assumes nothing.
use Rattle.lists.proofs.Walks.{Counting}
use Rattle.lists.proofs.count_set.Given as goal

abbrev pub invariant-loop-j : goal.invariant-loop-j
invariant-loop-j g l = Counting g.W.Word.BITS l.words (g.W.Word.words_of l.set) l.n l.j
