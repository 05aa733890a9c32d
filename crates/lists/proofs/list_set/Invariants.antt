-- `lists::list_set` meets its contract. Assumes nothing.
use Rattle.lists.proofs.Walks.{Listings}
use Rattle.lists.proofs.list_set.Given as goal

abbrev pub invariant-loop-j : goal.invariant-loop-j
invariant-loop-j g l = Listings g.W.Word.BITS l.words (g.W.Word.words_of l.set) l.initial.out l.m l.out l.n l.j
