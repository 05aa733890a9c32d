-- `lists::list_word` meets its contract. Assumes nothing.
use Rattle.lists.proofs.Walks.{Walked}
use Rattle.lists.proofs.list_word.Given as goal

abbrev pub invariant-loop-rest : goal.invariant-loop-rest
invariant-loop-rest g l = Walked g.W.Word.BITS l.base (g.W.Word.num l.initial.rest) l.initial.out l.m l.out l.n (g.W.Word.num l.rest)

abbrev pub decreases-loop-rest : goal.decreases-loop-rest
decreases-loop-rest g l = g.W.Word.num l.rest
