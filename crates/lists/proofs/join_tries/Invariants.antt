-- `lists::join_tries` meets its contract. Assumes nothing.
use Prim.Native.Nat.{◌-◌}
use lib.ListN.{length}
use Rattle.lists.proofs.Handlers.{Holding}
use Rattle.lists.proofs.join_tries.Given as goal

abbrev pub invariant-loop-i : goal.invariant-loop-i
invariant-loop-i g l = Holding g.W.Word.BITS l.n l.k l.words (g.W.Word.nums l.rows) l.tries (g.W.Word.words_of l.initial.all) (g.W.Word.words_of l.all) l.i

abbrev pub decreases-loop-i : goal.decreases-loop-i
decreases-loop-i g l = length l.tries - l.i
