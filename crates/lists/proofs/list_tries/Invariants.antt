-- `lists::list_tries` meets its contract. Assumes nothing.
use Prim.Native.Nat.{◌-◌}
use lib.ListN.{length}
use Rattle.lists.proofs.Handlers.{Keeping}
use Rattle.lists.proofs.list_tries.Given as goal

abbrev pub invariant-loop-i : goal.invariant-loop-i
invariant-loop-i g l = Keeping g.W.Word.BITS l.n l.k l.words (g.W.Word.nums l.rows) l.tries (g.W.Word.words_of l.initial.all) l.initial.out l.m l.out
    (g.W.Word.words_of l.all) l.at l.i

abbrev pub decreases-loop-i : goal.decreases-loop-i
decreases-loop-i g l = length l.tries - l.i
