-- `lists::count_set` meets its contract. Assumes nothing.
use borrow.Author.Rules.{rules}
use native.Mathlib.Omega.{arith}
use Rattle.lists.proofs.Walks.{countings, counting_fits, counting_more}
use Rattle.lists.proofs.count_set.Goals as goal

pub loop-j-init : goal.loop-j-init
loop-j-init g c = search (rules, countings)

pub overflow_add-n : goal.overflow_add-n
overflow_add-n g c =
    rw (c.count-n.ensures, c.word.ensures) (counting_fits _ _ _ _ _ c.loop-j.invariant _ c.loop-j-test.true c.requires.0 c.sized.ensures.0 c.sized.ensures.1
    (omega (arith, g.met.W.Word.width.span)))

pub loop-j-preserved : goal.loop-j-preserved
loop-j-preserved g c =
    rw (c.count-n.ensures, c.word.ensures) (counting_more _ _ _ _ _ c.loop-j.invariant _ c.loop-j-test.true c.requires.0 c.sized.ensures.0 c.sized.ensures.1)

pub returns : goal.returns
returns g c = search (rules, countings)
