-- `lists::list_word` meets its contract. Assumes nothing.
use native.Mathlib.Omega.{arith}
use mathlib.Core.Path.{sym, ◌∙◌}
use borrow.Author.Tests.{eqb-true, eqb-false}
use Rattle.lists.proofs.Walks.{walked_start, walked_next, walked_put, walked_falls, walked_end, walked_long}
use Rattle.lists.proofs.list_word.Goals as goal

pub loop-rest-init : goal.loop-rest-init
loop-rest-init g c = walked_start _ _ _ _ _ c.requires.1 c.requires.2

pub loop-rest-smaller : goal.loop-rest-smaller
loop-rest-smaller g c = walked_falls c.loop-rest.invariant (eqb-false _ _ (sym c.is_none.ensures ∙ c.loop-rest-test.true)) c.others-rest.ensures

pub loop-rest-preserved : goal.loop-rest-preserved
loop-rest-preserved g c =
    walked_put c.loop-rest.invariant (eqb-false _ _ (sym c.is_none.ensures ∙ c.loop-rest-test.true)) c.lowest.ensures c.others-rest.ensures

pub shape_of-out : goal.shape_of-out
shape_of-out g c = walked_long c.loop-rest.invariant

pub returns : goal.returns
returns g c = walked_end c.loop-rest.invariant (eqb-true _ _ (sym c.is_none.ensures ∙ c.loop-rest-test.false))

pub offset_bounds-out-n : goal.offset_bounds-out-n
offset_bounds-out-n g c = omega (arith, walked_next c.loop-rest.invariant (eqb-false _ _ (sym c.is_none.ensures ∙ c.loop-rest-test.true)))

pub bounds-out-n : goal.bounds-out-n
bounds-out-n g c = walked_next c.loop-rest.invariant (eqb-false _ _ (sym c.is_none.ensures ∙ c.loop-rest-test.true))

pub overflow_add-n : goal.overflow_add-n
overflow_add-n g c = omega (arith, walked_next c.loop-rest.invariant (eqb-false _ _ (sym c.is_none.ensures ∙ c.loop-rest-test.true)))
