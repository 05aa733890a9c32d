-- `lists::join_tries` meets its contract. Assumes nothing.
use borrow.Author.Rules.{rules}
use Rattle.lists.proofs.Handlers.{holding_start, holding_more, holding_skip, holding_end}
use Rattle.lists.proofs.join_tries.Goals as goal
use Rattle.lists.proofs.join_tries.Goals.{then-around, else-around}

pub loop-i-preserved : goal.loop-i-preserved
loop-i-preserved g c =
    elim c.if-around.branch [
      | then-around w ↦ rw w.all-is (holding_more _ _ _ _ _ _ _ _ _ c.loop-i.invariant c.loop-i-test.true
          _ _ c.wide_of-s.ensures c.wide_of-h.ensures _ w.join_try-more.ensures)
      | else-around w ↦ rw w.all-is (holding_skip _ _ _ _ _ _ _ _ _ c.loop-i.invariant c.loop-i-test.true
          _ _ c.wide_of-s.ensures c.wide_of-h.ensures _ c.around.ensures w.if-around.false)
    ]

pub returns : goal.returns
returns g c = holding_end _ _ _ _ _ _ _ _ _ c.loop-i.invariant c.loop-i-test.false

pub loop-i-init : goal.loop-i-init
loop-i-init g c = search (rules, holding_start)
