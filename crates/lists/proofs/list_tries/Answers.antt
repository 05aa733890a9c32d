-- `lists::list_tries` meets its contract. Assumes nothing.
use borrow.Author.Rules.{rules}
use Rattle.lists.proofs.Handlers.{keeping_start, keeping_try, keeping_more, keeping_skip, keeping_long, keeping_end}
use Rattle.lists.proofs.list_tries.Goals as goal
use Rattle.lists.proofs.list_tries.Goals.{then-around, else-around}

pub list_try-at-requires : goal.list_try-at-requires
list_try-at-requires g c = (
  search rules,
  search rules,
  search rules,
  search rules,
  search rules,
  keeping_try _ _ _ _ _ _ _ _ _ _ _ _ _
      c.loop-i.invariant c.loop-i-test.true
      _ _ c.wide_of-s.ensures c.wide_of-h.ensures,
)

pub loop-i-preserved : goal.loop-i-preserved
loop-i-preserved g c =
    elim c.if-around.branch [
      | then-around w ↦ rw (w.out-is, w.all-is, w.at-is) (keeping_more _ _ _ _ _ _ _ _ _ _ _ _ _ c.loop-i.invariant c.loop-i-test.true
          _ _ c.wide_of-s.ensures c.wide_of-h.ensures _ _ w.list_try-at.ensures _ w.join_try-more.ensures)
      | else-around w ↦ rw (w.out-is, w.all-is, w.at-is) (keeping_skip _ _ _ _ _ _ _ _ _ _ _ _ _ c.loop-i.invariant c.loop-i-test.true
          _ _ c.wide_of-s.ensures c.wide_of-h.ensures _ c.around.ensures w.if-around.false)
    ]

pub shape_of-out : goal.shape_of-out
shape_of-out g c = keeping_long _ _ _ _ _ _ _ _ _ _ _ _ _ c.loop-i.invariant

pub returns : goal.returns
returns g c = keeping_end _ _ _ _ _ _ _ _ _ _ _ _ _ c.loop-i.invariant c.loop-i-test.false

pub loop-i-init : goal.loop-i-init
loop-i-init g c = search (rules, keeping_start)
