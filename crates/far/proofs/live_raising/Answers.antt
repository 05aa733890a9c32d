-- `far::live_raising` meets its contract: the inner loop is a sweep that has come down to k, the outer a run between two sweeps. Assumes nothing.
use borrow.Author.Rules.{rules}
use Rattle.rows.proofs.Sweeps.{cleared}
use Rattle.sweeps.proofs.Sweeps.{whole_few, whole_found, whole_again, whole_less}
use Rattle.far.proofs.Sweeps.{starts, step}
use Rattle.far.proofs.live_raising.Goals as goal

pub loop-k-init : goal.loop-k-init
loop-k-init c = (search starts, search cleared)

pub loop-k-2-preserved : goal.loop-k-2-preserved
loop-k-2-preserved c = (
  step c.loop-k-2.invariant.0 c.step_of-s.ensures
      (search rules) c.ins_in-i.ensures c.put_raising-changed.ensures
      c.goes_before-back.ensures,
  search rules,
)

pub overflow_add-full : goal.overflow_add-full
overflow_add-full c = record { fits = whole_few c.loop-k-2.invariant.0 c.loop-k-2-test.false }

pub returns-then-not-changed-back : goal.returns-then-not-changed-back
returns-then-not-changed-back c = whole_found c.loop-k-2.invariant.0 c.loop-k-2-test.false c.if-not-changed-back.true

pub loop-k-smaller : goal.loop-k-smaller
loop-k-smaller c = whole_less c.loop-k-2.invariant.0 c.loop-k-2-test.false c.if-not-changed-back.false

pub loop-k-preserved : goal.loop-k-preserved
loop-k-preserved c = (whole_again c.loop-k-2.invariant.0 c.loop-k-2-test.false c.if-not-changed-back.false, c.loop-k-2.invariant.1)
