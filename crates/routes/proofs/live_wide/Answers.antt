-- `routes::live_wide` meets its contract: the inner loop is a sweep that has come down to k, the outer a run between two sweeps. Assumes nothing.
use borrow.Author.Rules.{rules}
use Rattle.rows.proofs.Sweeps.{wide_starts, sweep_starts, wide_step, whole_few, whole_found, whole_again, whole_less, back_from}
use Rattle.routes.proofs.live_wide.Goals as goal

pub loop-k-init : goal.loop-k-init
loop-k-init g c = let x = g.met.W.Word.width.some in (search (rules, wide_starts), search rules)

pub loop-k-2-init : goal.loop-k-2-init
loop-k-2-init g c = (search sweep_starts, search rules)

pub loop-k-2-preserved : goal.loop-k-2-preserved
loop-k-2-preserved g c = (
  wide_step c.loop-k-2.invariant.0
      c.step_of-s.ensures c.loop-k-2-test.true
      c.put_wide-changed.ensures (back_from c.step_of-s.result c.loop-k-2.k c.goes_before-back.result c.goes_before-back.ensures c.loop-k-2-test.true),
  search rules,
)

pub overflow_add-full : goal.overflow_add-full
overflow_add-full g c = record { fits = whole_few c.loop-k-2.invariant.0 c.loop-k-2-test.false }

pub returns-then-not-changed-back : goal.returns-then-not-changed-back
returns-then-not-changed-back g c = whole_found c.loop-k-2.invariant.0 c.loop-k-2-test.false c.if-not-changed-back.true

pub loop-k-smaller : goal.loop-k-smaller
loop-k-smaller g c = whole_less c.loop-k-2.invariant.0 c.loop-k-2-test.false c.if-not-changed-back.false

pub loop-k-preserved : goal.loop-k-preserved
loop-k-preserved g c = (whole_again c.loop-k-2.invariant.0 c.loop-k-2-test.false c.if-not-changed-back.false, c.loop-k-2.invariant.1)
