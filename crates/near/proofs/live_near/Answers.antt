-- `near::live_near` meets its contract: the inner loop is a sweep that has come down to k, the outer a run between two sweeps. Assumes nothing.
use borrow.Author.Rules.{rules}
use Rattle.sweeps.proofs.Sweeps.{whole_few, whole_found, whole_again, whole_less}
use Rattle.near.proofs.Sweeps.{near_starts, stretch_on, left_again, left_less}
use Rattle.near.proofs.live_near.Goals as goal

pub loop-start-preserved : goal.loop-start-preserved
loop-start-preserved c =
    stretch_on c.loop-start.invariant
    c.loop-start-test.true
    c.covering-around.ensures
    (search rules) c.sweep_near.ensures
    c.in-Some.is

pub overflow_add-full : goal.overflow_add-full
overflow_add-full c = record { fits = whole_few c.loop-start.invariant c.loop-start-test.false }

pub returns-then-not-changed-back : goal.returns-then-not-changed-back
returns-then-not-changed-back c = whole_found c.loop-start.invariant c.loop-start-test.false c.if-not-changed-back.true

pub again-smaller : goal.again-smaller
again-smaller c = whole_less c.loop-start.invariant c.loop-start-test.false c.if-not-changed-back.false

pub again-preserved : goal.again-preserved
again-preserved c = whole_again c.loop-start.invariant c.loop-start-test.false c.if-not-changed-back.false

pub again-init : goal.again-init
again-init c = search near_starts

pub again-smaller-in_default : goal.again-smaller-in_default
again-smaller-in_default c = search left_less

pub again-preserved-in_default : goal.again-preserved-in_default
again-preserved-in_default c = search left_again
