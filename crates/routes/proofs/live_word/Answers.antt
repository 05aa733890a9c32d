-- `routes::live_word` meets its contract: the inner loop is a sweep that has come down to k, the outer a run between two sweeps. Assumes nothing.
use borrow.Author.Rules.{rules}
use mathlib.Core.Path.{◌≡◌, sym, ap, ◌∙◌}
use mathlib.Core.Bool.{Bool}
use Prim.Native.Nat.{ℕ}
use lib.ListN.{replicate}
use native.Mathlib.Omega.{arith}
use Rattle.rows.proofs.Sweeps.{word_starts, sweep_starts, known, calm_turn, word_step, left_few, left_again, left_less, whole_few}
use Rattle.rows.proofs.Sweeps.{whole_found, whole_again, whole_less}
use Rattle.steps.specs.declared.Step.{Step}
use Rattle.steps.specs.Inner.{goes_before}
use Rattle.routes.proofs.live_word.Goals as goal

-- what is asked of a step at p is asked at k, where both are one
asked_at : (s : Step) (p k : ℕ) {b : Bool} → b ≡ goes_before s p → p ≡ k → b ≡ goes_before s k
asked_at s p k e h = rw h at e

pub calm_of-m-requires : goal.calm_of-m-requires
calm_of-m-requires g c = known c.loop-k.invariant.0 (search rules) (search rules) c.ins_in-i.ensures

pub overflow_add-abandoned : goal.overflow_add-abandoned
overflow_add-abandoned g c = record {
  fits = left_few c.loop-k.invariant.0
      c.step_with-step.ensures (omega (arith, c.loop-k-test.true, c.loop-k.invariant.1))
      (asked_at c.step_with-step.result _ c.loop-k.start c.goes_before.ensures (omega arith)) c.if-goes_before.true;
}

pub loop-k-preserved : goal.loop-k-preserved
loop-k-preserved g c = (
  word_step c.loop-k.invariant.0
      c.step_with-step.ensures (omega (arith, c.loop-k-test.true, c.loop-k.invariant.1))
      (asked_at c.step_with-step.result _ c.loop-k.start c.goes_before.ensures (omega arith))
      c.if-goes_before.false c.put_word-changed.ensures
      (asked_at c.step_with-step.result _ c.loop-k.k c.goes_before-back.ensures (omega (arith, c.loop-k-test.true))),
  c.loop-k.invariant.1,
)

pub overflow_add-full : goal.overflow_add-full
overflow_add-full g c = record { fits = whole_few c.loop-k.invariant.0 (omega (arith, c.loop-k-test.false, c.loop-k.invariant.1)) }

pub returns-then-not-changed-back : goal.returns-then-not-changed-back
returns-then-not-changed-back g c =
    whole_found c.loop-k.invariant.0 (omega (arith, c.loop-k-test.false, c.loop-k.invariant.1)) c.if-not-changed-back.true

pub again-smaller : goal.again-smaller
again-smaller g c = whole_less c.loop-k.invariant.0 (omega (arith, c.loop-k-test.false, c.loop-k.invariant.1)) c.if-not-changed-back.false

pub again-preserved : goal.again-preserved
again-preserved g c = whole_again c.loop-k.invariant.0 (omega (arith, c.loop-k-test.false, c.loop-k.invariant.1)) c.if-not-changed-back.false

pub again-init : goal.again-init
again-init g c = search word_starts

pub loop-k-init : goal.loop-k-init
loop-k-init g c = search sweep_starts

pub loop-k-preserved-then-m-lt16 : goal.loop-k-preserved-then-m-lt16
loop-k-preserved-then-m-lt16 g c = (
  calm_turn c.loop-k.invariant.0 c.ins_in-i.ensures c.calm_of-m.ensures (omega (arith, c.loop-k-test.true, c.loop-k.invariant.1))
      c.if-m-lt16.true c.put_calm-changed.ensures,
  c.loop-k.invariant.1,
)

pub again-smaller-then-goes_before : goal.again-smaller-then-goes_before
again-smaller-then-goes_before g c = left_less c.loop-k.invariant.0
    c.step_with-step.ensures (omega (arith, c.loop-k-test.true, c.loop-k.invariant.1))
    (asked_at c.step_with-step.result _ c.loop-k.start c.goes_before.ensures (omega arith)) c.if-goes_before.true

pub again-preserved-then-goes_before : goal.again-preserved-then-goes_before
again-preserved-then-goes_before g c = left_again c.loop-k.invariant.0
    c.step_with-step.ensures (omega (arith, c.loop-k-test.true, c.loop-k.invariant.1))
    (asked_at c.step_with-step.result _ c.loop-k.start c.goes_before.ensures (omega arith)) c.if-goes_before.true
    (c.clear-then-goes_before.ensures ∙ ap (λ (x : ℕ). replicate x 0) (sym (g.met.W.Word.numbered.long c.loop-k.rows)))
