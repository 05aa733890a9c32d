-- `near::sweep_near` meets its contract: the loop is a sweep that has come down to k. Assumes nothing.
use borrow.Author.Rules.{rules}
use Rattle.near.proofs.Near.{coming_start, coming_calm, coming_step, coming_left, known}
use Rattle.near.proofs.sweep_near.Goals as goal

pub loop-k-preserved : goal.loop-k-preserved
loop-k-preserved c = coming_step _ _ _ _ _ _ _ _ _ _ _ _ c.loop-k.invariant c.loop-k-test.true
    (search rules) _ c.step_with-step.ensures _
    c.goes_before.ensures c.if-goes_before.false _ _ c.ins_in-i.ensures
    c.leaves-more.ensures _ _ _
    c.put_word-changed.ensures c.goes_before-back.ensures

pub loop-k-init : goal.loop-k-init
loop-k-init c = search coming_start

pub calm_of-m-requires : goal.calm_of-m-requires
calm_of-m-requires c = search known

pub loop-k-preserved-then-m-lt16 : goal.loop-k-preserved-then-m-lt16
loop-k-preserved-then-m-lt16 c = search coming_calm

pub returns-then-goes_before : goal.returns-then-goes_before
returns-then-goes_before c = search coming_left
