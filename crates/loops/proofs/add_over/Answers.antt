-- `loops::add_over` meets its contract. Assumes nothing.
use borrow.Author.Rules.{rules}
use native.Mathlib.Omega.{arith}
use Rattle.loops.proofs.Adding.{in_out, keeps_length, fits_word, adds-up}
use Rattle.loops.proofs.add_over.Goals as goal

pub loop-p-init : goal.loop-p-init
loop-p-init c = search (rules, adds-up)

pub offset_bounds-out-p : goal.offset_bounds-out-p
offset_bounds-out-p c = omega (arith, in_out _ _ _ _ _ _ c.loop-p.invariant (omega arith), keeps_length _ _ _ _ _ _ c.loop-p.invariant)

pub bounds-out-p : goal.bounds-out-p
bounds-out-p c = search (rules, adds-up)

pub overflow_add-out : goal.overflow_add-out
overflow_add-out c = omega (arith, fits_word _ _ _ _ _ _ c.loop-p.invariant (omega arith))

pub bounds-out-p-in-loop-p : goal.bounds-out-p-in-loop-p
bounds-out-p-in-loop-p c = search (rules, adds-up)

pub loop-p-preserved : goal.loop-p-preserved
loop-p-preserved c = search (rules, adds-up)

pub shape_of-out : goal.shape_of-out
shape_of-out c = search (rules, adds-up)

pub returns : goal.returns
returns c = search (rules, adds-up)
