-- `near::live_near` meets its contract: the inner loop is a sweep that has come down to k, the outer a run between two sweeps. Assumes nothing.
use Prim.Native.Nat.{◌-◌}
use Rattle.steps.specs.Level.{first_level}
use Rattle.sweeps.proofs.Sweeps.{Between, Turn, to_go}
use Rattle.near.proofs.live_near.Given as goal

abbrev pub invariant-loop-start : goal.invariant-loop-start
invariant-loop-start l =
    Turn l.all l.code l.regs l.tries (first_level l.code) l.start l.full l.abandoned l.initial.abandoned l.initial.rows l.rows l.changed l.back l.k

abbrev pub decreases-loop-start : goal.decreases-loop-start
decreases-loop-start l = l.k - l.start

abbrev pub invariant-again : goal.invariant-again
invariant-again l =
    Between l.all l.code l.regs l.tries (first_level l.code) l.start l.full l.abandoned l.rows

abbrev pub decreases-again : goal.decreases-again
decreases-again l =
    to_go l.all l.code l.regs l.tries (first_level l.code) l.full l.abandoned
