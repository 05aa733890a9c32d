-- `routes::live_word` meets its contract: the inner loop is a sweep that has come down to k, the outer a run between two sweeps. Assumes nothing.
use mathlib.Core.Path.{◌≡◌}
use Rattle.steps.specs.Level.{first_level}
use Rattle.rows.proofs.Sweeps.{Between, Turn, to_go}
use Rattle.routes.proofs.live_word.Given as goal

abbrev pub invariant-loop-k : goal.invariant-loop-k
invariant-loop-k g l =
    Turn l.code l.regs (first_level l.code) l.start l.full l.abandoned l.initial.abandoned (g.W.Word.nums l.initial.rows) (g.W.Word.nums l.rows) l.changed l.back l.k
    × (l.start ≡ l.initial.start)

abbrev pub invariant-again : goal.invariant-again
invariant-again g l = Between l.code l.regs (first_level l.code) l.start l.full l.abandoned (g.W.Word.nums l.rows)

abbrev pub decreases-again : goal.decreases-again
decreases-again g l = to_go l.code l.regs (first_level l.code) l.full l.abandoned
