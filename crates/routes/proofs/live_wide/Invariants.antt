-- `routes::live_wide` meets its contract: the inner loop is a sweep that has come down to k, the outer a run between two sweeps. Assumes nothing.
use mathlib.Core.Path.{◌≡◌}
use Prim.Native.Nat.{suc, ◌*◌}
use lib.ListN.{length}
use Rattle.code.specs.Ins.{count}
use Rattle.flow.specs.Words.{rows_of}
use Rattle.rows.proofs.Sweeps.{Between, Turn, to_go}
use Rattle.routes.proofs.live_wide.Given as goal

abbrev pub invariant-loop-k-2 : goal.invariant-loop-k-2
invariant-loop-k-2 g l =
    Turn l.code l.regs 0 0 l.full 0 0 (rows_of g.W.Word.BITS l.words (suc (count l.code)) (g.W.Word.nums l.initial.rows))
    (rows_of g.W.Word.BITS l.words (suc (count l.code)) (g.W.Word.nums l.rows)) l.changed l.back l.k
    × (length l.rows ≡ suc (count l.code) * l.words)

abbrev pub invariant-loop-k : goal.invariant-loop-k
invariant-loop-k g l =
    Between l.code l.regs 0 0 l.full 0 (rows_of g.W.Word.BITS l.words (suc (count l.code)) (g.W.Word.nums l.rows)) × (length l.rows ≡ suc (count l.code) * l.words)

abbrev pub decreases-loop-k : goal.decreases-loop-k
decreases-loop-k g l = to_go l.code l.regs 0 l.full 0
