-- `far::live_raising` meets its contract: the inner loop is a sweep that has come down to k, the outer a run between two sweeps. Assumes nothing.
use mathlib.Core.Path.{◌≡◌}
use Prim.Native.Nat.{suc, ◌*◌}
use lib.ListN.{length}
use Rattle.code.specs.Ins.{count}
use Rattle.flow.specs.Words.{rows_of}
use Rattle.sweeps.proofs.Sweeps.{Between, Turn, to_go}
use Rattle.far.proofs.live_raising.Given as goal

abbrev pub invariant-loop-k-2 : goal.invariant-loop-k-2
invariant-loop-k-2 l =
    Turn l.all l.code l.regs l.tries 0 0 l.full 0 0 (rows_of 64 l.words (suc (count l.code)) l.initial.rows) (rows_of 64 l.words (suc (count l.code)) l.rows) l.changed l.back l.k
    × (length l.rows ≡ suc (count l.code) * l.words)

abbrev pub invariant-loop-k : goal.invariant-loop-k
invariant-loop-k l =
    Between l.all l.code l.regs l.tries 0 0 l.full 0 (rows_of 64 l.words (suc (count l.code)) l.rows) × (length l.rows ≡ suc (count l.code) * l.words)

abbrev pub decreases-loop-k : goal.decreases-loop-k
decreases-loop-k l = to_go l.all l.code l.regs l.tries 0 l.full 0
