-- `chunk::each_kept` meets its contract. Assumes nothing.
use mathlib.Core.Path.{◌≡◌}
use mathlib.Core.Bool.{true}
use Rattle.laws.specs.All.{every}
use Rattle.chunk.specs.Tables.{constant_kept}
use Rattle.chunk.proofs.each_kept.Given as goal

abbrev pub invariant-loop-i : goal.invariant-loop-i
invariant-loop-i l = every (constant_kept l.kinds l.words) l.i ≡ true
