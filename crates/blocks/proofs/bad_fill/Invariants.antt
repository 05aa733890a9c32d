-- `blocks::bad_fill` meets its contract. Assumes nothing.
use mathlib.Core.Path.{◌≡◌}
use mathlib.Core.Bool.{false}
use Prim.Native.Nat.{◌+◌, ◌*◌}
use Rattle.laws.specs.Some.{some}
use Rattle.blocks.specs.Blocks.{follows}
use Rattle.blocks.proofs.bad_fill.Given as goal

abbrev pub invariant-loop-j : goal.invariant-loop-j
invariant-loop-j l = some (λ i. follows l.t (127 * l.b + i)) l.j ≡ false
