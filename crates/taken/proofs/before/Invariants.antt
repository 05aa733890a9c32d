-- `taken::before` meets its contract. Assumes nothing.
use mathlib.Core.Path.{◌≡◌}
use mathlib.Core.Bool.{false}
use Prim.Native.Nat.{◌≤◌}
use Rattle.laws.specs.Some.{some}
use Rattle.taken.proofs.Lists.{as_at}
use Rattle.taken.proofs.before.Given as goal

abbrev pub invariant-loop-j : goal.invariant-loop-j
invariant-loop-j l = (l.j ≤ l.i) × (some (as_at l.list l.i) l.j ≡ false)
