-- `outside::any_makes` meets its contract. Assumes nothing.
use mathlib.Core.Path.{◌≡◌}
use mathlib.Core.Bool.{false}
use Prim.Native.Nat.{◌≤◌}
use Rattle.laws.specs.Some.{some}
use Rattle.sections.specs.There.{there}
use Rattle.outside.specs.Outside.{makes}
use Rattle.outside.proofs.any_makes.Given as goal

abbrev pub invariant-loop-k : goal.invariant-loop-k
invariant-loop-k l = (l.k ≤ l.n) × (some (there makes l.code) l.k ≡ false)
