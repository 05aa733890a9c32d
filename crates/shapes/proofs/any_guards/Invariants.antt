-- `shapes::any_guards` meets its contract. Assumes nothing.
use mathlib.Core.Path.{◌≡◌}
use mathlib.Core.Bool.{false}
use Prim.Native.Nat.{◌-◌, ◌≤◌}
use Rattle.laws.specs.Some.{some}
use Rattle.shapes.specs.Shape.{guards}
use Rattle.sections.specs.There.{there}
use Rattle.shapes.proofs.any_guards.Given as goal

abbrev pub invariant-loop-k : goal.invariant-loop-k
invariant-loop-k l = (l.k ≤ l.n) × (some (there guards l.code) l.k ≡ false)
