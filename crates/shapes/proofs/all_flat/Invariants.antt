-- `shapes::all_flat` meets its contract. Assumes nothing.
use mathlib.Core.Path.{◌≡◌}
use mathlib.Core.Bool.{true}
use Prim.Native.Nat.{◌-◌, ◌≤◌}
use Rattle.laws.specs.All.{every}
use Rattle.shapes.specs.Shape.{flat_at}
use Rattle.shapes.proofs.all_flat.Given as goal

abbrev pub invariant-loop-k : goal.invariant-loop-k
invariant-loop-k l = (l.k ≤ l.n) × (every (flat_at l.code) l.k ≡ true)
