-- `loops::next_step` meets its contract. Assumes nothing.
use mathlib.Core.Path.{◌≡◌}
use Prim.Native.Nat.{◌-◌, ◌≤◌}
use Rattle.laws.specs.Walk.{first}
use Rattle.loops.specs.Loops.{step_at, next_step}
use Rattle.loops.proofs.next_step.Given as goal

abbrev pub invariant-loop-k : goal.invariant-loop-k
invariant-loop-k l = (l.k ≤ l.n) × (first (step_at l.code) l.k (l.n - l.k) ≡ next_step l.code l.g)
