-- `params::any_writes` meets its contract. Assumes nothing.
use mathlib.Core.Path.{◌≡◌}
use mathlib.Core.Bool.{false}
use Prim.Native.Nat.{◌≤◌}
use Rattle.laws.specs.Some.{some}
use Rattle.params.specs.Masks.{writes_at}
use Rattle.params.proofs.any_writes.Given as goal

abbrev pub invariant-loop-k : goal.invariant-loop-k
invariant-loop-k l = (l.k ≤ l.n) × (some (writes_at l.code l.r) l.k ≡ false)
