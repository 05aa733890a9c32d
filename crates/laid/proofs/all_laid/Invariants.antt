-- `laid::all_laid` meets its contract. Assumes nothing.
use mathlib.Core.Path.{◌≡◌}
use mathlib.Core.Bool.{true}
use Prim.Native.Nat.{◌-◌, ◌≤◌}
use Rattle.laws.specs.All.{every}
use Rattle.laid.specs.Section.{laid_at}
use Rattle.laid.proofs.all_laid.Given as goal

abbrev pub invariant-loop-k : goal.invariant-loop-k
invariant-loop-k l = (l.k ≤ l.n) × (every (laid_at l.code l.yields) l.k ≡ true)
