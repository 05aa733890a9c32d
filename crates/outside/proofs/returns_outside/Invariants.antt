-- `outside::returns_outside` meets its contract. Assumes nothing.
use mathlib.Core.Path.{◌≡◌}
use mathlib.Core.Bool.{true}
use Prim.Native.Nat.{◌≤◌}
use Rattle.laws.specs.All.{every, many}
use Rattle.sections.specs.There.{there}
use Rattle.outside.specs.Outside.{opens, closes, outside_at}
use Rattle.outside.proofs.returns_outside.Given as goal

abbrev pub invariant-loop-k : goal.invariant-loop-k
invariant-loop-k l = (l.k ≤ l.n) × (l.opened ≤ l.k) × (l.closed ≤ l.k) × (l.opened ≡ many (there opens l.code) l.k)
    × (l.closed ≡ many (there closes l.code) l.k) × (every (outside_at l.code) l.k ≡ true)
