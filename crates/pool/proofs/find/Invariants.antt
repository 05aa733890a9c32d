-- `pool::find` meets its contract: what is left to walk has the answer of the whole. Assumes nothing.
use mathlib.Core.Path.{◌≡◌}
use Prim.Native.Nat.{◌-◌}
use Rattle.laws.specs.Walk.{first}
use Rattle.pool.specs.Pool.{equals, position}
use Rattle.pool.proofs.find.Given as goal

abbrev pub invariant-loop-i : goal.invariant-loop-i
invariant-loop-i l = first (equals l.kinds l.words l.kind l.word) l.i (l.count - l.i) ≡ position l.kinds l.words l.count l.kind l.word
