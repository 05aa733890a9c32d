-- `taken::first_strange` meets its contract. Assumes nothing.
use mathlib.Core.Path.{◌≡◌}
use Prim.Native.Nat.{◌≤◌, ◌-◌}
use lib.ListN.{length}
use Rattle.laws.specs.Walk.{first}
use Rattle.taken.specs.Lists.{strange, first_strange}
use Rattle.taken.proofs.first_strange.Given as goal

abbrev pub invariant-loop-i : goal.invariant-loop-i
invariant-loop-i l = (l.i ≤ length l.list) × (first (strange l.regs l.list) l.i (length l.list - l.i) ≡ first_strange l.regs l.list)
