-- `blocks::steps_of` meets its contract. Assumes nothing.
use mathlib.Core.Path.{◌≡◌}
use Prim.Native.Nat.{◌*◌, ◌/◌, ◌-◌}
use lib.ListN.{length}
use Rattle.laws.specs.Walk.{first}
use Rattle.blocks.specs.Blocks.{filler_at, steps_of}
use Rattle.blocks.proofs.steps_of.Given as goal

abbrev pub invariant-loop-s : goal.invariant-loop-s
invariant-loop-s l = (l.end ≡ 127 * (length l.t / 512)) × (first (filler_at l.t) l.s (l.end - l.s) ≡ steps_of l.t)
