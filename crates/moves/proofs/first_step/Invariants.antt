-- `moves::first_step` meets its contract. Assumes nothing.
use mathlib.Core.Path.{◌≡◌}
use Prim.Native.Nat.{◌+◌, ◌*◌, ◌-◌}
use Rattle.laws.specs.Walk.{first}
use Rattle.moves.specs.Moves.{bad_step, first_step}
use Rattle.moves.proofs.first_step.Given as goal

abbrev pub invariant-loop-s : goal.invariant-loop-s
invariant-loop-s l = (l.end ≡ 127 * l.b + 127) × (first (bad_step l.code l.tries l.t) l.s (l.end - l.s) ≡ first_step l.code l.tries l.t
    l.b)
