-- `refusals::first_bad_try` meets its contract: what is left to walk has the answer of the whole. Assumes nothing.
use mathlib.Core.Path.{◌≡◌}
use mathlib.Core.Bool.{not}
use Prim.Native.Nat.{◌≤◌, ◌-◌}
use Rattle.laws.specs.Walk.{first}
use Rattle.refusals.specs.Stages.{try_kept, first_bad_try}
use Rattle.refusals.proofs.first_bad_try.Given as goal

abbrev pub invariant-loop-i : goal.invariant-loop-i
invariant-loop-i l = (l.i ≤ l.m) × (first (λ j. not (try_kept l.tries l.n j)) l.i (l.m - l.i) ≡ first_bad_try l.tries l.n)
