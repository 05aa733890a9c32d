-- `steps::first_level` meets its contract: what is left to walk has the answer of the whole. Assumes nothing.
use mathlib.Core.Path.{◌≡◌}
use Prim.Native.Nat.{◌≤◌, ◌-◌}
use Rattle.laws.specs.Walk.{first}
use Rattle.code.specs.Ins.{ins_at}
use Rattle.steps.specs.Level.{is_level, first_level}
use Rattle.steps.proofs.first_level.Given as goal

abbrev pub invariant-loop-k : goal.invariant-loop-k
invariant-loop-k l = (l.k ≤ l.n) × (first (λ j. is_level (ins_at l.code j)) l.k (l.n - l.k) ≡ first_level l.code)
