-- `code::first_bad` meets its contract: what is left to walk has the answer of the whole. Assumes nothing.
use mathlib.Core.Path.{◌≡◌}
use mathlib.Core.Bool.{not}
use Prim.Native.Nat.{◌≤◌, ◌-◌}
use Rattle.code.specs.Rules.{rule_at}
use Rattle.laws.specs.Walk.{first}
use Rattle.code.specs.Check.{first_bad}
use Rattle.code.proofs.first_bad.Given as goal

abbrev pub invariant-loop-k : goal.invariant-loop-k
invariant-loop-k l = (l.k ≤ l.n) × (first (λ j. not (rule_at l.code j)) l.k (l.n - l.k) ≡ first_bad l.code)
