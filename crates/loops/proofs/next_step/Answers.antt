-- `loops::next_step` meets its contract. Assumes nothing.
use borrow.Author.Rules.{rules}
use mathlib.Core.Path.{◌≡◌, refl}
use mathlib.Core.Bool.{◌||◌}
use mathlib.Core.List.{List}
use Prim.Native.Nat.{ℕ, ◌-◌, ◌/◌}
use lib.Dec.{eqb}
use lib.ListN.{length}
use Rattle.laws.specs.Walk.{first}
use Rattle.laws.proofs.Walk.{finds}
use Rattle.ops.specs.Op.{ForIterR, ForIter}
use Rattle.code.specs.Ins.{ins_at}
use Rattle.code.specs.declared.Ins.{Ins}
use Rattle.loops.specs.Loops.{step_at, next_step}
use Rattle.loops.proofs.next_step.Goals as goal

starts : (w : List ℕ) (g : ℕ) → first (step_at w) g (length w / 6 - g) ≡ next_step w g
unfolding next_step
starts w g = refl

at_k : (w : List ℕ) (k : ℕ) (i : Ins) → i ≡ ins_at w k → eqb i.op ForIterR || eqb i.op ForIter ≡ step_at w k
unfolding step_at
at_k w k i e = rw e

pub loop-k-init : goal.loop-k-init
loop-k-init c = search (rules, starts)

pub returns-then-i : goal.returns-then-i
returns-then-i c = search (rules, finds, at_k)

pub loop-k-preserved : goal.loop-k-preserved
loop-k-preserved c = search (rules, finds, at_k)

pub returns : goal.returns
returns c = search (rules, finds)
