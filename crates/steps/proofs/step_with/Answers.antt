-- `steps::step_with` meets its contract: m tells all, or the step is found in full. Assumes nothing.
use borrow.Author.Rules.{rules}
use mathlib.Core.Path.{◌≡◌}
use mathlib.Core.List.{List}
use Prim.Native.Nat.{ℕ, ◌<◌}
use Rattle.code.specs.Ins.{ins_at, count}
use Rattle.code.specs.declared.Ins.{Ins}
use Rattle.steps.specs.Inner.{StepAt, calm_of, turn_step}
use Rattle.steps.specs.declared.Step.{Step}
use Rattle.steps.proofs.Told.{turn_is}
use Rattle.steps.proofs.step_with.Goals as goal

by_turn : (w : List ℕ) (k m n : ℕ) (i : Ins) (s : Step) → s ≡ turn_step i m n → i ≡ ins_at w k → m ≡ calm_of i.op → n ≡ count w → m < 64 → StepAt w k s
by_turn w k m n i s q place e en l = rw q (turn_is w k m i place e n en l)

pub returns-then-m-lt64 : goal.returns-then-m-lt64
returns-then-m-lt64 c = search (rules, by_turn)
