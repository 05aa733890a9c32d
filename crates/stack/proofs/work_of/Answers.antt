-- `stack::work_of` meets its contract: its arms are the rows of `works`. Assumes nothing.
use mathlib.Core.Path.{◌≡◌, refl}
use mathlib.Core.Bool.{true}
use Prim.Native.Nat.{ℕ}
use types.Run.{OneOf}
use Rattle.laws.proofs.Keys.{sorted, row, apart, named, unnamed, Rest}
use Rattle.stack.specs.Stack.{works, work_of}
use Rattle.stack.specs.declared.Work.TheVariants.{Role}
use Rattle.stack.proofs.work_of.Goals as goal

works_apart : apart Role works ≡ true
unfolding works
works_apart = refl

arm : (j o : ℕ) → OneOf (sorted (row Role works j).ops) o → (row Role works j).rule ≡ work_of o
unfolding work_of
arm = named Role works works_apart

rest : (o : ℕ) → Rest Role o (Unit {0}) works → Role ≡ work_of o
unfolding work_of
rest = unnamed Role works

pub returns-in-59 : goal.returns-in-59
unfolding works
returns-in-59 c = arm 0 _ c.in-59.is

pub returns-in-143 : goal.returns-in-143
unfolding works
returns-in-143 c = arm 1 _ c.in-143.is

pub returns-in-10 : goal.returns-in-10
unfolding works
returns-in-10 c = arm 2 _ c.in-10.is

pub returns-in-1 : goal.returns-in-1
unfolding works
returns-in-1 c = arm 3 _ c.in-1.is

pub returns-in-122 : goal.returns-in-122
unfolding works
returns-in-122 c = arm 4 _ c.in-122.is

pub returns-in-104 : goal.returns-in-104
unfolding works
returns-in-104 c = arm 5 _ c.in-104.is

pub returns-in-24 : goal.returns-in-24
unfolding works
returns-in-24 c = arm 6 _ c.in-24.is

pub returns-in-8 : goal.returns-in-8
unfolding works
returns-in-8 c = arm 7 _ c.in-8.is

pub returns-in_default : goal.returns-in_default
unfolding works
returns-in_default c = rest _ c.in_default.in_default-own.rest
