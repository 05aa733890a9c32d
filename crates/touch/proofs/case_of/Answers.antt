-- `touch::case_of` meets its contract: its arms are the rows of `cases`. Assumes nothing.
use mathlib.Core.Path.{◌≡◌, refl}
use mathlib.Core.Bool.{true}
use Prim.Native.Nat.{ℕ}
use types.Run.{OneOf}
use Rattle.laws.proofs.Keys.{sorted, row, apart, named, unnamed, Rest}
use Rattle.roles.specs.Sets.{cases, case_of}
use Rattle.roles.specs.declared.Case.TheVariants.{Plain}
use Rattle.touch.proofs.case_of.Goals as goal

cases_apart : apart Plain cases ≡ true
unfolding cases
cases_apart = refl

arm : (j o : ℕ) → OneOf (sorted (row Plain cases j).ops) o → (row Plain cases j).rule ≡ case_of o
unfolding case_of
arm = named Plain cases cases_apart

rest : (o : ℕ) → Rest Plain o (Unit {0}) cases → Plain ≡ case_of o
unfolding case_of
rest = unnamed Plain cases

pub returns-in-143 : goal.returns-in-143
unfolding cases
returns-in-143 c = arm 0 _ c.in-143.is

pub returns-in-141 : goal.returns-in-141
unfolding cases
returns-in-141 c = arm 1 _ c.in-141.is

pub returns-in-154 : goal.returns-in-154
unfolding cases
returns-in-154 c = arm 2 _ c.in-154.is

pub returns-in-156 : goal.returns-in-156
unfolding cases
returns-in-156 c = arm 3 _ c.in-156.is

pub returns-in-47 : goal.returns-in-47
unfolding cases
returns-in-47 c = arm 4 _ c.in-47.is

pub returns-in-145 : goal.returns-in-145
unfolding cases
returns-in-145 c = arm 5 _ c.in-145.is

pub returns-in_default : goal.returns-in_default
unfolding cases
returns-in_default c = rest _ c.in_default.in_default-own.rest
