-- What an instruction of accepted code keeps, from `rules`. Assumes nothing.
use mathlib.Core.Path.{◌≡◌}
use mathlib.Core.Bool.{Bool, true, false, not, ◌&&◌, ◌||◌, false≢true}
use Prim.Native.Nat.{ℕ, ◌≤◌}
use lib.Dec.{leb}
use borrow.Author.Tests.{leb-true, eqb-true}
use Rattle.ops.specs.Op.{last, ArgsR}
use Rattle.code.specs.Ins.{is_call, wide}
use Rattle.code.specs.Rules.{op_known, marks_fit, x_fits, push_fits, unpack_fits, args_fit, followed, enter_fits, exit_fits, rules}
use Rattle.code.specs.declared.Ins.{Ins}
use Rattle.laws.proofs.Branch.{and-true}

implies : (p q : Bool) → not p || q ≡ true → p ≡ true → q ≡ true
implies true q h e = h
implies false q h e = absurd (false≢true e)

module _ (i : Ins) (k next : ℕ) (kept : rules i k next ≡ true) where
  seven : op_known i && marks_fit i && x_fits i && push_fits i && unpack_fits i && args_fit i k && followed i next ≡ true
  unfolding rules
  seven = (and-true _ (enter_fits i) (and-true _ (exit_fits i) kept).0).0

  five : op_known i && marks_fit i && x_fits i && push_fits i && unpack_fits i ≡ true
  five = (and-true _ (args_fit i k) (and-true _ (followed i next) seven).0).0

  three : op_known i && marks_fit i && x_fits i ≡ true
  three = (and-true _ (push_fits i) (and-true _ (unpack_fits i) five).0).0

  pub op_known_lem : i.op ≤ last
  op_known_lem = leb-true _ _ (and-true _ (marks_fit i) (and-true _ (x_fits i) three).0).0

  pub wide_call : wide i ≡ true → is_call i.op ≡ true
  wide_call w = implies (wide i) _ (and-true (leb i.marks 7) _ (and-true (op_known i) (marks_fit i) (and-true _ (x_fits i) three).0).1).1 w

  pub x_small : i.x ≤ 255
  x_small = leb-true _ _ (and-true (op_known i && marks_fit i) (x_fits i) three).1

  pub args_follow : wide i ≡ true → next ≡ ArgsR
  args_follow w =
      eqb-true _ _
      (implies (wide i) _
      (and-true (op_known i && marks_fit i && x_fits i && push_fits i && unpack_fits i && args_fit i k) (followed i next) seven).1 w)
