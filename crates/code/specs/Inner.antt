-- What only the inside of `code` needs: contracts of inner functions and proofs cite it, no promise does. Assumes nothing.
use Rattle.std.specs.Prelude.{ℕ, ◌%◌, ◌/◌, ◌<◌, ◌≤◌, ◌≡◌, true, Bool, ◌||◌, List, length, eqb}
use Rattle.code.specs.Rules.{rule_at}
use Rattle.ops.specs.Op.{PushRegs, UnpackR, ArgsR, WithEnter, WithExit}
use Rattle.code.specs.Ins.{is_call}

-- a multiple of the stride
abbrev pub Whole : List ℕ → Type 0
Whole w = length w % 6 ≡ 0

-- what code keeps that is not refused
pub record Valid (w : List ℕ) : Type 0 where
  pub whole : Whole w
  pub few : length w / 6 ≤ 65535
  pub kept : (k : ℕ) → k < length w / 6 → rule_at w k ≡ true

-- the opcodes that a rule names
abbrev pub has_rule : ℕ → Bool
has_rule o = is_call o || eqb o PushRegs || eqb o UnpackR || eqb o ArgsR || eqb o WithEnter || eqb o WithExit
