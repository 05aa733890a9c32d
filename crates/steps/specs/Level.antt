-- The levels of lent code: `level_at` of block.rs. Assumes nothing.
use Rattle.std.specs.Prelude.{ℕ, Bool, ◌||◌, List, eqb}
use Rattle.laws.specs.Walk.{first}
use Rattle.ops.specs.Op.{JumpIfFalseR, GetAttrR, Call}
use Rattle.code.specs.Ins.{ins_at, count, is_call, dunder}
use Rattle.code.specs.declared.Ins.{Ins}

-- the four calls, JumpIfFalseR, GetAttrR, Call, and what has the dunder mark
unfoldable pub is_level : Ins → Bool
is_level i = is_call i.op || eqb i.op JumpIfFalseR || eqb i.op GetAttrR || eqb i.op Call || dunder i

-- the first level, n if there is none
unfoldable pub first_level : List ℕ → ℕ
first_level w = first (λ k. is_level (ins_at w k)) 0 (count w)
