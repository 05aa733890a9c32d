-- Where a level goes on, and the register of its result. Assumes nothing.
use Rattle.std.specs.Prelude.{ℕ, ◌+◌, cond, ◌||◌, List, eqb, ltb}
use Rattle.ops.specs.Op.{JumpIfFalseR, Call}
use Rattle.code.specs.Ins.{ins_at, count, is_call}
use Rattle.steps.specs.Code.{store_of}

-- resume: JumpIfFalseR at k; Call at k + 1; one of the four calls at its store, past ArgsR if wide; all others at k + 1
unfoldable pub resume_of : List ℕ → ℕ → ℕ
resume_of w k = let o = (ins_at w k).op in cond (eqb o JumpIfFalseR) k (cond (is_call o) (store_of w k) (k + 1))

-- no register: no operand is so high
abbrev pub no_register : ℕ
no_register = 65536

-- the result register: a of a call's store, a of all others; JumpIfFalseR and Call have none, nor has a call whose store would be at n or beyond
unfoldable pub result_at : List ℕ → ℕ → ℕ
result_at w k =
    let o = (ins_at w k).op in
    cond (eqb o JumpIfFalseR || eqb o Call) no_register (cond (is_call o) (cond (ltb (store_of w k) (count w)) (ins_at w (store_of w k)).a no_register)
    (ins_at w k).a)
