-- The call's answer: refusals 1, 2, 3, 6 beyond n, and 5 for the marks, then for the waiting positions; else a truth. Assumes nothing.
use Rattle.std.specs.Prelude.{ℕ, ◌+◌, cond, List, ltb}
use Rattle.code.specs.Ins.{count}
use Rattle.refusals.specs.Stages.{and_then, registers_of}
use Rattle.code.specs.Check.{check_of}
use Rattle.refusals.specs.declared.Answer.{Answer}
use Rattle.refusals.specs.Stages.{Checked}
use Rattle.std.specs.declared.result.Result.TheVariants.{Ok, Err}
use Rattle.refusals.specs.declared.Refusal.TheVariants.{Position}
use Rattle.unread.specs.Answers.{room_both, Tells}
use Rattle.steps.specs.Code.{flow}
use Rattle.needed.specs.Path.{Needs}

-- 6: position beyond n
abbrev pub upto_of : Checked → ℕ → Checked
upto_of v k = and_then v (λ n. cond (ltb n k) (Err (Position k)) (Ok n))

-- 1, 2, 3, 6, 5
abbrev pub NeededTold : List ℕ → ℕ → ℕ → ℕ → List ℕ → List ℕ → Answer → List ℕ → List ℕ → Type 0
NeededTold w regs k r seen todo v seen' todo' =
    Tells (room_both (upto_of (registers_of (check_of w) regs) k) w seen todo) (Needs (flow regs w) r k) (count w + 1) seen todo v seen' todo'
