-- What the public call answers: the refusals that it has the input for, in document 01's order; else the bits. Assumes nothing.
use Rattle.std.specs.Prelude.{ℕ, cond, List}
use Rattle.code.specs.Ins.{ins_at, is_call}
use Rattle.code.specs.Check.{check_of}
use Rattle.refusals.specs.Stages.{inside_of}
use Rattle.refusals.specs.Answers.{asked, answer_of, refused_of}
use Rattle.refusals.specs.declared.Answer.{Answer}
use Rattle.refusals.specs.declared.Refusal.TheVariants.{Position}
use Rattle.passed.specs.Passed.{passed_at}

-- 1, 2, 6; 6 also where the position is not one of the four calls
unfoldable pub passed_answer : List ℕ → ℕ → ℕ → Answer
passed_answer w j arity =
    asked (inside_of (check_of w) j) refused_of (cond (is_call (ins_at w j).op) (answer_of (passed_at w j arity) 0 0 0) (refused_of (Position j)))
