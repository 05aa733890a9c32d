-- What `stack_callee` answers: refusals 1, 2, 6, else the push and its register, or nothing. Assumes nothing.
use Rattle.std.specs.Prelude.{ℕ, List}
use Rattle.code.specs.Check.{check_of}
use Rattle.refusals.specs.Stages.{inside_of}
use Rattle.refusals.specs.Answers.{asked, answer_of, refused_of}
use Rattle.refusals.specs.declared.Answer.{Answer}
use Rattle.stack.specs.Stack.{Source, stack_callee}
use Rattle.std.specs.declared.option.Option.TheVariants.{Some, None}

-- 1, position, register; or 0
abbrev pub stack_told : Source → Answer
stack_told (Some x) = answer_of 1 x.0 x.1 0
stack_told None = answer_of 0 0 0 0

-- 1, 2, 6
unfoldable pub stack_answer : List ℕ → ℕ → ℕ → Answer
stack_answer w k n = asked (inside_of (check_of w) k) refused_of (stack_told (stack_callee w k n))
