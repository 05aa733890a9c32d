-- What `pushed_back` answers: refusals 1, 2, 6, else the position or nothing. Assumes nothing.
use Rattle.std.specs.Prelude.{ℕ, List}
use Rattle.code.specs.Check.{check_of}
use Rattle.refusals.specs.Stages.{inside_of}
use Rattle.refusals.specs.Answers.{asked, answer_of, refused_of}
use Rattle.refusals.specs.declared.Answer.{Answer}
use Rattle.pushes.specs.Pushes.{Place, pushed_back}
use Rattle.std.specs.declared.option.Option.TheVariants.{Some, None}

-- 1, position; or 0
abbrev pub push_told : Place → Answer
push_told (Some p) = answer_of 1 p 0 0
push_told None = answer_of 0 0 0 0

-- 1, 2, 6
unfoldable pub push_answer : List ℕ → ℕ → ℕ → Answer
push_answer w k r = asked (inside_of (check_of w) k) refused_of (push_told (pushed_back w k r))
