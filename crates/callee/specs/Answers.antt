-- What `global_of` answers: refusals 1, 2, 6, else the binding or nothing. Assumes nothing.
use Rattle.std.specs.Prelude.{ℕ, List}
use Rattle.code.specs.Check.{check_of}
use Rattle.refusals.specs.Stages.{inside_of}
use Rattle.refusals.specs.Answers.{asked, answer_of, refused_of}
use Rattle.refusals.specs.declared.Answer.{Answer}
use Rattle.callee.specs.Trace.{Callee, global_of}
use Rattle.std.specs.declared.option.Option.TheVariants.{Some, None}

-- 1, binding; or 0
abbrev pub global_told : Callee → Answer
global_told (Some b) = answer_of 1 b 0 0
global_told None = answer_of 0 0 0 0

-- 1, 2, 6
unfoldable pub global_answer : List ℕ → ℕ → Answer
global_answer w k = asked (inside_of (check_of w) k) refused_of (global_told (global_of w k))
