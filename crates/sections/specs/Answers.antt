-- What `returns` answers: refusals 1, 2, 6, else the truth. Assumes nothing.
use Rattle.std.specs.Prelude.{ℕ, List}
use Rattle.code.specs.Check.{check_of}
use Rattle.refusals.specs.Stages.{inside_of}
use mir.Val.{bool_byte}
use Rattle.refusals.specs.Answers.{asked, answer_of, refused_of}
use Rattle.refusals.specs.declared.Answer.{Answer}
use Rattle.sections.specs.Returns.{returns_at}

-- 1, 2, 6
unfoldable pub returns_answer : List ℕ → ℕ → Answer
returns_answer w k = asked (inside_of (check_of w) k) refused_of (answer_of (bool_byte (returns_at w k)) 0 0 0)
