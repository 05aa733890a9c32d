-- What `pure` answers: refusals 1, 2, else the truth. Assumes nothing.
use Rattle.std.specs.Prelude.{ℕ, false, List}
use Rattle.code.specs.Check.{check_of}
use mir.Val.{bool_byte}
use Rattle.refusals.specs.Answers.{asked, answer_of, refused_of}
use Rattle.refusals.specs.declared.Answer.{Answer}
use Rattle.laid.specs.Section.{laid}

-- 1, 2
unfoldable pub pure_answer : List ℕ → Answer
pure_answer w = asked (check_of w) refused_of (answer_of (bool_byte (laid w false)) 0 0 0)
