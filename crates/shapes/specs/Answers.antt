-- What the public calls answer: refusals 1, 2, else the truth. Assumes nothing.
use Rattle.std.specs.Prelude.{ℕ, List}
use Rattle.code.specs.Check.{check_of}
use mir.Val.{bool_byte}
use Rattle.refusals.specs.Answers.{asked, answer_of, refused_of}
use Rattle.refusals.specs.declared.Answer.{Answer}
use Rattle.shapes.specs.Shape.{flat, guarded}

-- 1, 2
unfoldable pub flat_answer : List ℕ → Answer
flat_answer w = asked (check_of w) refused_of (answer_of (bool_byte (flat w)) 0 0 0)

-- 1, 2
unfoldable pub guarded_answer : List ℕ → Answer
guarded_answer w = asked (check_of w) refused_of (answer_of (bool_byte (guarded w)) 0 0 0)
