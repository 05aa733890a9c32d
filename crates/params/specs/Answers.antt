-- What the public call answers: the refusals that it has the input for, in document 01's order; else the bits. Assumes nothing.
use Rattle.std.specs.Prelude.{ℕ, List}
use Rattle.code.specs.Check.{check_of}
use Rattle.refusals.specs.Answers.{asked, answer_of, refused_of}
use Rattle.refusals.specs.declared.Answer.{Answer}
use Rattle.params.specs.Masks.{params_written}

-- 1, 2
unfoldable pub written_answer : List ℕ → ℕ → Answer
written_answer w arity = asked (check_of w) refused_of (answer_of (params_written w arity) 0 0 0)
