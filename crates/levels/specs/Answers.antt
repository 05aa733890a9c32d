-- What `level` answers: by the resume point and the result register that demand 3 speaks of. Assumes nothing.
use Rattle.std.specs.Prelude.{ℕ, cond, List}
use Rattle.code.specs.Ins.{ins_at}
use Rattle.code.specs.Check.{check_of}
use Rattle.refusals.specs.Stages.{inside_of}
use Rattle.refusals.specs.Answers.{asked, answer_of, refused_of}
use Rattle.refusals.specs.declared.Answer.{Answer}
use Rattle.steps.specs.Level.{is_level}
use Rattle.steps.specs.Resume.{resume_of, result_at}

-- 1, where the level at k goes on, and its result register or 65,536; 0 where k is no level
abbrev pub level_told : List ℕ → ℕ → Answer
level_told w k = cond (is_level (ins_at w k)) (answer_of 1 (resume_of w k) (result_at w k) 0) (answer_of 0 0 0 0)

-- 1, 2, 6, else that
unfoldable pub level_answer : List ℕ → ℕ → Answer
level_answer w k = asked (inside_of (check_of w) k) refused_of (level_told w k)
