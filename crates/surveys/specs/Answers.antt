-- What a call that fills a buffer answers and leaves: the refusals that it has the input for, in document 01's order; else the filled buffer. Assumes nothing.
use Rattle.std.specs.Prelude.{ℕ, ◌+◌, ◌≡◌, List, length}
use mir.Val.{bool_byte}
use Rattle.laws.specs.Table.{filled_to}
use Rattle.code.specs.Ins.{count}
use Rattle.code.specs.Check.{check_of}
use Rattle.refusals.specs.Stages.{tried_of, room_of}
use Rattle.refusals.specs.Answers.{asked, answer_of, refused_of}
use Rattle.refusals.specs.declared.Answer.{Answer}
use Rattle.refusals.specs.Stages.{Checked}
use Rattle.surveys.specs.Targets.{target}

-- a call that fills m entries: refused and nothing touched; or no value, entry p is f p, and the words past them stay
pub record Fills (v : Checked) (m : ℕ) (f : ℕ → ℕ) (out : List ℕ) (r : Answer) (out' : List ℕ) : Type 0 where
  pub answer : r ≡ asked v refused_of (answer_of 0 0 0 0)
  pub words : out' ≡ asked v (λ _. out) (filled_to f m out)

-- entry p is 1 where p is a target, else 0
unfoldable pub target_mark : List ℕ → List ℕ → ℕ → ℕ
target_mark w t p = bool_byte (target w t p)

-- 1, 2, 4, 5
abbrev pub Targets : List ℕ → List ℕ → List ℕ → Answer → List ℕ → Type 0
Targets w t out r out' = Fills (room_of (tried_of (check_of w) t) 1 (length out) (count w + 1)) (count w + 1) (target_mark w t) out r out'
