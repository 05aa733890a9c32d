-- What `dead_phi` answers: refusals 1, 2, 6, and 5 for the marks, then for the waiting positions; else a truth. Assumes nothing.
use Rattle.std.specs.Prelude.{ℕ, ◌+◌, ◌≡◌, Bool, List, length}
use mir.Val.{bool_byte}
use Rattle.code.specs.Ins.{count}
use Rattle.code.specs.Check.{check_of}
use Rattle.refusals.specs.Stages.{inside_of, room_of}
use Rattle.refusals.specs.Answers.{answer_of, refused_of}
use Rattle.refusals.specs.declared.Answer.{Answer}
use Rattle.refusals.specs.Stages.{Checked}
use Rattle.std.specs.declared.result.Result.TheVariants.{Ok, Err}
use Rattle.paths.specs.Search.{SearchSettles}
use Rattle.unread.specs.Phi.{Dead}

-- both buffers have n + 1 words
abbrev pub room_both : Checked → List ℕ → List ℕ → List ℕ → Checked
room_both v w seen todo = room_of (room_of v 1 (length seen) (count w + 1)) 2 (length todo) (count w + 1)

-- refused and nothing touched; or told whether P holds, the n + 1 words of both buffers 0, and the words past them untouched
abbrev pub Tells : Checked → Type 0 → ℕ → List ℕ → List ℕ → Answer → List ℕ → List ℕ → Type 0
Tells (Err q) P m seen todo r seen' todo' = (r ≡ refused_of q) × (seen' ≡ seen) × (todo' ≡ todo)
Tells (Ok n) P m seen todo r seen' todo' = (b : Bool) × (r ≡ answer_of (bool_byte b) 0 0 0) × SearchSettles P m seen todo b seen' todo'

-- 1, 2, 6, 5
abbrev pub DeadPhi : List ℕ → ℕ → ℕ → List ℕ → List ℕ → Answer → List ℕ → List ℕ → Type 0
DeadPhi w k r seen todo v seen' todo' = Tells (room_both (inside_of (check_of w) k) w seen todo) (Dead w k r) (count w + 1) seen todo v seen' todo'
