-- What `loops_around` answers and leaves. Assumes nothing.
use Rattle.std.specs.Prelude.{ℕ, ◌+◌, List, length}
use Rattle.code.specs.Ins.{count}
use Rattle.code.specs.Check.{check_of}
use Rattle.refusals.specs.Stages.{room_of}
use Rattle.refusals.specs.declared.Answer.{Answer}
use Rattle.surveys.specs.Answers.{Fills}
use Rattle.loops.specs.Loops.{depth}

-- 1, 2, 5
abbrev pub LoopsAround : List ℕ → List ℕ → Answer → List ℕ → Type 0
LoopsAround w out r out' = Fills (room_of (check_of w) 1 (length out) (count w + 1)) (count w + 1) (depth w) out r out'
