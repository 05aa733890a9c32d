-- What `gen_pure` answers: refusals 1, 2, and 5 for the marks, then for the waiting positions; else a truth. Assumes nothing.
use Rattle.std.specs.Prelude.{ℕ, ◌+◌, List}
use Rattle.code.specs.Ins.{count}
use Rattle.code.specs.Check.{check_of}
use Rattle.refusals.specs.declared.Answer.{Answer}
use Rattle.unread.specs.Answers.{room_both, Tells}
use Rattle.generators.specs.Generator.{GenPure}

-- 1, 2, 5
abbrev pub GenTold : List ℕ → List ℕ → List ℕ → Answer → List ℕ → List ℕ → Type 0
GenTold w seen todo v seen' todo' = Tells (room_both (check_of w) w seen todo) (GenPure w) (count w + 1) seen todo v seen' todo'
