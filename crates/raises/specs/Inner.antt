-- What only the inside of `raises` needs: contracts of inner functions and proofs cite it, no promise does. Assumes nothing.
use Rattle.std.specs.Prelude.{ℕ, Bool, List}
use Rattle.nested.specs.Raising.{raising, mays, begins_at}
use Rattle.kept.specs.Answers.{ListsLeft}
use Rattle.kept.specs.declared.KeptAnswer.{KeptAnswer}

-- refusals and leavings are those of the kept-register call; the rows are those of the equations with handlers
abbrev pub RaisingOutcome : List ℕ → ℕ → List ℕ → Bool → (rows offsets list new o l : List ℕ) → KeptAnswer → Type 0
RaisingOutcome w regs tries all rows offsets list new o l r = ListsLeft (raising (mays all w) regs w tries)
    (begins_at regs w) 64 w regs tries rows offsets list new o l r
