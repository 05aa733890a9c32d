-- The replay of a survey day: all that the call answers and leaves. Assumes nothing.
use Rattle.std.specs.Prelude.{ℕ, ◌≡◌, List, length}
use Rattle.laws.specs.Table.{filled_to}
use Rattle.code.specs.Ins.{count}
use Rattle.code.specs.Check.{check_of}
use Rattle.refusals.specs.Stages.{registers_of, tried_of, room_of}
use Rattle.refusals.specs.Stages.{Checked}
use Rattle.std.specs.declared.result.Result.{Result}
use Rattle.std.specs.declared.result.Result.TheVariants.{Ok, Err}
use Rattle.refusals.specs.declared.Refusal.{Refusal}
use Rattle.blocks.specs.Blocks.{steps_of}
use Rattle.trace.specs.Trace.{Fine, verdict_of}
use Rattle.day.specs.Count.{reads_in, levels_in}
use Rattle.trace.specs.declared.Wrong.{Wrong}
use Rattle.day.specs.declared.DayRefusal.{DayRefusal}
use Rattle.day.specs.declared.DayRefusal.TheVariants.{Call, Trace}

-- steps and levels met, or why there is no report
abbrev pub DayAnswer : Type 0
DayAnswer = Result (ℕ × ℕ) DayRefusal

-- 1, 2, 3, 4, then 5 for the reads
unfoldable pub replay_stages : List ℕ → ℕ → List ℕ → ℕ → Checked
replay_stages w regs tries reads = room_of (tried_of (registers_of (check_of w) regs) tries) 1 reads regs

module _ (w : List ℕ) (regs : ℕ) (tries t old : List ℕ) where
  -- what the call leaves in the reads, and what it answers
  pub data Day : List ℕ → DayAnswer → Type 0 where
    refused : {r : Refusal} → replay_stages w regs tries (length old) ≡ Err r → Day old (Err (Call r))
    wrong : {x : Wrong} → replay_stages w regs tries (length old) ≡ Ok (count w) → verdict_of w tries t ≡ Err x → Day old (Err (Trace x))
    told : replay_stages w regs tries (length old) ≡ Ok (count w) → verdict_of w tries t ≡ Fine
        → Day (filled_to (reads_in w t (steps_of t)) regs old) (Ok (steps_of t, levels_in w t (steps_of t)))
