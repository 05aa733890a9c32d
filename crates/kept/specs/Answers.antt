-- The kept-register call, over the width of the scratch's words: all that it answers and leaves. Assumes nothing.
use Rattle.std.specs.Prelude.{ℕ, suc, ◌*◌, ◌≤◌, ◌<◌, ◌≡◌, Bool, List, length, drop}
use Rattle.code.specs.Ins.{count}
use Rattle.code.specs.Check.{check_of}
use Rattle.refusals.specs.Stages.{registers_of, tried_of, room_of}
use Rattle.refusals.specs.Stages.{Checked}
use Rattle.std.specs.declared.result.Result.TheVariants.{Ok, Err}
use Rattle.refusals.specs.declared.Refusal.{Refusal}
use Rattle.refusals.specs.declared.Refusal.TheVariants.{Short}
use Rattle.flow.specs.Flow.{Flow}
use Rattle.flow.specs.Sweep.{Found}
use Rattle.steps.specs.Code.{flow}
use Rattle.rows.specs.Route.{words_for, route_start, rows_in}
use Rattle.kept.specs.Lists.{lists_to, offsets_to, over}
use Rattle.kept.specs.declared.KeptAnswer.{KeptAnswer}
use Rattle.kept.specs.declared.KeptAnswer.TheVariants.{Is, No}

-- scratch: (n + 1) × words, of so many bits
abbrev pub scratch_for : ℕ → ℕ → List ℕ → ℕ
scratch_for bits regs w = suc (count w) * words_for bits regs

-- 1, 2, 3, 4, then 5 for the scratch and the offsets
unfoldable pub stages_of : ℕ → List ℕ → ℕ → List ℕ → ℕ → ℕ → Checked
stages_of bits w regs tries scratch offsets = room_of (room_of (tried_of (registers_of (check_of w) regs) tries) 1 scratch (scratch_for bits regs w)) 2 offsets
    (suc (count w))

-- the scratch holds the rows that the sweeps of some equations find from a start on, words past them as lent; the counts are the definition's
pub record RowsLeft (f : Flow) (start bits regs : ℕ) (w old new : List ℕ) (full abandoned : ℕ) : Type 0 where
  pub found : Found f start (rows_in bits regs w new) full abandoned
  pub long : length new ≡ length old
  pub past : drop (scratch_for bits regs w) new ≡ drop (scratch_for bits regs w) old

module _ (bits : ℕ) (w : List ℕ) (regs : ℕ) (tries : List ℕ) where
  -- the flat list, by the rows in the scratch
  abbrev pub list_of : List ℕ → List ℕ
  list_of new = lists_to regs w tries (rows_in bits regs w new) (count w)

  -- the n + 1 offsets of the lists, by the rows in the scratch
  abbrev pub offsets_of : List ℕ → List ℕ
  offsets_of new = offsets_to regs w tries (rows_in bits regs w new) (suc (count w))

module _ (f : Flow) (start bits : ℕ) (w : List ℕ) (regs : ℕ) (tries rows offsets list : List ℕ) where
  -- what a call by these equations leaves in scratch, offsets and list, and what it answers
  pub data ListsLeft : List ℕ → List ℕ → List ℕ → KeptAnswer → Type 0 where
    -- a refusal leaves all buffers untouched
    refused : {r : Refusal} → stages_of bits w regs tries (length rows) (length offsets) ≡ Err r → ListsLeft rows offsets list (No r)
    -- but for one: 5 for the list, after the rows are found
    short : {new : List ℕ} {full abandoned : ℕ} → stages_of bits w regs tries (length rows) (length offsets) ≡ Ok (count w)
        → RowsLeft f start bits regs w rows new full abandoned
        → length list < length (list_of bits w regs tries new) → ListsLeft new offsets list (No (Short 3 (length (list_of bits w regs tries new))))
    -- the list's length and the two sweep counts
    told : {new : List ℕ} {full abandoned : ℕ} → stages_of bits w regs tries (length rows) (length offsets) ≡ Ok (count w)
        → RowsLeft f start bits regs w rows new full abandoned → length (list_of bits w regs tries new) ≤ length list
        → ListsLeft new (over (offsets_of bits w regs tries new) offsets) (over (list_of bits w regs tries new) list)
        (Is (length (list_of bits w regs tries new)) full abandoned)

-- the kept-register call of document 01
abbrev pub Outcome : ℕ → List ℕ → ℕ → List ℕ → Bool → (rows offsets list new o l : List ℕ) → KeptAnswer → Type 0
Outcome bits w regs tries wide rows offsets list new o l r =
    ListsLeft (flow regs w) (route_start bits wide regs w) bits w regs tries rows offsets list new o l r
