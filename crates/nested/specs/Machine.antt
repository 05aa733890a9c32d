-- The machine of nested frames: at every level a callee may overwrite what is not kept, and return or raise. Assumes nothing.
use Rattle.std.specs.Prelude.{◌≡◌, Bool, true, cond, ℕ, ◌<◌, ltb, get_or}
use mathlib.Core.List.{List, [], ◌∷◌, Memᴰ}
use Rattle.flow.specs.Set.{bit}
use Rattle.flow.specs.Flow.{Flow}
use Rattle.flow.specs.Run.{values_of, wrote, file_after, chosen}
use Rattle.flow.specs.Kept.{Level}

-- Code with its levels: which positions are levels, where each goes on, and the registers that a call there reads as it begins.
pub record Frame : Type 0 where
  pub flow : Flow
  pub level : ℕ → Bool
  pub goes : ℕ → Level
  pub args : ℕ → ℕ

-- What happens at a position.
pub data Event : Type 0 where
  -- a step of the code itself: which of the positions that may come next, and what is written
  step : (choice : ℕ) (new : List ℕ) → Event
  -- a call that returns: what the callee leaves in the registers that it may overwrite, and the result
  back : (left new : List ℕ) → Event
  -- a call that raises: what the callee leaves, and which handler catches
  thrown : (left : List ℕ) (handler : ℕ) → Event

module _ (c : Frame) (lost : ℕ → ℕ) where
  -- the registers read
  abbrev pub read_at : Event → ℕ → ℕ
  read_at (step choice new) k = c.flow.used k
  read_at (back left new) k = cond (c.level k) (c.args k) 0
  read_at (thrown left handler) k = cond (c.level k) (c.args k) 0

  -- where it goes on; no call happens where there is no level
  abbrev pub next_at : Event → ℕ → ℕ
  next_at (step choice new) k = chosen c.flow k choice
  next_at (back left new) k = cond (c.level k) (c.goes k).resume c.flow.size
  next_at (thrown left handler) k = cond (c.level k) (get_or (c.goes k).handlers handler c.flow.size) c.flow.size

  -- the file then: a callee overwrites the registers lost to it, and a result is written where the level has a register for it
  abbrev pub file_at : Event → ℕ → List ℕ → List ℕ
  file_at (step choice new) k file = file_after c.flow k choice new file
  file_at (back left new) k file = wrote (c.goes k).result new (wrote (lost k) left file 0 c.flow.regs) 0 c.flow.regs
  file_at (thrown left handler) k file = wrote (lost k) left file 0 c.flow.regs

  -- the positions and the values read, event by event
  unfoldable pub nested : List Event → ℕ → List ℕ → List (ℕ × List ℕ)
  nested [] k file = []
  nested (e ∷ es) k file = cond (ltb k c.flow.size) ((k, values_of c.flow (read_at e k) file) ∷ nested es (next_at e k) (file_at e k file)) []

-- nothing is overwritten
abbrev pub undisturbed : ℕ → ℕ
undisturbed k = 0

-- no kept register is overwritten
abbrev pub Spares : Frame → (ℕ → List ℕ) → (ℕ → ℕ) → Type 0
Spares c lists lost = (k r : ℕ) → k < c.flow.size → c.level k ≡ true → Memᴰ r (lists k) → bit (lost k) r ≡ 0

-- Whatever callees do to the registers that are not kept, at any level and as often as they are called, and whether they return or raise,
-- the run visits the same positions and reads the same values as if they did nothing.
abbrev pub Sheltered : Frame → (ℕ → List ℕ) → Type 0
Sheltered c lists =
    (lost : ℕ → ℕ) → Spares c lists lost → (events : List Event) (k : ℕ) (file : List ℕ) → nested c lost events k file ≡ nested c undisturbed events k file
