-- What only the inside of `kept` needs: contracts of inner functions and proofs cite it, no promise does. Assumes nothing.
use Rattle.std.specs.Prelude.{ℕ, suc, ◌*◌, ◌^◌, ◌≤◌, ◌<◌, ◌≡◌, List, length, Bool}
use Rattle.code.specs.Ins.{count}
use Rattle.code.specs.Inner.{Valid}
use Rattle.flow.specs.Sweep.{row}
use Rattle.flow.specs.Words.{rows_of, Small}
use Rattle.kept.specs.Lists.{lists_to, offsets_to, over}
pub use Rattle.sets.specs.Word.{Width}
use Rattle.steps.specs.Code.{flow}
use Rattle.rows.specs.Route.{route_start}
use Rattle.kept.specs.Answers.{RowsLeft}

-- the rows that a buffer holds, in so many words each, of so many bits
abbrev pub rows_by : ℕ → ℕ → List ℕ → List ℕ → List ℕ
rows_by bits words w buf = rows_of bits words (suc (count w)) buf

-- what a pass over the levels relies on, with words of so many bits and so many of them in hand: valid code, its rows in so many words each, and no register at
-- or above the count
pub record LevelsRoom (bits hand regs : ℕ) (w : List ℕ) (words : ℕ) (buf : List ℕ) : Type 0 where
  pub width : Width bits hand
  pub valid : Valid w
  pub few : regs ≤ 1024
  pub narrow : words ≤ hand
  pub enough : regs ≤ words * bits
  pub room : suc (count w) * words ≤ length buf
  pub small : Small bits buf
  pub bound : (k : ℕ) → row (rows_by bits words w buf) k < 2 ^ regs

-- all lists and offsets are written
pub record Filled (regs : ℕ) (w tries rows offsets list offsets' list' : List ℕ) : Type 0 where
  pub begins : offsets' ≡ over (offsets_to regs w tries rows (suc (count w))) offsets
  pub lists : list' ≡ over (lists_to regs w tries rows (count w)) list

-- document 01's equations, from where its route begins
abbrev pub Scratch : ℕ → Bool → ℕ → (w old new : List ℕ) (full abandoned : ℕ) → Type 0
Scratch bits wide regs w old new full abandoned = RowsLeft (flow regs w) (route_start bits wide regs w) bits regs w old new full abandoned
