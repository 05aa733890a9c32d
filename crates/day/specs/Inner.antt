-- What only the inside of `day` needs: contracts of inner functions and proofs cite it, no promise does. Assumes nothing.
use Rattle.std.specs.Prelude.{ℕ, ◌+◌, ◌*◌, ◌/◌, ◌<◌, ◌≤◌, ◌≡◌, Bool, ◌&&◌, ◌||◌, List, eqb, length, get_or}
use mir.Val.{bool_byte}
use Rattle.laws.specs.Table.{filled_to, Held}
use Rattle.laws.specs.Page.{among}
use Rattle.code.specs.Ins.{count}
use Rattle.code.specs.Inner.{Whole}
use Rattle.steps.specs.Code.{used_at}
use Rattle.blocks.specs.Blocks.{slot_at}
use Rattle.day.specs.Count.{reads_in, levels_in}

-- the counts of the first registers can still rise
pub record CanRise (regs : ℕ) (reads : List ℕ) : Type 0 where
  pub room : regs ≤ length reads
  pub each : (p : ℕ) → p < regs → get_or reads p 0 < 18446744073709551615

-- the counts of the first registers are all below 2^63, so that each can rise several times
pub record Lower (regs : ℕ) (reads : List ℕ) : Type 0 where
  pub room : regs ≤ length reads
  pub each : (p : ℕ) → p < regs → get_or reads p 0 < 9223372036854775808

-- the counts of the first registers are all 0
pub record ZeroReads (regs : ℕ) (reads : List ℕ) : Type 0 where
  pub room : regs ≤ length reads
  pub each : (p : ℕ) → p < regs → get_or reads p 0 ≡ 0

-- register r, if t says so and it is one of the first, is counted once more
pub record CountedOnce (regs : ℕ) (old new : List ℕ) (t : Bool) (r : ℕ) : Type 0 where
  pub held : Held regs old new
  pub each : (p : ℕ) → p < regs → get_or new p 0 ≡ get_or old p 0 + bool_byte (t && eqb p r)

-- the same of three registers, each once
pub record Thrice (regs : ℕ) (old new : List ℕ) (x : Bool) (u : ℕ) (y : Bool) (v : ℕ) (z : Bool) (r : ℕ) : Type 0 where
  pub held : Held regs old new
  pub each : (p : ℕ) → p < regs → get_or new p 0 ≡ get_or old p 0 + bool_byte ((x && eqb p u) || (y && eqb p v) || (z && eqb p r))

-- the registers that the step at k uses are counted once more
pub record Stepped (regs : ℕ) (old new w : List ℕ) (k : ℕ) : Type 0 where
  pub held : Held regs old new
  pub each : (p : ℕ) → p < regs → get_or new p 0 ≡ get_or old p 0 + bool_byte (among p (used_at w k))

-- m steps of the trace counted: the reads of each of the first registers, and how many of the steps are levels
pub record Tallied (w t : List ℕ) (regs : ℕ) (old : List ℕ) (m : ℕ) (new : List ℕ) (levels : ℕ) : Type 0 where
  pub reads : new ≡ filled_to (reads_in w t m) regs old
  pub met : levels ≡ levels_in w t m

-- steps that are in the trace and in the code
pub record Walkable (w t : List ℕ) (m : ℕ) : Type 0 where
  pub whole : Whole w
  pub long : m ≤ 127 * (length t / 512)
  pub few : m < 9223372036854775808
  pub below : (s : ℕ) → s < m → slot_at t s < count w
