-- What the rows of either route are, in words of any width: the least solution from the final start, nothing below it, no register at or above the count, one
-- answer. Assumes nothing.
use mathlib.Core.Path.{◌≡◌}
use mathlib.Core.Bool.{Bool, true, false, cond, ◌||◌}
use mathlib.Core.List.{List}
use Prim.Native.Nat.{ℕ, ◌+◌, ◌^◌, ◌≤◌, ◌<◌, zero-le}
use native.Mathlib.Nat.{le_refl}
use lib.Dec.{ltb}
use Rattle.code.specs.Ins.{count}
use Rattle.flow.specs.Flow.{Least}
use Rattle.flow.specs.Sweep.{row, backs, start_of}
use Rattle.flow.proofs.Answer.{found_one, found_least, found_below, found_regs, found_few, found_lost}
use Rattle.steps.specs.Level.{first_level}
use Rattle.steps.specs.Code.{used_at, flow}
use Rattle.rows.specs.Route.{route_start, rows_in}
use Rattle.rows.specs.Inner.{Rows}
use Rattle.sets.proofs.Sets.{set_lt}
use Rattle.rows.proofs.Sweeps.{level_le}

module _ (bits : ℕ) (wide : Bool) (regs : ℕ) (w buf : List ℕ) (full lost : ℕ) (found : Rows bits wide regs w buf full lost) where
  -- where the sweeps began in the end
  abbrev pub start : ℕ
  start = start_of (flow regs w) (route_start bits wide regs w)

  inside : route_start bits wide regs w ≤ count w
  unfolding route_start
  inside = go (wide || ltb bits regs)
    where
      go : (t : Bool) → cond t 0 (first_level w) ≤ count w
      go true = zero-le
      go false = level_le w

  -- the rows are the least solution of the row equations from there on
  pub rows_least : Least (flow regs w) start (row (rows_in bits regs w buf))
  rows_least = found_least (flow regs w) (route_start bits wide regs w) inside (rows_in bits regs w buf) full lost found

  -- rows below the start are 0
  pub rows_below : (k : ℕ) → k < start → row (rows_in bits regs w buf) k ≡ 0
  rows_below = found_below (flow regs w) (route_start bits wide regs w) inside (rows_in bits regs w buf) full lost found

  -- and so is row n
  pub row_last : row (rows_in bits regs w buf) (count w) ≡ 0
  row_last = rows_least.solves.last (count w) (le_refl (count w))

  -- a register not below the register count never appears
  pub rows_regs : (k : ℕ) → row (rows_in bits regs w buf) k < 2 ^ regs
  rows_regs = found_regs (flow regs w) (route_start bits wide regs w) inside (rows_in bits regs w buf) full lost found
      (λ k. set_lt regs regs (used_at w k) (le_refl regs))

  -- full sweeps are at most the jumps to their own position or back and two more, and at most one sweep is abandoned
  pub rows_few : (full ≤ backs (flow regs w) start + 2) × (lost ≤ 1)
  rows_few = (
    found_few (flow regs w) (route_start bits wide regs w) inside (rows_in bits regs w buf) full lost found,
    found_lost (flow regs w)
        (route_start bits wide regs w) inside (rows_in bits regs w buf) full lost found,
  )

  -- any other answer has these rows and counts
  pub rows_one : (buf' : List ℕ) (full' lost' : ℕ) → Rows bits wide regs w buf' full' lost' → (rows_in bits regs w buf ≡ rows_in bits regs w buf')
      × (full ≡ full') × (lost ≡ lost')
  rows_one buf' full' lost' other = found_one (flow regs w) (route_start bits wide regs w) found other
