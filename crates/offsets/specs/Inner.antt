-- What only the inside of `offsets` needs: contracts of inner functions and proofs cite it, no promise does. Assumes nothing.
use Rattle.std.specs.Prelude.{ℕ, ◌+◌, ◌<◌, ◌≤◌, ◌≡◌, false, List, length, get_or}
use Rattle.code.specs.Ins.{ins_at, count}
use Rattle.code.specs.Inner.{Valid}
use Rattle.steps.specs.Level.{is_level}

-- offsets that break nothing
pub record Right (w o : List ℕ) : Type 0 where
  pub valid : Valid w
  pub long : count w < length o
  pub start : get_or o 0 0 ≡ 0
  pub rise : (k : ℕ) → k < count w → get_or o k 0 ≤ get_or o (k + 1) 0
  pub idle : (k : ℕ) → k < count w → is_level (ins_at w k) ≡ false → get_or o (k + 1) 0 ≡ get_or o k 0
