-- Whether a register is needed at a position, by paths: no rows and no sweeps. Assumes nothing.
use Rattle.std.specs.Prelude.{◌≡◌, ℕ, ◌<◌}
use mathlib.Core.List.{Memᴰ}
use Rattle.flow.specs.Set.{bit}
use Rattle.flow.specs.Flow.{Flow}

-- r is needed at k: k uses it, or k does not give it up and it is needed at a position that "after" names
pub data Needs (f : Flow) (r : ℕ) : ℕ → Type 0 where
  here : {k : ℕ} → k < f.size → 0 < bit (f.used k) r → Needs f r k
  later : {k s : ℕ} → k < f.size → bit (f.given_up k) r ≡ 0 → Memᴰ s (f.after k) → Needs f r s → Needs f r k
