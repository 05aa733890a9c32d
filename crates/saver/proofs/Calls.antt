-- An entry that passed the tests has what storing it needs. Assumes nothing.
use mathlib.Core.Path.{◌≡◌, subst}
use mathlib.Core.List.{List}
use Prim.Native.Nat.{ℕ, ◌/◌, ◌≤◌, ◌<◌}
use native.Mathlib.Omega.{arith}
use lib.ListN.{length, get_or}
use Rattle.taken.specs.Lists.{first_strange}
use Rattle.area.specs.Area.{free_of}
use Rattle.area.specs.Inner.{StoreRoom}
use Rattle.taken.proofs.Lists.{all_in}

-- room, and registers that are in the file
pub enter_fit : (regs used free i : ℕ) (l : List ℕ) → regs ≤ 64 → i ≡ first_strange regs l → length l ≤ i → free ≡ free_of used → length l < free / 2
    → StoreRoom used l
enter_fit regs used free i l few e fine g x = record { room = omega arith; below = λ k y. below k y }
  where
    below : (k : ℕ) → k < length l → get_or l k 0 < 64
    below k y = omega (arith, all_in regs l (subst (λ (z : ℕ). length l ≤ z) e fine) k y)
