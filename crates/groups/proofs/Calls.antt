-- Totals that were tested fit 64 bits. Assumes nothing.
use Prim.Native.Nat.{◌-◌, ◌≤◌, ◌<◌}
use native.Mathlib.Omega.{arith}
use Rattle.groups.specs.declared.Figures.{Figures}
use Rattle.groups.specs.Groups.{most}
use Rattle.groups.specs.Inner.{Sums}

pub sums_fit : (f g : Figures) → f.bodies < 18446744073709551616 → f.levels < 18446744073709551616 → f.kept < 18446744073709551616
    → g.bodies ≤ most - f.bodies → g.levels ≤ most - f.levels → g.kept ≤ most - f.kept → g.body ≤ most - f.bodies → Sums f g
sums_fit f g x y z a b c d = record { bodies = omega arith; levels = omega arith; kept = omega arith; body = omega arith }
