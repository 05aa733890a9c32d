-- What a call knows once its tests are passed. Assumes nothing.
use mathlib.Core.Path.{◌≡◌}
use mathlib.Core.List.{List}
use Prim.Native.Nat.{ℕ, ◌<◌}
use native.Mathlib.Omega.{arith}
use Rattle.code.specs.Ins.{count}
use Rattle.code.specs.Check.{check_of}
use Rattle.code.specs.Inner.{Valid}
use Rattle.refusals.specs.Stages.{Checked, inside_of}
use Rattle.std.specs.declared.result.Result.TheVariants.{Ok}
use Rattle.code.proofs.Checks.{count_of, valid_of}
use Rattle.refusals.proofs.Stages.{at_before, at_inside}

-- where a position of lent code passed its tests, the code is valid and has the position
pub accepted : (w : List ℕ) (v : Checked) (n k : ℕ) → v ≡ check_of w → ◌≡◌ {A = Checked} (Ok n) (inside_of v k) → Valid w × (k < count w)
accepted w v n k e s = (valid_of w n v e (at_before n v k s), omega (arith, at_inside n v k s, count_of w n v e (at_before n v k s)))
