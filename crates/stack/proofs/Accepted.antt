-- What a call knows once its tests are passed: the position is in the code, and each x is at most 255. Assumes nothing.
use mathlib.Core.Path.{◌≡◌}
use mathlib.Core.List.{List}
use Prim.Native.Nat.{ℕ, ◌+◌, ◌*◌, ◌%◌, ◌≤◌, ◌<◌}
use native.Mathlib.Decide.{dec_lt}
use native.Mathlib.Omega.{arith}
use lib.ListN.{length, get_or-eq_default}
use Rattle.code.specs.Ins.{ins_at, count}
use Rattle.code.specs.Check.{check_of}
use Rattle.refusals.specs.Stages.{inside_of}
use Rattle.code.specs.Inner.{Valid}
use Rattle.code.specs.declared.Ins.{Ins}
use Rattle.refusals.specs.Stages.{Checked}
use Rattle.std.specs.declared.result.Result.TheVariants.{Ok}
use Rattle.stack.specs.Inner.{Narrow}
use Rattle.code.proofs.Rules.{x_small}
use Rattle.code.proofs.Checks.{count_of, valid_of}
use Rattle.refusals.proofs.Stages.{at_before, at_inside}

narrow_in : (w : List ℕ) (k : ℕ) → Valid w → Dec (k < count w) → (ins_at w k).x ≤ 255
narrow_in w k v (yes h) = x_small (ins_at w k) k (ins_at w (k + 1)).op (v.kept k h)
narrow_in w k v (no h) =
    let whole : length w % 6 ≡ 0 = v.whole in
    rw (get_or-eq_default w 0 {n = 6 * k + 5} (omega arith)) (omega arith)

pub narrow_at : (w : List ℕ) (k : ℕ) (i : Ins) → Valid w → i ≡ ins_at w k → Narrow i
narrow_at w k i v e = rw e (record { narrow = narrow_in w k v (dec_lt k (count w)) })

-- where a position of lent code passed its tests, the code is valid and has the position
pub accepted : (w : List ℕ) (v : Checked) (n k : ℕ) → v ≡ check_of w → ◌≡◌ {A = Checked} (Ok n) (inside_of v k) → Valid w × (k < count w)
accepted w v n k e s = (valid_of w n v e (at_before n v k s), omega (arith, at_inside n v k s, count_of w n v e (at_before n v k s)))
