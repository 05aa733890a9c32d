-- `code::ins_at` meets its contract: past the end each word is the default, 0. Assumes nothing.
use mathlib.Core.Path.{◌≡◌}
use mathlib.Core.List.{List}
use Prim.Native.Nat.{ℕ, ◌+◌, ◌*◌, ◌%◌, ◌/◌, ◌≤◌}
use native.Mathlib.Omega.{arith}
use lib.ListN.{length, get_or, get_or-eq_default}
use Rattle.code.specs.Ins.{ins_at}
use Rattle.code.specs.declared.Ins.{Ins}
use Rattle.code.proofs.ins_at.Goals as goal

past : (w : List ℕ) (k o m a b c x : ℕ) → length w % 6 ≡ 0 → length w / 6 ≤ k → o ≡ 0 → m ≡ 0 → a ≡ 0 → b ≡ 0 → c ≡ 0 → x ≡ 0
    → ◌≡◌ {A = Ins} (record { op = o; marks = m; a = a; b = b; c = c; x = x }) (ins_at w k)
past w k o m a b c x whole h o-is m-is a-is b-is c-is x-is =
    let out : (j : ℕ) → length w ≤ j → get_or w j 0 ≡ 0 = λ j l. get_or-eq_default w 0 l in
    simp (
      out (6 * k) (omega arith),
      out (6 * k + 1) (omega arith),
      out (6 * k + 2) (omega arith),
      out (6 * k + 3) (omega arith),
      out (6 * k + 4) (omega arith),
      out (6 * k + 5) (omega arith),
    ) (cc)

pub returns-else-k-code : goal.returns-else-k-code
returns-else-k-code c =
    let z = c.default.ensures in
    past _ _ _ _ _ _ _ _ c.requires c.if-k-code.false z.0 z.1.0 z.1.1.0 z.1.1.1.0 z.1.1.1.1.0 z.1.1.1.1.1
