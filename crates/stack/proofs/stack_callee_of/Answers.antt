-- `stack::stack_callee_of` meets its contract: what is left has the answer of the whole, and the depth fits. Assumes nothing.
use borrow.Author.Rules.{rules}
use mathlib.Core.Path.{◌≡◌, refl}
use mathlib.Core.List.{List}
use Prim.Native.Nat.{ℕ, zero, suc, ◌+◌, ◌-◌, ◌*◌, ◌<◌, ◌≤◌}
use native.Mathlib.Omega.{arith}
use Rattle.code.specs.Ins.{ins_at, count}
use Rattle.code.specs.Inner.{Valid}
use Rattle.code.specs.declared.Ins.{Ins}
use Rattle.std.specs.declared.option.Option.TheVariants.{None}
use Rattle.stack.specs.declared.Turn.{Turn}
use Rattle.stack.specs.declared.Turn.TheVariants.{Ends, Needs}
use Rattle.stack.specs.Stack.{Source, turn_of, walked, pushed_at, stack_callee}
use Rattle.stack.specs.Inner.{Grows}
use Rattle.stack.proofs.Accepted.{narrow_at}
use Rattle.stack.proofs.stack_callee_of.Goals as goal

by_turn : (w : List ℕ) (k need : ℕ) → 0 < k → pushed_at w k need ≡ walked (turn_of (ins_at w (k - 1)) (k - 1) need) (pushed_at w (k - 1))
unfolding pushed_at
by_turn w zero need h = absurd (omega arith)
by_turn w (suc k) need h = let z : suc k - 1 ≡ k = omega arith in rw z

module _ (w : List ℕ) (k need : ℕ) (v : Source) (h : 0 < k) (whole : pushed_at w k need ≡ v) (i : Ins) (e : i ≡ ins_at w (k - 1)) (t : Turn)
    (f : t ≡ turn_of i (k - 1) need) where
  ends : (s : Source) → t ≡ Ends s → s ≡ v
  ends s q = rw (by_turn w k need h, ← e, ← f, q) at whole

  goes_on : (m : ℕ) → t ≡ Needs m → pushed_at w (k - 1) m ≡ v
  goes_on m q = rw (by_turn w k need h, ← e, ← f, q) at whole

nothing : (w : List ℕ) (k need : ℕ) (v : Source) → k ≤ 0 → pushed_at w k need ≡ v → None ≡ v
unfolding pushed_at
nothing w k need v h e = let z : k ≡ 0 = omega arith in rw z at e

fits : (need m k j : ℕ) (t : Turn) → Grows need t → t ≡ Needs m → 0 < k → k ≤ j → need ≤ 65536 * (1 + (j - k)) → m ≤ 65536 * (1 + (j - (k - 1)))
fits need m k j t g q h l b =
    let z : m ≤ need + 65535 = rw q at g in
    omega arith

-- the depth is far below the largest number
deep : (w : List ℕ) (need k j : ℕ) → Valid w → j < count w → need ≤ 65536 * (1 + (j - k)) → need ≤ 4294967296
deep w need k j v h b = let f : count w ≤ 65535 = v.few in omega arith

begins : (w : List ℕ) (j n : ℕ) → pushed_at w j (n + 1) ≡ stack_callee w j n
unfolding stack_callee
begins w j n = refl

ruleset walk = (ends, goes_on, nothing, fits, begins, narrow_at, deep)

pub loop-k-init : goal.loop-k-init
loop-k-init c = search (rules, walk)

pub turn_of-requires : goal.turn_of-requires
turn_of-requires c = search (rules, walk)

pub returns-in-Ends : goal.returns-in-Ends
returns-in-Ends c = search (rules, walk)

pub loop-k-preserved : goal.loop-k-preserved
loop-k-preserved c = search (rules, walk)

pub returns : goal.returns
returns c = search (rules, walk)
