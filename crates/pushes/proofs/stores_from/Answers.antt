-- `pushes::stores_from` meets its contract: what is left begins where the whole does. Assumes nothing.
use borrow.Author.Rules.{rules}
use mathlib.Core.Path.{◌≡◌, ◌∙◌}
use mathlib.Core.Bool.{true, false}
use mathlib.Core.List.{List}
use Prim.Native.Nat.{ℕ, suc, ◌+◌, ◌-◌, ◌<◌, ◌≤◌}
use native.Mathlib.Omega.{arith}
use lib.Dec.{eqb}
use borrow.Author.Tests.{eq-eqb, ne_eqb}
use Rattle.ops.specs.Op.{StoreTopR}
use Rattle.code.specs.Ins.{ins_at}
use Rattle.code.specs.declared.Ins.{Ins}
use Rattle.pushes.specs.Pushes.{stores_from}
use Rattle.pushes.proofs.stores_from.Goals as goal

module _ (w : List ℕ) (s r : ℕ) (i : Ins) where
  goes_on : 0 < s → i ≡ ins_at w (s - 1) → i.op ≡ StoreTopR → stores_from w s ≡ r → stores_from w (s - 1) ≡ r
  unfolding stores_from
  goes_on h e o x =
      let z : s ≡ suc (s - 1) = omega arith in
      let q : eqb (ins_at w (s - 1)).op StoreTopR ≡ true = eq-eqb _ _ (rw e at o) in
      rw q at (rw z at x)

  stops : 0 < s → i ≡ ins_at w (s - 1) → (i.op ≡ StoreTopR → ⊥) → stores_from w s ≡ r → s - 1 + 1 ≡ r
  unfolding stores_from
  stops h e o x =
      let z : s ≡ suc (s - 1) = omega arith in
      let q : eqb (ins_at w (s - 1)).op StoreTopR ≡ false = ne_eqb _ _ (rw e at o) in
      back ∙ z ∙ rw q at (rw z at x)
    where
      back : s - 1 + 1 ≡ s
      back = omega arith

ends : (w : List ℕ) (s r : ℕ) → s ≤ 0 → stores_from w s ≡ r → 0 ≡ r
unfolding stores_from
ends w s r h x = let z : s ≡ 0 = omega arith in rw z at x

ruleset walk = (goes_on, stops, ends)

pub returns-then-ins_at-ne-StoreTopR : goal.returns-then-ins_at-ne-StoreTopR
returns-then-ins_at-ne-StoreTopR c = search (rules, walk)

pub loop-k-preserved : goal.loop-k-preserved
loop-k-preserved c = search (rules, walk)

pub returns : goal.returns
returns c = search (rules, walk)
