-- `loops::end_of` meets its contract. Assumes nothing.
use borrow.Author.Rules.{rules}
use mathlib.Core.Path.{◌≡◌, ◌∙◌}
use mathlib.Core.List.{List}
use Prim.Native.Nat.{ℕ, ◌+◌}
use borrow.Author.Tests.{eq-eqb, ne_eqb}
use Rattle.ops.specs.Op.{GetIter}
use Rattle.code.specs.Ins.{ins_at}
use Rattle.code.specs.declared.Ins.{Ins}
use Rattle.loops.specs.Loops.{next_step, leaves_at, end_of}
use Rattle.loops.proofs.end_of.Goals as goal

module _ (w : List ℕ) (g : ℕ) (i : Ins) (e : i ≡ ins_at w g) where
  of_get : (f v : ℕ) → i.op ≡ GetIter → f ≡ next_step w (g + 1) → v ≡ leaves_at w f → v ≡ end_of w g
  unfolding end_of
  of_get f v o p q = q ∙ rw (eq-eqb (ins_at w g).op GetIter (rw e at o), p)

  of_other : (i.op ≡ GetIter → ⊥) → 0 ≡ end_of w g
  unfolding end_of
  of_other o = rw (ne_eqb (ins_at w g).op GetIter (rw e at o))

pub returns-then-i-eq-GetIter : goal.returns-then-i-eq-GetIter
returns-then-i-eq-GetIter c = search (rules, of_get)

pub returns : goal.returns
returns c = search (rules, of_other)
