-- What a plan found, read off the plan. Assumes nothing.
use Prim.Native.Nat.{ℕ, zero, suc, ◌≤◌, ◌<◌}
use native.Mathlib.Nat.{eq-or-lt_of_le}
use native.Mathlib.Omega.{arith}
use mathlib.Core.Logic.{⊎_elim}
use mathlib.Core.Path.{◌≡◌, refl, ap}
use mathlib.Core.Bool.{Bool, true, false, cond}
use mathlib.Core.List.{List}
use lib.Dec.{eqb}
use lib.ListN.{get_or}
use borrow.Author.Tests.{eqb-true, eqb-false}
use Rattle.laws.proofs.Branch.{or_false}
use Rattle.chunk.specs.Chunk.{op_at}
use Rattle.values.specs.declared.Val.{Val}
use Rattle.values.specs.declared.Op.{Op}
use Rattle.std.specs.declared.option.Option.{Option}
use Rattle.std.specs.declared.option.Option.TheVariants.{Some, None}
use Rattle.values.specs.Folds.{fold_binop}
use Rattle.fold.specs.declared.Kind.{Kind}
use Rattle.fold.specs.declared.Kind.TheVariants.{Binop, Not, Minus, Other}
use Rattle.fold.specs.Plan.{Chunk, kind_of, prev_live, operand_of, skips_into, blocked, with_some, fold_unary, try_fold_binop, try_fold_unary, plan_for, plan_at}
use Rattle.fold.specs.declared.Plan.{Plan}
use Rattle.fold.specs.Plan.{to_put}
use Rattle.fold.proofs.Planned.{stay_put, some_put, first_of, second_of, value_of}

-- ---- the nearest live one

pub record Near (dead : List ℕ) (i p : ℕ) : Type 0 where
  pub below : p < i
  pub alive : get_or dead p 0 ≡ 0
  pub gap : (k : ℕ) → p < k → k < i → get_or dead k 0 ≡ 0 → ⊥

pub near : (dead : List ℕ) (i p : ℕ) → prev_live dead i ≡ Some p → Near dead i p
unfolding prev_live
near dead zero p e = absurd (let z : ◌≡◌ {A = ℕ} 0 1 = cc in omega arith)
near dead (suc i) p e = go (eqb (get_or dead i 0) 0) refl e (near dead i p)
  where
    go : (t : Bool) → eqb (get_or dead i 0) 0 ≡ t → cond t (Some i) (prev_live dead i) ≡ Some p → (prev_live dead i ≡ Some p → Near dead i p) → Near dead (suc i) p
    go true q e ih = let s : i ≡ p = cc in rw (← s) (record { below = omega arith; alive = eqb-true _ _ q; gap = λ k a b. absurd (omega arith) })
    go false q e ih =
        let h = ih e in
        record {
          below = omega (arith, h.below);
          alive = h.alive;
          gap = λ k a b d. ⊎_elim (λ w. eqb-false _ _ q (rw w at d)) (λ l. h.gap k a l d) (eq-or-lt_of_le (bound k b));
        }
      where
        bound : (k : ℕ) → k < suc i → k ≤ i
        bound k b = omega arith

-- ---- what a plan found: its operands and its result, and that nothing bars it

module _ (bars : ℕ → Bool) (i : ℕ) (s : Chunk) where
  pub data Told (p q : ℕ) (v : Val) : Type 0 where
    two : (o : Op) (a b : Val) → kind_of (op_at s.code i) ≡ Binop o → Near s.dead i q → Near s.dead q p
        → operand_of s.code s.kinds s.words s.constants p ≡ Some a → operand_of s.code s.kinds s.words s.constants q ≡ Some b
        → fold_binop o a b ≡ Some v → bars p ≡ false → Told p q v
    one : (minus : Bool) (a : Val) → kind_of (op_at s.code i) ≡ cond minus Minus Not → Near s.dead i p → i ≡ q
        → operand_of s.code s.kinds s.words s.constants p ≡ Some a → fold_unary minus a ≡ Some v → bars p ≡ false → Told p q v

  module _ {X : Type 0} {p q : ℕ} {v : Val} where
    bar_put : (t : Bool) (r s : ℕ) (w : Val) → cond t None (to_put r s w) ≡ to_put p q v → (t ≡ false → to_put r s w ≡ to_put p q v → X) → X
    bar_put true r s w e h = stay_put e
    bar_put false r s w e h = h refl e

  free : (p : ℕ) → blocked bars s.code p i ≡ false → bars p ≡ false
  unfolding blocked
  free p e = (or_false (skips_into s.code p i) (bars p) e).1

  module _ {p q : ℕ} {v : Val} where
    two_told : (o : Op) → kind_of (op_at s.code i) ≡ Binop o → try_fold_binop bars o i s ≡ to_put p q v → Told p q v
    unfolding try_fold_binop
    two_told o k e =
        some_put (prev_live s.dead i) _ e (λ q' eq e.
        some_put (prev_live s.dead q') _ e (λ p' ep e.
        some_put (operand_of s.code s.kinds s.words s.constants p') _ e (λ a ea e.
        some_put (operand_of s.code s.kinds s.words s.constants q') _ e (λ b eb e.
        some_put (fold_binop o a b) _ e (λ v' ev e.
        bar_put (blocked bars s.code p' i) p' q' v' e (λ t e.
        let sp : p' ≡ p = ap first_of e in
        let sq : q' ≡ q = ap second_of e in
        let sv : v' ≡ v = ap value_of e in
        rw (← sp, ← sq, ← sv) (two o a b k (near s.dead i q' eq) (near s.dead q' p' ep) ea eb ev (free p' t))))))))

    one_told : (minus : Bool) → kind_of (op_at s.code i) ≡ cond minus Minus Not → try_fold_unary bars minus i s ≡ to_put p q v → Told p q v
    unfolding try_fold_unary
    one_told minus k e =
        some_put (prev_live s.dead i) _ e (λ p' ep e.
        some_put (operand_of s.code s.kinds s.words s.constants p') _ e (λ a ea e.
        some_put (fold_unary minus a) _ e (λ v' ev e.
        bar_put (blocked bars s.code p' i) p' i v' e (λ t e.
        let sp : p' ≡ p = ap first_of e in
        let sq : i ≡ q = ap second_of e in
        let sv : v' ≡ v = ap value_of e in
        rw (← sp, ← sv) (one minus a k (near s.dead i p' ep) sq ea ev (free p' t))))))

    pub told : plan_at bars i s ≡ to_put p q v → Told p q v
    unfolding plan_at plan_for
    told e = go (kind_of (op_at s.code i)) refl e
      where
        go : (kind : Kind) → kind_of (op_at s.code i) ≡ kind → plan_for kind bars i s ≡ to_put p q v → Told p q v
        go (Binop o) k e = two_told o k e
        go Not k e = one_told false k e
        go Minus k e = one_told true k e
        go Other k e = stay_put e
