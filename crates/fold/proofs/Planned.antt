-- What a plan says of its places: its operands stand before its operator, and that is a folding operator. Assumes nothing.
use Prim.Native.Nat.{ℕ, suc, ◌<◌}
use native.Mathlib.Omega.{arith}
use mathlib.Core.Path.{◌≡◌, refl, sym, ap, ◌∙◌}
use mathlib.Core.Bool.{Bool, true, false, cond, ◌||◌}
use mathlib.Core.List.{List, [], ◌∷◌, ◌++◌}
use lib.Dec.{eqb}
use lib.ListN.{length}
use Rattle.laws.specs.Page.{Row, among, look}
use Rattle.laws.proofs.Branch.{or_false, or_assoc}
use Rattle.laws.proofs.Keys.{every}
use Rattle.ops.specs.Op.{LoadConst}
use Rattle.chunk.specs.Chunk.{chunk_count, op_at, folds}
use Rattle.values.specs.Folds.{fold_binop}
use Rattle.values.specs.declared.Val.{Val}
use Rattle.values.specs.declared.Val.TheVariants.{Bool as Truth}
use Rattle.std.specs.declared.option.Option.{Option}
use Rattle.std.specs.declared.option.Option.TheVariants.{Some, None}
use Rattle.values.specs.declared.Op.{Op}
use Rattle.pool.specs.Inner.{PushRoom}
use Rattle.fold.specs.Plan.{Chunk, operator_page, kind_of, prev_live, operand_of, blocked, with_some, fold_unary, try_fold_binop, try_fold_unary, plan_for}
use Rattle.fold.specs.Plan.{plan_at}
use Rattle.fold.specs.Inner.{OperatorRoom}
use Rattle.fold.specs.declared.Kind.{Kind}
use Rattle.fold.specs.declared.Kind.TheVariants.{Binop, Not, Minus, Other}
use Rattle.operands.proofs.Parts.{before, operand_load}
use Rattle.fold.specs.declared.Plan.{Plan}
use Rattle.fold.specs.Plan.{to_put}

-- ---- what the page names is a folding operator

abbrev keys : List (Row Kind) → List ℕ
keys [] = []
keys (r ∷ rs) = r.ops ++ keys rs

among_append : (o : ℕ) (xs ys : List ℕ) → among o (xs ++ ys) ≡ among o xs || among o ys
among_append o [] ys = refl
among_append o (x ∷ xs) ys = rw (among_append o xs ys) (sym (or_assoc (eqb o x) (among o xs) (among o ys)))

unnamed_other : (o : ℕ) (rs : List (Row Kind)) → among o (keys rs) ≡ false → look Other o rs ≡ Other
unnamed_other o [] e = refl
unnamed_other o (r ∷ rs) e =
    let p = or_false (among o r.ops) (among o (keys rs)) (sym (among_append o r.ops (keys rs)) ∙ e) in
    rw p.0 (unnamed_other o rs p.1)

pub named_folds : (o : ℕ) → (kind_of o ≡ Other → ⊥) → folds o ≡ true
unfolding operator_page kind_of folds
named_folds o n = go (among o (keys operator_page)) refl
  where
    go : (t : Bool) → among o (keys operator_page) ≡ t → folds o ≡ true
    go true e = every folds (keys operator_page) o refl e
    go false e = absurd (n (unnamed_other o operator_page e))

-- ---- a plan's places

pub record Planned (s : Chunk) (i p q : ℕ) : Type 0 where
  pub first : p < i
  pub second : q < suc i
  pub load : op_at s.code p ≡ LoadConst
  pub operator : folds (op_at s.code i) ≡ true

module _ {X : Type 0} {p q : ℕ} {v : Val} where
  pub stay_put : None ≡ to_put p q v → X
  stay_put e = absurd (let z : ◌≡◌ {A = ℕ} 0 1 = cc in omega arith)

  pub some_put : {A : Type 0} (f : Option A) (g : A → Option Plan) → with_some f g ≡ to_put p q v → ((a : A) → f ≡ Some a → g a ≡ to_put p q v → X) → X
  some_put (Some a) g e h = h a refl e
  some_put None g e h = stay_put e

  jump_put : (t : Bool) (r : Option Plan) → cond t None r ≡ to_put p q v → (r ≡ to_put p q v → X) → X
  jump_put true r e h = stay_put e
  jump_put false r e h = h e

-- a plan's places and its result
abbrev pub first_of : Option Plan → ℕ
first_of (Some f) = f.at
first_of None = 0

abbrev pub second_of : Option Plan → ℕ
second_of (Some f) = f.dies
second_of None = 0

abbrev pub value_of : Option Plan → Val
value_of (Some f) = f.value
value_of None = Truth false

module _ (bars : ℕ → Bool) (i : ℕ) (s : Chunk) {p q : ℕ} {v : Val} where
  binop_places : (o : Op) → try_fold_binop bars o i s ≡ to_put p q v → (p < i) × (q < suc i) × (op_at s.code p ≡ LoadConst)
  unfolding try_fold_binop
  binop_places o e =
      some_put (prev_live s.dead i) _ e (λ q' eq e.
      some_put (prev_live s.dead q') _ e (λ p' ep e.
      some_put (operand_of s.code s.kinds s.words s.constants p') _ e (λ a ea e.
      some_put (operand_of s.code s.kinds s.words s.constants q') _ e (λ b eb e.
      some_put (fold_binop o a b) _ e (λ v' ev e.
      jump_put (blocked bars s.code p' i) (to_put p' q' v') e (λ e.
      let sp : p' ≡ p = ap first_of e in
      let sq : q' ≡ q = ap second_of e in
      let h = before s.dead i q' eq in
      let k = before s.dead q' p' ep in
      (omega arith, omega arith, rw (← sp) (operand_load s.code s.kinds s.words s.constants p' a ea))))))))

  unary_places : (minus : Bool) → try_fold_unary bars minus i s ≡ to_put p q v → (p < i) × (q < suc i) × (op_at s.code p ≡ LoadConst)
  unfolding try_fold_unary
  unary_places minus e =
      some_put (prev_live s.dead i) _ e (λ p' ep e.
      some_put (operand_of s.code s.kinds s.words s.constants p') _ e (λ a ea e.
      some_put (fold_unary minus a) _ e (λ v' ev e.
      jump_put (blocked bars s.code p' i) (to_put p' i v') e (λ e.
      let sp : p' ≡ p = ap first_of e in
      let sq : i ≡ q = ap second_of e in
      let h = before s.dead i p' ep in
      (omega arith, omega arith, rw (← sp) (operand_load s.code s.kinds s.words s.constants p' a ea))))))

  pub planned : plan_at bars i s ≡ to_put p q v → Planned s i p q
  unfolding plan_at plan_for
  planned e = go (kind_of (op_at s.code i)) refl e
    where
      made : (k : Kind) → kind_of (op_at s.code i) ≡ k → (k ≡ Other → ⊥) → (p < i) × (q < suc i) × (op_at s.code p ≡ LoadConst) → Planned s i p q
      made k ek n h = record { first = h.0; second = h.1; load = h.2; operator = named_folds (op_at s.code i) (λ z. n (sym ek ∙ z)) }

      go : (k : Kind) → kind_of (op_at s.code i) ≡ k → plan_for k bars i s ≡ to_put p q v → Planned s i p q
      go (Binop o) ek e = made (Binop o) ek (λ z. let w : ◌≡◌ {A = ℕ} 0 1 = cc in omega arith) (binop_places o e)
      go Not ek e = made Not ek (λ z. let w : ◌≡◌ {A = ℕ} 0 1 = cc in omega arith) (unary_places false e)
      go Minus ek e = made Minus ek (λ z. let w : ◌≡◌ {A = ℕ} 0 1 = cc in omega arith) (unary_places true e)
      go Other ek e = stay_put e

-- ---- so they are there, and there is room for the result

module _ (bars : ℕ → Bool) (i : ℕ) (s : Chunk) {plan : Option Plan} {p q : ℕ} {v : Val} (e : plan ≡ plan_at bars i s) (f : plan ≡ to_put p q v)
    (r : OperatorRoom s i) where
  is : Planned s i p q
  is = planned bars i s (sym e ∙ f)

  pub first_there : p < chunk_count s.code
  first_there = omega (arith, is.first, r.readable.here)

  pub second_there : q < length s.dead
  second_there = omega (arith, is.second, r.readable.marked)

  pub room_there : PushRoom s.kinds s.words s.constants
  room_there = r.room is.operator
