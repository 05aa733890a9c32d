-- Two chunks that differ only in where their constants stand have the same plans. Assumes nothing.
use Prim.Native.Nat.{ℕ, zero, suc, ◌-◌, ◌/◌, ◌%◌, ◌≤◌, ◌<◌}
use native.Mathlib.Omega.{arith}
use mathlib.Core.Path.{◌≡◌, refl, sym, ap, ◌∙◌, fun_ext}
use mathlib.Core.Logic.{◌⊎◌, ⊎_elim}
use mathlib.Core.Bool.{Bool, true, false, cond, ◌&&◌, ◌||◌}
use mathlib.Core.List.{List}
use lib.Dec.{eqb, ltb}
use lib.ListN.{length, get_or}
use borrow.Author.Tests.{lt-ltb, le-ltb}
use Rattle.laws.specs.Some.{some}
use Rattle.ops.specs.Op.{LoadConst}
use Rattle.chunk.specs.Chunk.{stride, chunk_count, op_at, mark_at, operand_at, marks_jump, names, is_phi, lands}
use Rattle.values.specs.Folds.{fold_binop}
use Rattle.std.specs.declared.option.Option.{Option}
use Rattle.std.specs.declared.option.Option.TheVariants.{Some, None}
use Rattle.values.specs.declared.Op.{Op}
use Rattle.pool.specs.Pool.{const_to_val}
use Rattle.landings.specs.Landings.{lands_any, handles_any, barred}
use Rattle.fold.specs.Pass.{by_scan}
use Rattle.fold.specs.Plan.{Chunk, kind_of, prev_live, operand_of, skips_into, blocked, with_some, fold_unary, try_fold_binop, try_fold_unary, plan_for, plan_at}
use Rattle.fold.specs.declared.Kind.{Kind}
use Rattle.fold.specs.declared.Kind.TheVariants.{Binop, Not, Minus, Other}
use Rattle.fold.specs.declared.Plan.{Plan}
use Rattle.fold.specs.Plan.{to_put}

-- operand v of s and operand u of t load the same kind and word
pub record SameLoad (s t : Chunk) (v u : ℕ) : Type 0 where
  pub there : v < s.constants
  pub here : u < t.constants
  pub kind : get_or s.kinds v 0 ≡ get_or t.kinds u 0
  pub word : get_or s.words v 0 ≡ get_or t.words u 0

-- or both are one operand at or past the limit, and load nothing as long as the counts stay below it
pub record Far (limit v u : ℕ) : Type 0 where
  pub same : v ≡ u
  pub past : limit ≤ v

abbrev pub Loads : ℕ → Chunk → Chunk → ℕ → ℕ → Type 0
Loads limit s t v u = SameLoad s t v u ⊎ Far limit v u

-- instruction by instruction the same opcode, marks and dead mark; the same operand without the mark 'names a constant', and the same load with it
pub record Alike (limit : ℕ) (s t : Chunk) : Type 0 where
  pub long : length s.code ≡ length t.code
  pub dead : s.dead ≡ t.dead
  pub ops : (k : ℕ) → op_at s.code k ≡ op_at t.code k
  pub marks : (k : ℕ) → mark_at s.code k ≡ mark_at t.code k
  pub plain : (k : ℕ) → names s.code k ≡ false → operand_at s.code k ≡ operand_at t.code k
  pub loads : (k : ℕ) → names s.code k ≡ true → Loads limit s t (operand_at s.code k) (operand_at t.code k)
  -- as the record rules have it
  pub consts : (k : ℕ) → eqb (op_at s.code k) LoadConst ≡ true → names s.code k ≡ true
  pub apart : (k : ℕ) → names s.code k ≡ true → marks_jump s.code k ≡ false
  pub free : (k : ℕ) → names s.code k ≡ true → is_phi s.code k ≡ false

some_both : {A : Type 0} {a a' : Option A} {g h : A → Option Plan} → a ≡ a' → ((v : A) → g v ≡ h v) → with_some a g ≡ with_some a' h
some_both {A} {a} {a'} {g} {h} e x = rw e (go a')
  where
    go : (r : Option A) → with_some r g ≡ with_some r h
    go (Some v) = x v
    go None = refl

some_ext : (f g : ℕ → Bool) (n : ℕ) → ((k : ℕ) → f k ≡ g k) → some f n ≡ some g n
unfolding some
some_ext f g zero h = refl
some_ext f g (suc n) h = rw (some_ext f g n h, h n)

module _ {limit : ℕ} {s t : Chunk} (a : Alike limit s t) where
  operand_same : s.constants ≤ limit → t.constants ≤ limit → (p : ℕ)
      → operand_of s.code s.kinds s.words s.constants p ≡ operand_of t.code t.kinds t.words t.constants p
  unfolding operand_of const_to_val
  operand_same low low' p = go (eqb (op_at s.code p) LoadConst) refl
    where
      past : (v n : ℕ) → limit ≤ v → n ≤ limit → ltb v n ≡ false
      past v n h k = le-ltb v n (omega arith)

      go : (b : Bool) → eqb (op_at s.code p) LoadConst ≡ b → operand_of s.code s.kinds s.words s.constants p
          ≡ operand_of t.code t.kinds t.words t.constants p
      go false e =
          let f : eqb (op_at t.code p) LoadConst ≡ false = sym (ap (λ (o : ℕ). eqb o LoadConst) (a.ops p)) ∙ e in
          rw (e, f)
      go true e =
          let f : eqb (op_at t.code p) LoadConst ≡ true = sym (ap (λ (o : ℕ). eqb o LoadConst) (a.ops p)) ∙ e in
          ⊎_elim
          (λ l. rw (e, f, lt-ltb (operand_at s.code p) s.constants l.there, lt-ltb (operand_at t.code p) t.constants l.here, l.kind, l.word))
          (λ l.
          rw (e, f, past (operand_at s.code p) s.constants l.past low, past (operand_at t.code p) t.constants (rw l.same at l.past) low'))
          (a.loads p (a.consts p e))

  lands_same : (p i k : ℕ) → lands s.code p i k ≡ lands t.code p i k
  unfolding lands
  lands_same p i k = go (names s.code k) refl
    where
      go : (b : Bool) → names s.code k ≡ b → lands s.code p i k ≡ lands t.code p i k
      go false n = rw (a.marks k, a.plain k n)
      go true n =
          let j : marks_jump s.code k ≡ false = a.apart k n in
          let j' : marks_jump t.code k ≡ false = sym (ap (λ (x : ℕ). eqb (x % 2) 1) (a.marks k)) ∙ j in
          rw (j, j')

  blocked_same : (bars : ℕ → Bool) (p i : ℕ) → blocked bars s.code p i ≡ blocked bars t.code p i
  unfolding blocked skips_into
  blocked_same bars p i = rw (lands_same p i (p - 1))

  -- strict mode bars the same folds
  pub bars_same : (strict : Bool) (tries : List ℕ) (i : ℕ) → by_scan strict tries s.code i ≡ by_scan strict tries t.code i
  unfolding barred lands_any
  bars_same strict tries i =
      fun_ext (λ p.
      let c : chunk_count s.code ≡ chunk_count t.code = ap (λ (x : ℕ). x / stride) a.long in
      let e : some (lands s.code p i) (chunk_count s.code) ≡ some (lands t.code p i) (chunk_count t.code) =
      ap (some (lands s.code p i)) c ∙ some_ext (lands s.code p i) (lands t.code p i) (chunk_count t.code) (lands_same p i) in
      ap (λ (b : Bool). strict && (b || handles_any tries p i)) e)

  module _ (bars : ℕ → Bool) (i : ℕ) (low : s.constants ≤ limit) (low' : t.constants ≤ limit) where
    binop_same : (o : Op) → try_fold_binop bars o i s ≡ try_fold_binop bars o i t
    unfolding try_fold_binop
    binop_same o =
        some_both (ap (λ (d : List ℕ). prev_live d i) a.dead) (λ q.
        some_both (ap (λ (d : List ℕ). prev_live d q) a.dead) (λ p.
        some_both (operand_same low low' p) (λ x.
        some_both (operand_same low low' q) (λ y.
        some_both {a = fold_binop o x y} refl (λ v. ap (λ (b : Bool). cond b None (to_put p q v)) (blocked_same bars p i))))))

    unary_same : (minus : Bool) → try_fold_unary bars minus i s ≡ try_fold_unary bars minus i t
    unfolding try_fold_unary
    unary_same minus =
        some_both (ap (λ (d : List ℕ). prev_live d i) a.dead) (λ p.
        some_both (operand_same low low' p) (λ x.
        some_both {a = fold_unary minus x} refl (λ v. ap (λ (b : Bool). cond b None (to_put p i v)) (blocked_same bars p i))))

    pub plan_same : plan_at bars i s ≡ plan_at bars i t
    unfolding plan_at plan_for
    plan_same = rw (a.ops i) (by (kind_of (op_at t.code i)))
      where
        by : (k : Kind) → plan_for k bars i s ≡ plan_for k bars i t
        by (Binop o) = binop_same o
        by Not = unary_same false
        by Minus = unary_same true
        by Other = refl
