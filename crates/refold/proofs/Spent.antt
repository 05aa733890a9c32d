-- Each constant that the pass pushes is paid for by an operator that dies: what is left to fold needs no more room. Assumes nothing.
use Prim.Native.Nat.{ℕ, zero, suc, ◌+◌, ◌≤◌, ◌<◌}
use native.Mathlib.Nat.{eq-or-lt_of_le}
use native.Mathlib.Omega.{arith}
use mathlib.Core.Path.{◌≡◌, refl, sym, ap, ◌∙◌}
use mathlib.Core.Logic.{⊎_elim}
use mathlib.Core.Bool.{Bool, true, false, cond, ◌&&◌, false≢true}
use mathlib.Core.List.{List, [], ◌∷◌}
use lib.Dec.{eqb}
use lib.ListN.{length, get_or, set, length-set}
use lib.Seq.{get_or-set_same}
use mir.Val.{bool_byte}
use borrow.Author.Tests.{eqb-true, eqb-false}
use Rattle.laws.specs.All.{many}
use Rattle.laws.proofs.Branch.{and-true}
use Rattle.laws.proofs.Many.{many_fewer}
use Rattle.ops.specs.Op.{LoadConst, LoadTrue, LoadFalse}
use Rattle.chunk.specs.Chunk.{chunk_count, op_at, folds}
use Rattle.positions.specs.Remap.{alive}
use Rattle.values.specs.declared.Val.{Val}
use Rattle.values.specs.declared.Val.TheVariants.{Int, Float as Real, Bool as Truth}
use Rattle.pool.specs.Pool.{Stored, find_or_push_const}
use Rattle.pool.proofs.Store.{kept_few}
use Rattle.fold.specs.Plan.{Chunk, plan_at}
use Rattle.fold.specs.Pass.{load_of, const_load, put, landed, applied, try_fold, Bars, folded, fold_all}
use Rattle.fold.proofs.Put.{put_other, put_here}
use Rattle.fold.proofs.Planned.{Planned, planned}
use Rattle.refold.proofs.Pushes.{some_pushed}
use Rattle.std.specs.declared.option.Option.{Option}
use Rattle.std.specs.declared.option.Option.TheVariants.{Some, None}
use Rattle.fold.specs.declared.Plan.{Plan}
use Rattle.fold.specs.declared.Load.{Load}
use Rattle.fold.specs.Plan.{to_put}
use Rattle.fold.specs.Pass.{to_load}

-- an operator that may still fold: it is not dead
abbrev pub waiting : List ℕ → List ℕ → ℕ → Bool
waiting w dead k = folds (op_at w k) && alive dead k

-- one test is narrower than another, and fails at i where that passes
many_less : (f g : ℕ → Bool) → ((k : ℕ) → f k ≡ true → g k ≡ true) → (i n : ℕ) → i < n → f i ≡ false → g i ≡ true → many f n + 1 ≤ many g n
unfolding many
many_less f g h i zero l e p = absurd (omega arith)
many_less f g h i (suc n) l e p =
    ⊎_elim
    (λ q. last (rw q at e) (rw q at p))
    (λ q. omega (arith, many_less f g h i n q e p, step (f n) (g n) (h n)))
    (eq-or-lt_of_le (below i n l))
  where
    below : (i n : ℕ) → i < suc n → i ≤ n
    below i n h = omega arith

    last : f n ≡ false → g n ≡ true → many f n + bool_byte (f n) + 1 ≤ many g n + bool_byte (g n)
    last x y = rw (x, y) (omega (arith, many_fewer f g h n))

    step : (a b : Bool) → (a ≡ true → b ≡ true) → bool_byte a ≤ bool_byte b
    step true b x = let y = x refl in rw y (omega arith)
    step false b x = omega arith

-- a mark that is set makes nothing alive
alive_set : (dead : List ℕ) (q k : ℕ) → alive (set dead q 1) k ≡ true → alive dead k ≡ true
alive_set [] q k e = e
alive_set (x ∷ xs) zero zero e = absurd (false≢true e)
alive_set (x ∷ xs) zero (suc k) e = e
alive_set (x ∷ xs) (suc q) zero e = e
alive_set (x ∷ xs) (suc q) (suc k) e = alive_set xs q k e

-- ---- a load is no operator, and pushes one constant at most

abbrev Modest : Option Load → ℕ → Type 0
Modest (Some l) n = (folds l.opcode ≡ false) × (l.constants ≤ n + 1)
Modest None n = Unit {0}

const_folds : folds LoadConst ≡ false
unfolding folds
const_folds = refl

truth_folds : (b : Bool) → folds (cond b LoadTrue LoadFalse) ≡ false
unfolding folds
truth_folds true = refl
truth_folds false = refl

pool_modest : (s : Stored) (kinds words : List ℕ) (n : ℕ) (v : Val) → s ≡ find_or_push_const kinds words n v → Modest (load_of s.kept) n
pool_modest s kinds words n v e = go s.kept refl
  where
    go : (k : Option (ℕ × ℕ)) → s.kept ≡ k → Modest (load_of k) n
    go (Some k) h = (const_folds, omega (arith, kept_few {k = s.kept} {ks = s.kinds} {ws = s.words} kinds words n v e h))
    go None h = tt

load_modest : (v : Val) (kinds words : List ℕ) (n : ℕ) → Modest (const_load v kinds words n).load n
unfolding const_load
load_modest (Int z) kinds words n = pool_modest (find_or_push_const kinds words n (Int z)) kinds words n (Int z) refl
load_modest (Real x) kinds words n = pool_modest (find_or_push_const kinds words n (Real x)) kinds words n (Real x) refl
load_modest (Truth b) kinds words n = (truth_folds b, omega arith)

-- ---- one attempt

-- of the first n instructions
abbrev Spent : ℕ → Chunk → Chunk → Type 0
Spent n s t = many (waiting t.code t.dead) n + t.constants ≤ many (waiting s.code s.dead) n + s.constants

module _ (n i : ℕ) (s : Chunk) (l : i < n) (c : i < chunk_count s.code) (d : i < length s.dead) (live : alive s.dead i ≡ true) where
  module _ (p q : ℕ) (plan : Planned s i p q) where
    narrower : (o x k : ℕ) → folds o ≡ false → waiting (put s.code p o x) (set (set s.dead q 1) i 1) k ≡ true → waiting s.code s.dead k ≡ true
    narrower o x k f e =
        let u = and-true (folds (op_at (put s.code p o x) k)) (alive (set (set s.dead q 1) i 1) k) e in
        let a = alive_set s.dead q k (alive_set (set s.dead q 1) i k u.1) in
        rw a (both (folds (op_at s.code k)) (go (eqb k p) refl u.0))
      where
        both : (b : Bool) → b ≡ true → b && true ≡ true
        both b e = rw e

        go : (t : Bool) → eqb k p ≡ t → folds (op_at (put s.code p o x) k) ≡ true → folds (op_at s.code k) ≡ true
        go true z g =
            let y : k ≡ p = eqb-true k p z in
            absurd (false≢true (sym f ∙ sym (ap folds (put_here s.code p o x (omega (arith, plan.first)))) ∙ (rw y at g)))
        go false z g = sym (ap folds (put_other s.code p o x k (eqb-false k p z))) ∙ g

    gone : (w : List ℕ) → waiting w (set (set s.dead q 1) i 1) i ≡ false
    gone w =
        let z : get_or (set (set s.dead q 1) i 1) i 0 ≡ 1 = get_or-set_same (set s.dead q 1) i 1 0 (rw (length-set s.dead q 1) d) in
        rw z (off (folds (op_at w i)))
      where
        off : (b : Bool) → b && false ≡ false
        off true = refl
        off false = refl

    landed_spent : (a : Option Load) (kinds words : List ℕ) → Modest a s.constants → Spent n s (landed a kinds words p q i s)
    unfolding landed
    landed_spent (Some a) kinds words h =
        let here : waiting s.code s.dead i ≡ true = rw plan.operator live in
        omega (
          arith,
          h.1,
          many_less (waiting (put s.code p a.opcode a.operand) (set (set s.dead q 1) i 1)) (waiting s.code s.dead) (λ k. narrower a.opcode a.operand k h.0) i n l
              (gone (put s.code p a.opcode a.operand)) here,
        )
    landed_spent None kinds words h = omega arith

  applied_spent : (bars : ℕ → Bool) (plan : Option Plan) → plan_at bars i s ≡ plan → Spent n s (applied plan i s)
  unfolding applied
  applied_spent bars None e = omega arith
  applied_spent bars (Some f) e =
      let r = const_load f.value s.kinds s.words s.constants in
      landed_spent f.at f.dies (planned bars i s e) r.load r.kinds r.words (load_modest f.value s.kinds s.words s.constants)

try_spent : (bars : ℕ → Bool) (n i : ℕ) (s : Chunk) → i < n → i < chunk_count s.code → i < length s.dead → Spent n s (try_fold bars i s)
unfolding try_fold
try_spent bars n i s l c d = go (alive s.dead i) refl
  where
    go : (t : Bool) → alive s.dead i ≡ t → Spent n s (cond t (applied (plan_at bars i s) i s) s)
    go true e = applied_spent n i s l c d e bars (plan_at bars i s) refl
    go false e = omega arith

-- ---- the pass

module _ (bars : Bars) (s : Chunk) (h : chunk_count s.code ≤ length s.dead) where
  some_spent : (k : ℕ) → k ≤ chunk_count s.code → Spent (chunk_count s.code) s (folded bars k s)
  unfolding folded
  some_spent zero l = omega arith
  some_spent (suc k) l =
      let p = some_pushed bars s k in
      omega (
        arith,
        some_spent k (omega arith),
        try_spent (bars (folded bars k s).code k) (chunk_count s.code) k (folded bars k s) l (omega (arith, p.code_long)) (omega (arith, p.dead_long)),
      )

  -- constants and operators that may still fold are together no more than before
  pub all_spent : Spent (chunk_count s.code) s (fold_all bars s)
  unfolding fold_all
  all_spent = some_spent (chunk_count s.code) (omega arith)
