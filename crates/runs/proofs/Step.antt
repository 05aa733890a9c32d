-- One attempt keeps how runs end. Assumes nothing.
use Prim.Native.Nat.{ℕ, suc, ◌*◌, ◌≤◌, ◌<◌, zero-le}
use native.Mathlib.Omega.{arith}
use mathlib.Core.Path.{◌≡◌, refl, sym, ap, ◌∙◌}
use mathlib.Core.Bool.{Bool, true, false, not, cond, ◌&&◌, ◌||◌, false≢true}
use mathlib.Core.List.{List, ◌∷◌, ◌++◌, []}
use mathlib.Core.Logic.{inl, inr, ◌↔◌}
use lib.Dec.{ltb, leb, eqb}
use lib.ListN.{length, get_or, set, length-set}
use lib.Seq.{get_or-set_same, get_or-set_other}
use borrow.Author.Tests.{ltb-false, leb-false, eqb-true, eqb-false, eq-eqb, ne_eqb}
use Rattle.laws.proofs.Some.{passes_at}
use Rattle.ops.specs.Op as op
use Rattle.chunk.specs.Chunk.{stride, chunk_count, op_at, operand_at, marks_jump, lands}
use Rattle.landings.specs.Landings.{lands_any}
use Rattle.values.specs.declared.Val.{Val}
use Rattle.values.specs.declared.Val.TheVariants.{Int, Float as Real, Bool as Truth}
use Rattle.values.specs.declared.Op.{Op}
use Rattle.std.specs.declared.option.Option.{Option}
use Rattle.std.specs.declared.option.Option.TheVariants.{Some, None}
use Rattle.values.specs.Folds.{fold_binop, fold_not}
use Rattle.pool.specs.Pool.{to_val, const_to_val}
use Rattle.fold.specs.declared.Kind.{Kind}
use Rattle.fold.specs.declared.Kind.TheVariants.{Binop, Not, Minus, Other}
use Rattle.fold.specs.Plan.{Chunk, chunk, operator_page, kind_of, operand_of, fold_unary}
use Rattle.fold.specs.Pass.{put}
use Rattle.fold.proofs.Put.{put_long, put_other, operand_other, jump_other, put_here, operand_here, jump_here}
use Rattle.positions.specs.Remap.{alive}
use Rattle.runs.specs.Machine.{Value, Known, Stack, is_true, Ins, Push, Apply, Jump, JumpIfFalse, Pass, At, answer, apply, act, binop_v, neg_v, push_of}
use Rattle.runs.specs.Machine.{plain, read, ins, Plain, End, Run}
use Rattle.runs.specs.Rule.{known}
use Rattle.runs.proofs.Alike.{read_both}
use Rattle.runs.proofs.Lock.{Outside, Clear, Group, out, lock, unlock}
use Rattle.runs.proofs.Good.{Good, good_of, not_good, neg_good, val_good}
use Rattle.runs.proofs.Pool.{Loads, Grows}

-- a chunk with dead instructions, which pass
abbrev pub living : List ℕ → List ℕ → List ℕ → List ℕ → ℕ → Ins
living code dead kinds words k = cond (alive dead k) (ins code kinds words k) Pass

abbrev pub code_of : Chunk → ℕ → Ins
code_of s = living s.code s.dead s.kinds s.words

-- n instructions, each plain
pub record Fine (n : ℕ) (s : Chunk) : Type 0 where
  pub long : stride * n ≤ length s.code
  pub marks : n ≤ length s.dead
  pub each : (k : ℕ) → k < n → Plain s.code s.constants k

module _ (code dead kinds words : List ℕ) (k : ℕ) where
  pub living_on : get_or dead k 0 ≡ 0 → living code dead kinds words k ≡ ins code kinds words k
  living_on e = rw (eq-eqb (get_or dead k 0) 0 e) refl

  pub living_off : (get_or dead k 0 ≡ 0 → ⊥) → living code dead kinds words k ≡ Pass
  living_off h = rw (ne_eqb (get_or dead k 0) 0 h) refl

-- ---- a pool that keeps its entries

module _ (n : ℕ) (kinds words kinds' words' : List ℕ) (g : Grows n kinds words kinds' words') where
  pub read_same : (kind : Kind) (o x : ℕ) → (o ≡ op.LoadConst → x < n) → read kind o x kinds' words' ≡ read kind o x kinds words
  read_same kind o x h =
      read_both o x x kinds words kinds' words' (λ e. refl) (λ e. record { kind = g.kinds_old x (h e); word = g.words_old x (h e) }) kind

-- ---- q and i dead

abbrev pub kill : List ℕ → ℕ → ℕ → List ℕ
kill dead q i = set (set dead q 1) i 1

module _ (dead : List ℕ) (q i : ℕ) where
  pub kill_long : length (kill dead q i) ≡ length dead
  kill_long = length-set (set dead q 1) i 1 ∙ length-set dead q 1

  dead_other : (k : ℕ) → (k ≡ q → ⊥) → (k ≡ i → ⊥) → get_or (kill dead q i) k 0 ≡ get_or dead k 0
  dead_other k a b = get_or-set_other (set dead q 1) i k 1 0 b ∙ get_or-set_other dead q k 1 0 a

  dead_op : i < length dead → get_or (kill dead q i) i 0 ≡ 1
  dead_op h = get_or-set_same (set dead q 1) i 1 0 (omega (arith, length-set dead q 1))

  dead_second : i < length dead → q ≤ i → get_or (kill dead q i) q 0 ≡ 1
  dead_second h l = go (eqb q i) refl
    where
      go : (t : Bool) → eqb q i ≡ t → get_or (kill dead q i) q 0 ≡ 1
      go true e = let s = eqb-true q i e in ap (λ (k : ℕ). get_or (kill dead q i) k 0) s ∙ dead_op h
      go false e = get_or-set_other (set dead q 1) i q 1 0 (eqb-false q i e) ∙ get_or-set_same dead q 1 0 (omega arith)

-- ---- no jump lands within

module _ (code : List ℕ) (p i : ℕ) (none : lands_any code p i ≡ false) where
  not_landing : (k : ℕ) → k < chunk_count code → lands code p i k ≡ false
  unfolding lands_any
  not_landing k h = go (lands code p i k) refl
    where
      go : (t : Bool) → lands code p i k ≡ t → t ≡ false
      go true e = sym (passes_at (lands code p i) k (chunk_count code) h e) ∙ none
      go false e = refl

  outside_of : (k : ℕ) → k < chunk_count code → marks_jump code k ≡ true → Outside p i (operand_at code k)
  unfolding lands
  outside_of k h m = go (ltb p (operand_at code k)) (leb (operand_at code k) i) refl refl (rw m at (not_landing k h))
    where
      go : (a b : Bool) → ltb p (operand_at code k) ≡ a → leb (operand_at code k) i ≡ b → a && b ≡ false → Outside p i (operand_at code k)
      go true true ea eb e = absurd (false≢true (sym e))
      go true false ea eb e = inr (leb-false _ _ eb)
      go false b ea eb e = inl (ltb-false _ _ ea)

  push_clear : (o : Option Val) (k w : ℕ) → Clear p i (push_of o k w)
  unfolding push_of
  push_clear (Some v) k w = tt
  push_clear None k w = tt

  plain_clear : (c x : ℕ) (kinds words : List ℕ) → (eqb c op.Jump || eqb c op.JumpIfFalse ≡ true → Outside p i x) → Clear p i (plain c x kinds words)
  unfolding plain
  plain_clear c x kinds words h = go (eqb c op.Jump) (eqb c op.JumpIfFalse) (eqb c op.LoadConst) (eqb c op.LoadTrue) (eqb c op.LoadFalse) (eqb c op.LoadNone) h
    where
      o : Option Val
      o = to_val (get_or kinds x 0) (get_or words x 0)

      go : (a b d e f g : Bool) → (a || b ≡ true → Outside p i x)
          → Clear p i
          (cond a (Jump x)
          (cond b (JumpIfFalse x)
          (cond d (push_of o (get_or kinds x 0) (get_or words x 0))
          (cond e (Push (Known (Truth true))) (cond f (Push (Known (Truth false))) (cond g (Push Value.None) (Apply Other)))))))
      go true b d e f g h = h refl
      go false true d e f g h = h refl
      go false false true e f g h = push_clear o (get_or kinds x 0) (get_or words x 0)
      go false false false true f g h = tt
      go false false false false true g h = tt
      go false false false false false true h = tt
      go false false false false false false h = tt

  read_clear : (kind : Kind) (c x : ℕ) (kinds words : List ℕ) → (eqb c op.Jump || eqb c op.JumpIfFalse ≡ true → Outside p i x)
      → Clear p i (read kind c x kinds words)
  unfolding read
  read_clear (Binop b) c x kinds words h = tt
  read_clear Not c x kinds words h = tt
  read_clear Minus c x kinds words h = tt
  read_clear Other c x kinds words h = plain_clear c x kinds words h

  living_clear : (dead kinds words : List ℕ) (n k : ℕ) → k < chunk_count code → Plain code n k → Clear p i (living code dead kinds words k)
  unfolding ins
  living_clear dead kinds words n k h pl = go (alive dead k)
    where
      go : (t : Bool) → Clear p i (cond t (ins code kinds words k) Pass)
      go true = read_clear (kind_of (op_at code k)) (op_at code k) (operand_at code k) kinds words (λ m. outside_of k h (pl.marks ∙ m))
      go false = tt

-- ---- an operand

no_operand : {X : Type 0} {a : Val} → None ≡ Some a → X
no_operand e = absurd (let z : ◌≡◌ {A = ℕ} 0 1 = cc in omega arith)

pub record Operates (code kinds words : List ℕ) (p : ℕ) (a : Val) : Type 0 where
  pub pushes : ins code kinds words p ≡ Push (Known a)
  pub good : Good a

pub operates : (code kinds words : List ℕ) (n p : ℕ) (a : Val) → operand_of code kinds words n p ≡ Some a → Operates code kinds words p a
unfolding operand_of const_to_val ins read plain push_of kind_of operator_page
operates code kinds words n p a e = go (eqb (op_at code p) op.LoadConst) (ltb (operand_at code p) n) refl e
  where
    go : (s t : Bool) → eqb (op_at code p) op.LoadConst ≡ s
        → cond s (cond t (to_val (get_or kinds (operand_at code p) 0) (get_or words (operand_at code p) 0)) None) None ≡ Some a → Operates code kinds words p a
    go true true q e = record { pushes = rw (eqb-true (op_at code p) op.LoadConst q, e) refl; good = val_good _ _ e }
    go true false q e = no_operand e
    go false t q e = no_operand e

-- ---- the operators

not_not : (b : Bool) → not (not b) ≡ b
not_not true = refl
not_not false = refl

not_is : (a : Val) → fold_not a ≡ Some (Truth (not (is_true (Known a))))
unfolding fold_not is_true
not_is (Int z) = rw (not_not _) refl
not_is (Real x) = rw (not_not _) refl
not_is (Truth b) = refl

pub one_acts : (minus : Bool) (a v : Val) (s : Stack) (k : ℕ) → fold_unary minus a ≡ Some v
    → act (Apply (cond minus Minus Not)) (Known a ∷ s) k ≡ At (suc k) (Known v ∷ s)
unfolding act apply answer neg_v fold_unary
one_acts true a v s k e = rw e refl
one_acts false a v s k e =
    let w : Truth (not (is_true (Known a))) ≡ v = cc (not_is a) in
    ap (λ (u : Val). At (suc k) (Known u ∷ s)) w

pub two_acts : (o : Op) (a b v : Val) (s : Stack) (k : ℕ) → fold_binop o a b ≡ Some v → act (Apply (Binop o)) (Known b ∷ Known a ∷ s) k ≡ At (suc k) (Known v ∷ s)
unfolding act apply answer binop_v
two_acts o a b v s k e = rw e refl

pub one_good : (minus : Bool) (a v : Val) → Good a → fold_unary minus a ≡ Some v → Good v
unfolding fold_unary
one_good true a v h e = good_of e (neg_good a h)
one_good false a v h e = good_of e (not_good a)

-- ---- the fold

-- what an attempt keeps
pub record Kept (n : ℕ) (s t : Chunk) : Type 0 where
  pub fine : Fine n t
  pub runs : (o : End) → Run (code_of s) n 0 [] o ↔ Run (code_of t) n 0 [] o
  pub listed : (k : ℕ) → known (op_at s.code k) ≡ true → known (op_at t.code k) ≡ true
  pub code_long : length t.code ≡ length s.code
  pub dead_long : length t.dead ≡ length s.dead
  pub kinds_long : length t.kinds ≡ length s.kinds
  pub words_long : length t.words ≡ length s.words

module _ {n i : ℕ} {code dead kinds words : List ℕ} {constants : ℕ} (fine : Fine n (chunk code dead kinds words constants)) (whole : n
    ≡ chunk_count code) (hi : i < n)
    (p q : ℕ) (v : Val) (pq : p < q) (qi : q ≤ i) (dp : get_or dead p 0 ≡ 0) (gap : (k : ℕ) → p < k → k < i → (k ≡ q → ⊥) → get_or dead k 0 ≡ 0 → ⊥)
    (kinds' words' : List ℕ) (c x m : ℕ) (load : Loads v constants kinds' words' c x m) (grows : Grows constants kinds words kinds' words') where
  fits : p < chunk_count code
  fits = omega arith

  abbrev after : Chunk
  after = chunk (put code p c x) (kill dead q i) kinds' words' m

  fold_fine : Fine n after
  fold_fine =
      record {
        long = omega (arith, fine.long, put_long code p c x);
        marks = omega (arith, fine.marks, kill_long dead q i);
        each = λ k h. go k h (eqb k p) refl;
      }
    where
      go : (k : ℕ) → k < n → (t : Bool) → eqb k p ≡ t → Plain (put code p c x) m k
      go k h true e =
          rw (eqb-true k p e)
          (record {
            marks = rw (jump_here code p c x fits, put_here code p c x fits) (sym load.calm);
            there = λ s. rw (operand_here code p c x fits) (load.there (sym (put_here code p c x fits) ∙ s));
          })
      go k h false e =
          let o = eqb-false k p e in
          let f = fine.each k h in
          record {
            marks = rw (jump_other code p c x k o, put_other code p c x k o) f.marks;
            there = λ s. rw (operand_other code p c x k o) (omega (arith, f.there (sym (put_other code p c x k o) ∙ s), load.least));
          }

  same_at : (k : ℕ) → k < n → (k ≡ p → ⊥) → (k ≡ q → ⊥) → (k ≡ i → ⊥)
      → living (put code p c x) (kill dead q i) kinds' words' k ≡ living code dead kinds words k
  unfolding ins
  same_at k h kp kq ki =
      rw (dead_other dead q i k kq ki, put_other code p c x k kp, operand_other code p c x k kp)
      (ap (λ (l : Ins). cond (alive dead k) l Pass)
      (read_same constants kinds words kinds' words' grows (kind_of (op_at code k)) (op_at code k) (operand_at code k) (fine.each k h).there))

  put_at : living (put code p c x) (kill dead q i) kinds' words' p ≡ Push (Known v)
  unfolding ins
  put_at =
      living_on (put code p c x) (kill dead q i) kinds' words' p (dead_other dead q i p (λ e. omega arith) (λ e. omega arith) ∙ dp)
      ∙ rw (put_here code p c x fits, operand_here code p c x fits) load.reads

  quiet_at : (k : ℕ) → p < k → k ≤ i → living (put code p c x) (kill dead q i) kinds' words' k ≡ Pass
  quiet_at k low high = living_off (put code p c x) (kill dead q i) kinds' words' k (go (eqb k q) (eqb k i) refl refl)
    where
      go : (s t : Bool) → eqb k q ≡ s → eqb k i ≡ t → get_or (kill dead q i) k 0 ≡ 0 → ⊥
      go true t es et d =
          let e : get_or (kill dead q i) k 0 ≡ 1 = rw (eqb-true k q es) (dead_second dead q i (omega (arith, fine.marks)) qi) in
          omega arith
      go false true es et d =
          let e : get_or (kill dead q i) k 0 ≡ 1 = rw (eqb-true k i et) (dead_op dead q i (omega (arith, fine.marks))) in
          omega arith
      go false false es et d =
          let nq = eqb-false k q es in
          let ni = eqb-false k i et in
          gap k low (omega arith) nq (sym (dead_other dead q i k nq ni) ∙ d)

  group : (held : ℕ → Stack) → lands_any code p i ≡ false
      → ((s : Stack) → act (living code dead kinds words p) s p ≡ At (suc p) (held (suc p) ++ s))
      → ((k : ℕ) → p < k → k < i → (s : Stack) → act (living code dead kinds words k) (held k ++ s) k ≡ At (suc k) (held (suc k) ++ s))
      → ((s : Stack) → act (living code dead kinds words i) (held i ++ s) i ≡ At (suc i) (Known v ∷ s))
      → Group (living code dead kinds words) (living (put code p c x) (kill dead q i) kinds' words') n p i held (Known v)
  group held none f m l =
      record {
        order = omega arith;
        inside = hi;
        early = λ k h. same_at k (omega arith) (λ e. omega arith) (λ e. omega arith) (λ e. omega arith);
        late = λ k h b. same_at k b (λ e. omega arith) (λ e. omega arith) (λ e. omega arith);
        put = put_at;
        quiet = quiet_at;
        first = f;
        inner = m;
        last = l;
        clear = λ k h. living_clear code p i none dead kinds words constants k (omega arith) (fine.each k h);
      }

  pub keeps : (held : ℕ → Stack) → lands_any code p i ≡ false
      → ((s : Stack) → act (living code dead kinds words p) s p ≡ At (suc p) (held (suc p) ++ s))
      → ((k : ℕ) → p < k → k < i → (s : Stack) → act (living code dead kinds words k) (held k ++ s) k ≡ At (suc k) (held (suc k) ++ s))
      → ((s : Stack) → act (living code dead kinds words i) (held i ++ s) i ≡ At (suc i) (Known v ∷ s))
      → Kept n (chunk code dead kinds words constants) (chunk (put code p c x) (kill dead q i) kinds' words' m)
  keeps held none f m l =
      let u = group held none f m l in
      let start = out (inl zero-le) refl in
      record {
        fine = fold_fine;
        runs = λ o. (λ run. lock u run start, λ run. unlock u run start);
        listed = λ k e. still k e (eqb k p) refl;
        code_long = put_long code p c x;
        dead_long = kill_long dead q i;
        kinds_long = grows.kinds_long;
        words_long = grows.words_long;
      }
    where
      still : (k : ℕ) → known (op_at code k) ≡ true → (b : Bool) → eqb k p ≡ b → known (op_at (put code p c x) k) ≡ true
      still k e true q = rw (eqb-true k p q, put_here code p c x fits) load.listed
      still k e false q = rw (put_other code p c x k (eqb-false k p q)) e
