-- The pass keeps how runs end. Assumes nothing.
use Prim.Native.Nat.{ℕ, zero, suc, ◌/◌, ◌≤◌, ◌<◌}
use native.Mathlib.Omega.{arith}
use native.Mathlib.Numerals.{add-one}
use mathlib.Core.Path.{◌≡◌, refl, sym, ap, ◌∙◌}
use mathlib.Core.Bool.{Bool, true, false, cond}
use mathlib.Core.List.{List, [], ◌∷◌, ◌++◌}
use lib.Dec.{ltb, leb, eqb}
use lib.ListN.{get_or}
use borrow.Author.Tests.{ltb-true, ltb-false, eqb-true, le-leb, lt-leb}
use Rattle.chunk.specs.Chunk.{stride, chunk_count, op_at, operand_at}
use Rattle.landings.specs.Landings.{lands_any}
use Rattle.values.specs.declared.Val.{Val}
use Rattle.values.specs.declared.Op.{Op}
use Rattle.std.specs.declared.option.Option.TheVariants.{Some, None}
use Rattle.values.specs.Folds.{fold_binop}
use Rattle.pool.specs.Inner.{PushRoom}
use Rattle.fold.specs.declared.Kind.{Kind}
use Rattle.fold.specs.declared.Kind.TheVariants.{Binop, Not, Minus, Other}
use Rattle.fold.specs.Plan.{Chunk, chunk, kind_of, fold_unary, plan_at}
use Rattle.fold.specs.Pass.{const_load, put, landed, applied, try_fold, Bars, folded}
use Rattle.fold.specs.Inner.{OperatorRoom, PassRoom}
use Rattle.fold.proofs.Planned.{planned}
use Rattle.fold.proofs.Grown.{Held, held_none, held_ready, held_more}
use Rattle.positions.specs.Remap.{alive}
use Rattle.runs.specs.Machine.{Known, Stack, Ins, Apply, Pass, End, At, act, Run, ends, stops, goes, read, ins}
use Rattle.runs.specs.Inner.{Strict}
use Rattle.runs.proofs.Good.{Good, good_of, binop_good}
use Rattle.runs.proofs.Pool.{Loads, load_back, load_grows}
use Rattle.runs.proofs.Told.{Near, Told, two, one, told}
use Rattle.runs.proofs.Step.{living, code_of, Fine, living_on, living_off, read_same, kill, Operates, operates, one_acts, two_acts, one_good, Kept, keeps}
use Rattle.std.specs.declared.option.Option.{Option}
use Rattle.fold.specs.declared.Plan.{Plan}
use Rattle.fold.specs.declared.Load.{Load}
use Rattle.fold.specs.Plan.{to_put}
use Rattle.fold.specs.Pass.{to_load}

-- two codes that are one below n
pub alike : {code code' : ℕ → Ins} {n : ℕ} → ((k : ℕ) → k < n → code' k ≡ code k) → {k : ℕ} {s : Stack} {o : End} → Run code n k s o → Run code' n k s o
alike e (ends h) = ends h
alike e (stops {k = k} {s = s} h q) = stops h (ap (λ (c : Ins). act c s k) (e k h) ∙ q)
alike e (goes {k = k} {s = s} h q run) = goes h (ap (λ (c : Ins). act c s k) (e k h) ∙ q) (alike e run)

-- an operator, alive
reads_kind : (code dead kinds words : List ℕ) (i : ℕ) (kind : Kind) → get_or dead i 0 ≡ 0 → kind_of (op_at code i) ≡ kind → (Other ≡ kind → ⊥)
    → living code dead kinds words i ≡ Apply kind
unfolding ins read
reads_kind code dead kinds words i (Binop o) d e h = living_on code dead kinds words i d ∙ rw e refl
reads_kind code dead kinds words i Not d e h = living_on code dead kinds words i d ∙ rw e refl
reads_kind code dead kinds words i Minus d e h = living_on code dead kinds words i d ∙ rw e refl
reads_kind code dead kinds words i Other d e h = absurd (h refl)

-- ---- what is held within a group of two operands

abbrev held2 : Val → Val → ℕ → ℕ → Stack
held2 a b q k = cond (leb k q) (Known a ∷ []) (Known b ∷ Known a ∷ [])

held_low : (a b : Val) (q k : ℕ) (s : Stack) → k ≤ q → held2 a b q k ++ s ≡ Known a ∷ s
held_low a b q k s h = rw (le-leb k q h) refl

held_high : (a b : Val) (q k : ℕ) (s : Stack) → q < k → held2 a b q k ++ s ≡ Known b ∷ Known a ∷ s
held_high a b q k s h = rw (lt-leb k q h) refl

module _ {n i : ℕ} {code dead kinds words : List ℕ} {constants : ℕ} (fine : Fine n (chunk code dead kinds words constants))
    (whole : n ≡ chunk_count code) (hi : i < n)
    (di : get_or dead i 0 ≡ 0) where
  pushes : (p : ℕ) (a : Val) → get_or dead p 0 ≡ 0 → Operates code kinds words p a → (s : Stack)
      → act (living code dead kinds words p) s p ≡ At (suc p) (Known a ∷ s)
  unfolding act
  pushes p a d o s = rw (living_on code dead kinds words p d ∙ o.pushes) refl

  passes : (k : ℕ) → (get_or dead k 0 ≡ 0 → ⊥) → (s : Stack) → act (living code dead kinds words k) s k ≡ At (suc k) s
  unfolding act
  passes k d s = rw (living_off code dead kinds words k d) refl

  module _ (p q : ℕ) (v : Val)
      (none : lands_any code p i ≡ false) (room : PushRoom kinds words constants) (c x m : ℕ) (e : (const_load v kinds words constants).load ≡ to_load c x m) where
    abbrev Done : Type 0
    Done =
        Kept n (chunk code dead kinds words constants)
        (chunk (put code p c x) (kill dead q i) (const_load v kinds words constants).kinds (const_load v kinds words constants).words m)

    load : Good v → Loads v constants (const_load v kinds words constants).kinds (const_load v kinds words constants).words c x m
    load g = load_back v g constants kinds words room c x m e

    two_after : (o : Op) (a b : Val) → kind_of (op_at code i) ≡ Binop o → Near dead i q → Near dead q p
        → Operates code kinds words p a → Operates code kinds words q b → fold_binop o a b ≡ Some v → Done
    two_after o a b k nq np oa ob f =
        keeps fine whole hi p q v np.below (omega (arith, nq.below)) np.alive gap (const_load v kinds words constants).kinds
        (const_load v kinds words constants).words c x m
        (load (good_of f (binop_good o a b))) (load_grows v kinds words constants) (held2 a b q) none first inner last
      where
        gap : (k : ℕ) → p < k → k < i → (k ≡ q → ⊥) → get_or dead k 0 ≡ 0 → ⊥
        gap k low high nk = go (ltb k q) refl
          where
            go : (t : Bool) → ltb k q ≡ t → get_or dead k 0 ≡ 0 → ⊥
            go true e = np.gap k low (ltb-true k q e)
            go false e = nq.gap k (omega (arith, ltb-false k q e)) high

        first : (s : Stack) → act (living code dead kinds words p) s p ≡ At (suc p) (held2 a b q (suc p) ++ s)
        first s = pushes p a np.alive oa s ∙ ap (At (suc p)) (sym (held_low a b q (suc p) s np.below))

        inner : (k : ℕ) → p < k → k < i → (s : Stack) → act (living code dead kinds words k) (held2 a b q k ++ s) k ≡ At (suc k) (held2 a b q (suc k) ++ s)
        inner k low high s = go (ltb k q) (ltb q k) refl refl
          where
            go : (t u : Bool) → ltb k q ≡ t → ltb q k ≡ u → act (living code dead kinds words k) (held2 a b q k ++ s) k ≡ At (suc k) (held2 a b q (suc k) ++ s)
            go true u et eu =
                let l = ltb-true k q et in
                rw (held_low a b q k s (omega arith), held_low a b q (suc k) s l) (passes k (np.gap k low l) (Known a ∷ s))
            go false true et eu =
                let l = ltb-true q k eu in
                rw (held_high a b q k s l, held_high a b q (suc k) s (omega arith)) (passes k (nq.gap k l high) (Known b ∷ Known a ∷ s))
            go false false et eu =
                let w : k ≡ q = omega (arith, ltb-false k q et, ltb-false q k eu) in
                rw (held_low a b q k s (omega arith), held_high a b q (suc k) s (omega arith), w) (pushes q b nq.alive ob (Known a ∷ s))

        last : (s : Stack) → act (living code dead kinds words i) (held2 a b q i ++ s) i ≡ At (suc i) (Known v ∷ s)
        last s =
            rw (held_high a b q i s nq.below, reads_kind code dead kinds words i (Binop o) di k (λ z. absurd (let y : ◌≡◌ {A = ℕ} 0 1 = cc in omega arith)))
            (two_acts o a b v s i f)

    one_after : (minus : Bool) (a : Val) → kind_of (op_at code i) ≡ cond minus Minus Not → Near dead i p → i ≡ q
        → Operates code kinds words p a → fold_unary minus a ≡ Some v → Done
    one_after minus a k np iq oa f =
        keeps fine whole hi p q v (omega (arith, np.below)) (omega arith) np.alive gap (const_load v kinds words constants).kinds
        (const_load v kinds words constants).words c x m
        (load (one_good minus a v oa.good f)) (load_grows v kinds words constants) (λ _. Known a ∷ []) none (pushes p a np.alive oa)
        (λ j low high s. passes j (np.gap j low high) (Known a ∷ s)) last
      where
        gap : (j : ℕ) → p < j → j < i → (j ≡ q → ⊥) → get_or dead j 0 ≡ 0 → ⊥
        gap j low high nj = np.gap j low high

        other : (t : Bool) → Other ≡ cond t Minus Not → ⊥
        other true z = let y : ◌≡◌ {A = ℕ} 0 1 = cc in omega arith
        other false z = let y : ◌≡◌ {A = ℕ} 0 1 = cc in omega arith

        last : (s : Stack) → act (living code dead kinds words i) (Known a ∷ s) i ≡ At (suc i) (Known v ∷ s)
        last s = rw (reads_kind code dead kinds words i (cond minus Minus Not) di k (other minus)) (one_acts minus a v s i f)

-- ---- one attempt

-- one that changes nothing
kept_same : {n : ℕ} (s : Chunk) → Fine n s → Kept n s s
kept_same s fine =
    record {
      fine = fine;
      runs = λ o. (λ run. run, λ run. run);
      listed = λ k e. e;
      code_long = refl;
      dead_long = refl;
      kinds_long = refl;
      words_long = refl;
    }

module _ {n i : ℕ} (s : Chunk) (fine : Fine n s) (whole : n ≡ chunk_count s.code) (hi : i < n) (ready : OperatorRoom s i)
    (bars : ℕ → Bool) (strict : (p : ℕ) → bars p ≡ false → lands_any s.code p i ≡ false) where
  stay : Kept n s s
  stay = kept_same s fine

  -- a result with no room in the pool
  full : (v : Val) → Kept n s (chunk s.code s.dead (const_load v s.kinds s.words s.constants).kinds (const_load v s.kinds s.words
      s.constants).words s.constants)
  unfolding ins
  full v =
      record {
        fine = record { long = fine.long; marks = fine.marks; each = fine.each };
        runs = λ o. (λ run. alike same run, λ run. alike (λ k h. sym (same k h)) run);
        listed = λ k e. e;
        code_long = refl;
        dead_long = refl;
        kinds_long = (load_grows v s.kinds s.words s.constants).kinds_long;
        words_long = (load_grows v s.kinds s.words s.constants).words_long;
      }
    where
      same : (k : ℕ) → k < n
          → living s.code s.dead (const_load v s.kinds s.words s.constants).kinds (const_load v s.kinds s.words
          s.constants).words k ≡ code_of s k
      same k h =
          ap (λ (l : Ins). cond (alive s.dead k) l Pass)
          (read_same s.constants s.kinds s.words (const_load v s.kinds s.words s.constants).kinds (const_load v s.kinds s.words
          s.constants).words
          (load_grows v s.kinds s.words s.constants) (kind_of (op_at s.code k)) (op_at s.code k) (operand_at s.code k) (fine.each k h).there)

  told_after : (di : get_or s.dead i 0 ≡ 0) (p q : ℕ) (v : Val) (c x m : ℕ) → (const_load v s.kinds s.words s.constants).load ≡ to_load c x m
      → PushRoom s.kinds s.words s.constants
      → Told bars i s p q v
      → Kept n s (chunk (put s.code p c x) (kill s.dead q i) (const_load v s.kinds s.words s.constants).kinds (const_load v s.kinds
      s.words s.constants).words m)
  told_after di p q v c x m e room (two o a b k nq np ea eb f free) =
      two_after fine whole hi di p q v (strict p free) room c x m e o a b k nq np
      (operates s.code s.kinds s.words s.constants p a ea) (operates s.code s.kinds s.words s.constants q b eb) f
  told_after di p q v c x m e room (one minus a k np iq ea f free) =
      one_after fine whole hi di p q v (strict p free) room c x m e minus a k np iq (operates s.code s.kinds s.words s.constants p a ea) f

  attempt : get_or s.dead i 0 ≡ 0 → (plan : Option Plan) → plan_at bars i s ≡ plan → Kept n s (applied plan i s)
  unfolding applied landed
  attempt d None e = stay
  attempt d (Some f) e = go (const_load f.value s.kinds s.words s.constants).load refl
    where
      go : (l : Option Load) → (const_load f.value s.kinds s.words s.constants).load ≡ l
          → Kept n s (landed l (const_load f.value s.kinds s.words s.constants).kinds (const_load f.value s.kinds s.words s.constants).words f.at f.dies i s)
      go (Some l) b = told_after d f.at f.dies f.value l.opcode l.operand l.constants b (ready.room (planned bars i s e).operator) (told bars i s e)
      go None b = full f.value

  pub step : Kept n s (try_fold bars i s)
  unfolding try_fold
  step = go (eqb (get_or s.dead i 0) 0) refl
    where
      go : (t : Bool) → eqb (get_or s.dead i 0) 0 ≡ t → Kept n s (cond t (applied (plan_at bars i s) i s) s)
      go true e = attempt (eqb-true _ _ e) (plan_at bars i s) refl
      go false e = stay

-- ---- the pass

both : {n : ℕ} {s t u : Chunk} → Kept n s t → Kept n t u → Kept n s u
both p q =
    record {
      fine = q.fine;
      runs = λ o. (λ run. (q.runs o).0 ((p.runs o).0 run), λ run. (p.runs o).1 ((q.runs o).1 run));
      listed = λ k e. q.listed k (p.listed k e);
      code_long = q.code_long ∙ p.code_long;
      dead_long = q.dead_long ∙ p.dead_long;
      kinds_long = q.kinds_long ∙ p.kinds_long;
      words_long = q.words_long ∙ p.words_long;
    }

pub record Passed (bars : Bars) (n : ℕ) (s : Chunk) (k : ℕ) : Type 0 where
  pub held : Held bars s (folded bars k s) k
  pub kept : Kept n s (folded bars k s)

module _ (bars : Bars) (strict : Strict bars) (n : ℕ) (s : Chunk) (fine : Fine n s) (whole : n ≡ chunk_count s.code) (lent : PassRoom s) where
  pub pass : (k : ℕ) → k ≤ n → Passed bars n s k
  unfolding folded
  pass zero h = record { held = held_none bars s; kept = kept_same s fine }
  pass (suc k) h = go (pass k (omega arith))
    where
      go : Passed bars n s k → Passed bars n s (suc k)
      go ih =
          let t = folded bars k s in
          let b = bars t.code k in
          let a = step t ih.kept.fine (whole ∙ ap (λ (m : ℕ). m / stride) (sym ih.kept.code_long)) h
          (held_ready ih.held whole h lent) b (λ p f. strict t.code k p f) in
          let u = try_fold b k t in
          record {
            held = rw (add-one k) at (held_more ih.held whole h lent u refl a.code_long a.dead_long a.kinds_long a.words_long);
            kept = both ih.kept a;
          }
