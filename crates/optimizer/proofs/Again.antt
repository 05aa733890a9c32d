-- What the folding call leaves passes tests 1 and 2 again: a folded chunk can be lent to the next call. Assumes nothing.
use Prim.Native.Nat.{ℕ, zero, suc, ◌+◌, ◌-◌, ◌*◌, ◌≤◌, ◌<◌}
use native.Mathlib.Omega.{arith}
use mathlib.Core.Path.{◌≡◌, refl, sym, ap, ◌∙◌}
use mathlib.Core.Bool.{Bool, true, false, cond, not}
use mathlib.Core.List.{List, [], ◌∷◌, ◌++◌}
use lib.Dec.{eqb, ltb}
use lib.ListN.{length, get_or, take, replicate, length-append, length-replicate, get_or-append, get_or-eq_default}
use lib.Seq.{get_or-append-add, length-take-le}
use borrow.Author.Tests.{eqb-true, eqb-false, ltb-true, ltb-false}
use Rattle.laws.proofs.Walk.{reaches}
use Rattle.laws.specs.All.{every}
use Rattle.laws.specs.Each.{each}
use Rattle.laws.proofs.Many.{many_few}
use Rattle.refusals.specs.Answers.{asked}
use Rattle.refusals.specs.Stages.{Checked}
use Rattle.std.specs.declared.result.Result.TheVariants.{Ok, Err}
use Rattle.chunk.specs.Chunk.{stride, chunk_count, op_at, mark_at, origin_at, folds, chunk_rules, breaks_at}
use Rattle.chunk.specs.Check.{first_bad_of, chunk_check_of, ready_of}
use Rattle.chunk.specs.declared.Counts.{Counts}
use Rattle.chunk.proofs.Checks.{accepted}
use Rattle.laws.proofs.Counting.{zeros_at}
use Rattle.values.specs.declared.Val.{Val}
use Rattle.values.specs.declared.Val.TheVariants.{Int, Float as Real, Bool as Truth}
use Rattle.pool.specs.Pool.{find_or_push_const}
use Rattle.fold.specs.Plan.{Chunk, chunk, plan_at}
use Rattle.fold.specs.Pass.{Loading, load_of, const_load, mark_of, put, landed, applied, try_fold, Bars, by_scan, folded, fold_all}
use Rattle.fold.proofs.Planned.{Planned, planned}
use Rattle.fold.proofs.Put.{put_long, put_other, mark_other, put_here, mark_here}
use Rattle.positions.specs.Remap.{alive, live}
use Rattle.compact.specs.Tables.{moved_operand, words_of, left_at, left, compacted}
use Rattle.compact.proofs.Left.{left_long}
use Rattle.phi_pass.specs.Phi.{marked}
use Rattle.phi_pass.proofs.Pairs.{marked_length}
use Rattle.finish.specs.Finish.{Tables, tables, map_of, sources_of, renewed, finished}
use Rattle.optimizer.specs.Fold.{Buffers, lens_of, needed, fold_outcome, fold_pass, constant_fold, joined_buffers, fold_lent, called, rejoined, fold_call}
use Rattle.optimizer.proofs.Ruled.{Ruled, no_words, ruled_of}
use Rattle.optimizer.proofs.Tested.{held_of, check_met}
use Rattle.optimizer.proofs.Whole.{pass_kept}
use Rattle.std.specs.declared.option.Option.{Option}
use Rattle.std.specs.declared.option.Option.TheVariants.{Some, None}
use Rattle.fold.specs.declared.Plan.{Plan}
use Rattle.fold.specs.declared.Load.{Load}
use Rattle.fold.specs.Plan.{to_put}
use Rattle.fold.specs.Pass.{to_load}

-- rules are kept, and the code is as long
pub record Keeps (w w' : List ℕ) : Type 0 where
  pub ruled : Ruled w → Ruled w'
  pub long : length w' ≡ length w

same : (w : List ℕ) → Keeps w w
same w = record { ruled = λ r. r; long = refl }

both : {u v w : List ℕ} → Keeps u v → Keeps v w → Keeps u w
both p q = record { ruled = λ r. q.ruled (p.ruled r); long = q.long ∙ p.long }

-- ---- a load with its mark

module _ (w : List ℕ) (p o x : ℕ) where
  put_keeps : chunk_rules o (mark_of o) ≡ true → p < chunk_count w → Keeps w (put w p o x)
  put_keeps e h = record { ruled = λ r k. go r k (eqb k p) refl; long = put_long w p o x }
    where
      go : Ruled w → (k : ℕ) (t : Bool) → eqb k p ≡ t → chunk_rules (op_at (put w p o x) k) (mark_at (put w p o x) k) ≡ true
      go r k true q = rw (eqb-true k p q, put_here w p o x h, mark_here w p o x h) e
      go r k false q = rw (put_other w p o x k (eqb-false k p q), mark_other w p o x k (eqb-false k p q)) (r k)

abbrev Fair : Option Load → Type 0
Fair (Some l) = chunk_rules l.opcode (mark_of l.opcode) ≡ true
Fair None = Unit {0}

kept_fair : (k : Option (ℕ × ℕ)) → Fair (load_of k)
unfolding chunk_rules folds mark_of
kept_fair (Some k) = refl
kept_fair None = tt

load_fair : (v : Val) (kinds words : List ℕ) (n : ℕ) → Fair (const_load v kinds words n).load
unfolding const_load chunk_rules folds mark_of
load_fair (Int z) kinds words n = kept_fair (find_or_push_const kinds words n (Int z)).kept
load_fair (Real x) kinds words n = kept_fair (find_or_push_const kinds words n (Real x)).kept
load_fair (Truth true) kinds words n = refl
load_fair (Truth false) kinds words n = refl

-- ---- the pass

module _ (i : ℕ) (s : Chunk) (h : i < chunk_count s.code) where
  applied_keeps : (p q : ℕ) (v : Val) → Planned s i p q → Keeps s.code (applied (to_put p q v) i s).code
  unfolding applied landed
  applied_keeps p q v a = go (const_load v s.kinds s.words s.constants) (load_fair v s.kinds s.words s.constants)
    where
      go : (l : Loading) → Fair l.load → Keeps s.code (landed l.load l.kinds l.words p q i s).code
      go l f = by l.load f
        where
          by : (a' : Option Load) → Fair a' → Keeps s.code (landed a' l.kinds l.words p q i s).code
          by (Some k) f = put_keeps s.code p k.opcode k.operand f (omega (arith, a.first))
          by None f = same s.code

  try_keeps : (bars : ℕ → Bool) → Keeps s.code (try_fold bars i s).code
  unfolding try_fold applied
  try_keeps bars = go (eqb (get_or s.dead i 0) 0)
    where
      by : (plan : Option Plan) → plan_at bars i s ≡ plan → Keeps s.code (applied plan i s).code
      by None e = same s.code
      by (Some f) e = applied_keeps f.at f.dies f.value (planned bars i s e)

      go : (t : Bool) → Keeps s.code (cond t (applied (plan_at bars i s) i s) s).code
      go true = by (plan_at bars i s) refl
      go false = same s.code

module _ (bars : Bars) (s : Chunk) where
  some_keep : (k : ℕ) → k ≤ chunk_count s.code → Keeps s.code (folded bars k s).code
  unfolding folded
  some_keep zero l = same s.code
  some_keep (suc k) l =
      let p = some_keep k (omega arith) in
      both p (try_keeps k (folded bars k s) (rw p.long l) (bars (folded bars k s).code k))

  all_keep : Keeps s.code (fold_all bars s).code
  unfolding fold_all
  all_keep = some_keep (chunk_count s.code) (omega arith)

pass_keeps : (bars : Bars) (s : Chunk) → Keeps s.code (fold_pass bars s).code
unfolding fold_pass
pass_keeps bars s = all_keep bars (chunk s.code (replicate (length s.dead) 0) s.kinds s.words s.constants)

-- ---- compaction

append_ruled : (xs ys : List ℕ) (m : ℕ) → length xs ≡ stride * m → Ruled xs → Ruled ys → Ruled (xs ++ ys)
append_ruled xs ys m l a b k = go (ltb k m) refl
  where
    go : (t : Bool) → ltb k m ≡ t → chunk_rules (op_at (xs ++ ys) k) (mark_at (xs ++ ys) k) ≡ true
    go true q =
        let h = ltb-true k m q in
        rw (get_or-append xs ys 0 (stride * k) (omega arith), get_or-append xs ys 0 (stride * k + 1) (omega arith)) (a k)
    go false q =
        let h = ltb-false k m q in
        let o : stride * k ≡ length xs + stride * (k - m) = omega arith in
        let n : stride * k + 1 ≡ length xs + (stride * (k - m) + 1) = omega arith in
        let p : op_at (xs ++ ys) k ≡ op_at ys (k - m) = ap (λ (i : ℕ). get_or (xs ++ ys) i 0) o ∙ get_or-append-add xs ys (stride * (k - m)) 0 in
        let r : mark_at (xs ++ ys) k ≡ mark_at ys (k - m) = ap (λ (i : ℕ). get_or (xs ++ ys) i 0) n ∙ get_or-append-add xs ys (stride * (k - m) + 1) 0 in
        rw (p, r) (b (k - m))

one_ruled : (o m v u : ℕ) → chunk_rules o m ≡ true → Ruled (o ∷ m ∷ v ∷ u ∷ [])
one_ruled o m v u e zero = e
one_ruled o m v u e (suc k) =
    let p : op_at (o ∷ m ∷ v ∷ u ∷ []) (suc k) ≡ 0 = get_or-eq_default (o ∷ m ∷ v ∷ u ∷ []) 0 {n = stride * suc k} (omega arith) in
    let q : mark_at (o ∷ m ∷ v ∷ u ∷ []) (suc k) ≡ 0 = get_or-eq_default (o ∷ m ∷ v ∷ u ∷ []) 0 {n = stride * suc k + 1} (omega arith) in
    rw (p, q) no_words

zero_ruled : (n : ℕ) → Ruled (replicate n 0)
zero_ruled n k = rw (zeros_at n (stride * k), zeros_at n (stride * k + 1)) no_words

module _ (dead w : List ℕ) where
  at_ruled : Ruled w → (k : ℕ) (t : Bool) → Ruled (cond t (words_of dead w k) [])
  at_ruled r k true = one_ruled (op_at w k) (mark_at w k) (moved_operand dead w k) (origin_at w k) (r k)
  at_ruled r k false = λ j. no_words

  left_ruled : Ruled w → (k : ℕ) → Ruled (each (left_at dead w) k)
  unfolding each
  left_ruled r zero = λ j. no_words
  left_ruled r (suc k) = append_ruled (each (left_at dead w) k) (left_at dead w k) (live dead k) (left_long dead w k) (left_ruled r k)
      (at_ruled r k (alive dead k))

  compacted_keeps : stride * length dead ≤ length w → Keeps w (compacted dead w)
  unfolding compacted left
  compacted_keeps h =
      let l = each (left_at dead w) (length dead) in
      record {
        ruled = λ r. append_ruled l (replicate (length w - length l) 0) (live dead (length dead)) (left_long dead w (length dead)) (left_ruled r (length dead))
            (zero_ruled (length w - length l));
        long =
            length-append l (replicate (length w - length l) 0)
            ∙ omega (arith, length-replicate {A = ℕ} (length w - length l) 0, left_long dead w (length dead), many_few (alive dead) (length dead));
      }

finished_keeps : (t : Tables) → stride * length t.dead ≤ length t.code → Keeps t.code (finished t).code
unfolding finished renewed
finished_keeps t h = go (every (alive d) (length d))
  where
    d : List ℕ
    d = marked t.code (map_of t) (sources_of t) t.dead

    m : Tables
    m = tables t.code t.map t.sources t.stmts t.calls d t.remap t.left

    go : (u : Bool) → Keeps t.code (cond u m (renewed m)).code
    go true = same t.code
    go false = compacted_keeps d t.code (rw (marked_length t.code (map_of t) (sources_of t) t.dead) h)

-- ---- the call

pub fold_keeps : (bars : Bars) (b : Buffers) (c : Counts) → chunk_count b.code ≤ length b.dead → stride * length b.dead ≤ length b.code
    → Keeps b.code (constant_fold bars b c).after.code
unfolding constant_fold
fold_keeps bars b c h l =
    let s = chunk b.code b.dead b.kinds b.words c.constants in
    let f = fold_pass bars s in
    let k = pass_keeps bars s in
    let z : length f.dead ≡ length b.dead = (pass_kept bars s f h refl).dead_long ∙ length-replicate (length b.dead) 0 in
    both k
    (finished_keeps
    (tables f.code b.map b.sources b.stmts b.calls f.dead b.remap
    (record { instructions = length b.dead; map = c.map; sources = c.sources }))
    (rw (z, k.long) l))

-- a code that keeps the rules of one that passes them, and its length, passes too
checks : (w w' : List ℕ) (n : ℕ) → Keeps w w' → chunk_check_of w ≡ Ok n → chunk_check_of w' ≡ Ok n
checks w w' n k e =
    let m = check_met n w (sym e) in
    let r : Ruled w' = k.ruled (ruled_of w (omega (arith, m.even)) m.good) in
    let f : first_bad_of w' ≡ 0 + chunk_count w' = reaches (breaks_at w') (chunk_count w') 0 (λ j a b. ap not (r j)) in
    accepted w' n (rw k.long m.even) (rw k.long m.is) (omega (arith, m.is, m.few)) (omega (arith, f, k.long, m.is))

-- tests 1 and 2 pass again after the folding call
pub again : (strict : Bool) (b : Buffers) (tries landings : List ℕ) (c : Counts) (n : ℕ) → chunk_check_of b.code ≡ Ok n
    → chunk_check_of (fold_call strict b tries landings c).result.after.code ≡ Ok n
unfolding fold_call rejoined joined_buffers fold_lent
again strict b tries landings c n e = go (ready_of b.code tries b.kinds b.words c (lens_of b) (length landings)) refl
  where
    go : (v : Checked) → v ≡ ready_of b.code tries b.kinds b.words c (lens_of b) (length landings)
        → chunk_check_of (asked v (λ r. called (fold_outcome (Err r) b) tries landings) (rejoined b landings c
        (fold_lent strict tries (needed b c) c))).result.after.code ≡ Ok n
    go (Err r) q = e
    go (Ok m) q =
        let h = held_of b tries c (length landings) m (Ok m) q refl in
        let d : length (take (chunk_count b.code) b.dead) ≡ chunk_count b.code = length-take-le (chunk_count b.code) b.dead h.dead in
        checks b.code (constant_fold (by_scan strict tries) (needed b c) c).after.code n
        (fold_keeps (by_scan strict tries) (needed b c) c (omega arith) (omega (arith, h.whole))) e
