-- Folding a cleared chunk does what folding it uncleared does: instruction by instruction the same opcode, marks, dead mark and load.
-- Where the uncleared pool reaches 65,535 the cleared one may fold more. Assumes nothing.
use Prim.Native.Nat.{ℕ, zero, suc, ◌+◌, ◌-◌, ◌*◌, ◌/◌, ◌%◌, ◌≤◌, ◌<◌}
use native.Mathlib.Nat.{le_refl}
use native.Mathlib.Omega.{arith}
use native.Mathlib.Numerals.{add-one}
use mathlib.Core.Path.{◌≡◌, refl, sym, ap, ◌∙◌}
use mathlib.Core.Logic.{inl, inr, ⊎_elim}
use mathlib.Core.Bool.{Bool, true, false, cond, not, ◌&&◌, ◌||◌, false≢true}
use mathlib.Core.List.{List}
use lib.Dec.{eqb, ltb, leb}
use lib.ListN.{length, get_or, set, length-set, get_or-eq_default}
use mir.Syntax.{w64}
use mir.Val.{of_z}
use lib.Ieee.{binary64, to_bits}
use borrow.Author.Tests.{ltb-true, ltb-false, not-false}
use Rattle.laws.proofs.Branch.{and-true, or_false}
use Rattle.laws.proofs.Walk.{none_passed}
use Rattle.ops.specs.Op.{last, LoadConst, Phi}
use Rattle.refusals.specs.declared.Refusal.TheVariants.{Length, Record}
use Rattle.std.specs.declared.result.Result.TheVariants.{Ok}
use Rattle.chunk.specs.Chunk.{stride, chunk_count, op_at, mark_at, operand_at, names, folds, jump_kept, names_kept, chunk_rules, breaks_at}
use Rattle.chunk.specs.Check.{uneven_chunk, first_bad_of, chunk_check_of}
use Rattle.values.specs.declared.Val.{Val}
use Rattle.values.specs.declared.Val.TheVariants.{Int, Float as Real, Bool as Truth}
use Rattle.pool.specs.Pool.{position, stored, find_or_push, find_or_push_const}
use Rattle.fold.specs.Plan.{Chunk, chunk, plan_at}
use Rattle.fold.specs.Pass.{const_load, put, landed, applied, try_fold, Bars, by_scan, folded, fold_all}
use Rattle.fold.specs.Inner.{PassRoom}
use Rattle.fold.proofs.Put.{put_long}
use Rattle.fold.proofs.Grown.{Held, held_none, held_more, held_ready}
use Rattle.named.specs.Unused.{AllNear, constant_named, before, pooled, recoded}
use Rattle.clear.proofs.Kept.{named_by, in_order, onto, pooled_kept}
use Rattle.clear.proofs.Loads.{recoded_length, recoded_count, recoded_op, recoded_mark, unmarked_stays, far_stays, near_moves}
use Rattle.clear.proofs.Tested.{check_met, whole_of, never}
use Rattle.clear.proofs.Room.{cleared_chunk, room_after}
use Rattle.clear.proofs.Alike.{bars_same, SameLoad, Loads, Alike}
use Rattle.clear.proofs.Pools.{Pools, fewer}
use Rattle.clear.proofs.Attempts.{Sim, settled, try_live, try_dead, try_sim}
use Rattle.std.specs.declared.option.Option.{Option}
use Rattle.std.specs.declared.option.Option.TheVariants.{Some, None}
use Rattle.fold.specs.declared.Plan.{Plan}
use Rattle.fold.specs.Plan.{to_put}

-- ---- lengths stay, and the count never falls

record Long (s t : Chunk) : Type 0 where
  code : length t.code ≡ length s.code
  dead : length t.dead ≡ length s.dead
  kinds : length t.kinds ≡ length s.kinds
  words : length t.words ≡ length s.words
  more : s.constants ≤ t.constants

long_same : (s : Chunk) → Long s s
long_same s = record { code = refl; dead = refl; kinds = refl; words = refl; more = omega arith }

module _ (p q i : ℕ) (s : Chunk) where
  long_wrote : (o x : ℕ) (ks ws : List ℕ) (n : ℕ) → length ks ≡ length s.kinds → length ws ≡ length s.words → s.constants ≤ n
      → Long s (chunk (put s.code p o x) (set (set s.dead q 1) i 1) ks ws n)
  long_wrote o x ks ws n a b h =
      record { code = put_long s.code p o x; dead = length-set (set s.dead q 1) i 1 ∙ length-set s.dead q 1; kinds = a; words = b; more = h }

  long_pool : (k w : ℕ) → Long s (settled (find_or_push s.kinds s.words s.constants k w) p q i s)
  unfolding find_or_push landed
  long_pool k w = go (ltb (position s.kinds s.words s.constants k w) s.constants) (ltb s.constants 65535)
    where
      n : ℕ
      n = s.constants

      go : (a b : Bool)
          → Long s
          (settled
          (cond a (stored (Some (position s.kinds s.words n k w, n)) s.kinds s.words)
          (cond b (stored (Some (n, n + 1)) (set s.kinds n k) (set s.words n w)) (stored None s.kinds s.words)))
          p q i s)
      go true b = long_wrote LoadConst (position s.kinds s.words n k w) s.kinds s.words n refl refl (omega arith)
      go false true = long_wrote LoadConst n (set s.kinds n k) (set s.words n w) (n + 1) (length-set s.kinds n k) (length-set s.words n w)
          (omega arith)
      go false false = long_same s

  long_put : (v : Val) → Long s (applied (to_put p q v) i s)
  unfolding applied landed const_load find_or_push_const
  long_put (Int x) = long_pool 1 (of_z w64 x)
  long_put (Real x) = long_pool 2 (to_bits binary64 x)
  long_put (Truth true) = long_wrote _ 0 s.kinds s.words s.constants refl refl (omega arith)
  long_put (Truth false) = long_wrote _ 0 s.kinds s.words s.constants refl refl (omega arith)

long_applied : (plan : Option Plan) (i : ℕ) (s : Chunk) → Long s (applied plan i s)
unfolding applied
long_applied None i s = long_same s
long_applied (Some f) i s = long_put f.at f.dies i s f.value

long_try : (bars : ℕ → Bool) (i : ℕ) (s : Chunk) → Long s (try_fold bars i s)
long_try bars i s = go (eqb (get_or s.dead i 0) 0) refl
  where
    go : (b : Bool) → eqb (get_or s.dead i 0) 0 ≡ b → Long s (try_fold bars i s)
    go true e = rw (try_live bars i s (plan_at bars i s) e refl) (long_applied (plan_at bars i s) i s)
    go false e = rw (try_dead bars i s e) (long_same s)

-- ---- the pass

module _ (bars : Bars) (s : Chunk) where
  folded_next : (k : ℕ) → folded bars (suc k) s ≡ try_fold (bars (folded bars k s).code k) k (folded bars k s)
  unfolding folded
  folded_next k = refl

  folded_none : folded bars 0 s ≡ s
  unfolding folded
  folded_none = refl

  more_on : (d k : ℕ) → (folded bars k s).constants ≤ (folded bars (d + k) s).constants
  more_on zero k = let e : 0 + k ≡ k = omega arith in rw e (omega arith)
  more_on (suc d) k =
      let e : suc d + k ≡ suc (d + k) = omega arith in
      let l = long_try (bars (folded bars (d + k) s).code (d + k)) (d + k) (folded bars (d + k) s) in
      rw (e, folded_next (d + k)) (omega (arith, more_on d k, l.more))

  more_up : (k n : ℕ) → k ≤ n → (folded bars k s).constants ≤ (folded bars n s).constants
  more_up k n h = let e : (n - k) + k ≡ n = omega arith in rw e at (more_on (n - k) k)

  held_at : PassRoom s → (k : ℕ) → k ≤ chunk_count s.code → Held bars s (folded bars k s) k
  held_at x zero h = rw folded_none (held_none bars s)
  held_at x (suc k) h =
      let g = held_at x k (omega arith) in
      let l = long_try (bars (folded bars k s).code k) k (folded bars k s) in
      let z = held_more g refl h x (try_fold (bars (folded bars k s).code k) k (folded bars k s)) refl l.code l.dead l.kinds l.words in
      rw (folded_next k) (rw (add-one k) at z)

all_is : (bars : Bars) (s : Chunk) (n : ℕ) → n ≡ chunk_count s.code → fold_all bars s ≡ folded bars n s
unfolding fold_all
all_is bars s n c = ap (λ (k : ℕ). folded bars k s) (sym c)

sim_to : {limit : ℕ} {a b a' b' : Chunk} → a ≡ a' → b ≡ b' → Sim limit a' b' → Sim limit a b
sim_to e f z = rw (e, f) z

before_it : (k n : ℕ) → suc k ≤ n → k ≤ n
before_it k n h = omega arith

before_end : (k n m : ℕ) → n ≡ m → suc k ≤ n → k ≤ m
before_end k n m e h = omega arith

below_limit : (a b : ℕ) → a ≤ b → b < 65535 → a < 65535
below_limit a b h l = omega arith

within_limit : (a b limit : ℕ) → a ≤ b → b ≤ limit → a ≤ limit
within_limit a b limit h l = omega arith

module _ (strict : Bool) (tries : List ℕ) (s t : Chunk) (n : ℕ) (c : n ≡ chunk_count s.code) (c' : n ≡ chunk_count t.code) (x : PassRoom s) (y : PassRoom t)
    (few : (folded (by_scan strict tries) n s).constants < 65535) (limit : ℕ) (low : (folded (by_scan strict tries) n s).constants ≤ limit)
    (z : Sim limit s t) where
  abbrev scan : Bars
  scan = by_scan strict tries

  sim_at : (k : ℕ) → k ≤ n → Sim limit (folded scan k s) (folded scan k t)
  sim_at zero h = sim_to (folded_none scan s) (folded_none scan t) z
  sim_at (suc k) h =
      let a = held_at scan s x k (before_end k n (chunk_count s.code) c h) in
      let b = held_at scan t y k (before_end k n (chunk_count t.code) c' h) in
      let up = more_up scan s k n (before_it k n h) in
      let l = below_limit (folded scan k s).constants (folded scan n s).constants up few in
      let i = sim_at k (before_it k n h) in
      sim_to (folded_next scan s k ∙ ap (λ (q : ℕ → Bool). try_fold q k (folded scan k s)) (bars_same i.alike strict tries k)) (folded_next scan t k)
      (try_sim (scan (folded scan k t).code k) k (folded scan k s) (folded scan k t) i (within_limit (folded scan k s).constants (folded scan n s).constants
      limit up low) l (held_ready a c h x) (held_ready b c' h y))

  sim_all : Sim limit (fold_all scan s) (fold_all scan t)
  sim_all = sim_to (all_is scan s n c) (all_is scan t n c') (sim_at n (le_refl n))

-- ---- what the record rules say of an accepted chunk

pub accepted_at : (n : ℕ) (w : List ℕ) → chunk_check_of w ≡ Ok n → (k : ℕ) → k < chunk_count w → chunk_rules (op_at w k) (mark_at w k) ≡ true
unfolding chunk_check_of
accepted_at n w e k h = go (uneven_chunk w) refl (ltb (first_bad_of w) (chunk_count w)) refl e
  where
    go : (u : Bool) → uneven_chunk w ≡ u → (b : Bool) → ltb (first_bad_of w) (chunk_count w) ≡ b → chunk_check_of w ≡ Ok n → chunk_rules (op_at w k) (mark_at w k) ≡
        true
    go true f b g e = never n (Length (length w)) (sym (rw f at e))
    go false f true g e = never n (Record (first_bad_of w)) (sym (rw (f, g) at e))
    go false f false g e =
        let l = ltb-false (first_bad_of w) (chunk_count w) g in
        not-false (chunk_rules (op_at w k) (mark_at w k)) (none_passed (breaks_at w) k (chunk_count w) 0 (omega arith) (omega arith) (omega arith))

or_left : (a b : Bool) → not a || b ≡ true → a ≡ true → b ≡ true
or_left true b e h = e
or_left false b e h = absurd (false≢true h)

not_or : (a b : Bool) → not (a || b) ≡ true → a ≡ false
not_or true b e = absurd (false≢true e)
not_or false b e = refl

module _ (o marks : ℕ) (e : chunk_rules o marks ≡ true) where
  abbrev jump : Bool
  jump = eqb (marks % 2) 1

  abbrev naming : Bool
  naming = eqb (marks / 2 % 2) 1

  kept : names_kept o jump naming ≡ true
  unfolding chunk_rules
  kept = (and-true (leb o last && leb marks 3 && jump_kept o jump) (names_kept o jump naming) e).1

  pub rule_const : eqb o LoadConst ≡ true → naming ≡ true
  rule_const h = or_left (eqb o LoadConst) naming (and-true (not (eqb o LoadConst) || naming) (not naming || not (jump || eqb o Phi || folds o)) kept).0 h

  pub rule_both : naming ≡ true → (jump ≡ false) × (eqb o Phi ≡ false)
  rule_both h =
      let d = or_left naming (not (jump || eqb o Phi || folds o)) (and-true (not (eqb o LoadConst) || naming)
      (not naming || not (jump || eqb o Phi || folds o)) kept).1 h in
      or_false jump (eqb o Phi) (not_or (jump || eqb o Phi) (folds o) d)

-- ---- a chunk and the cleared one

-- past the end there are zeros
module _ (w : List ℕ) (k : ℕ) (long : length w ≡ stride * chunk_count w) (h : chunk_count w ≤ k) where
  op_past : op_at w k ≡ 0
  op_past = get_or-eq_default w 0 (past 0)
    where
      past : (j : ℕ) → length w ≤ stride * k
      past j = omega arith

  mark_past : mark_at w k ≡ 0
  mark_past = get_or-eq_default w 0 (past 1)
    where
      past : (j : ℕ) → length w ≤ stride * k + 1
      past j = omega arith

  operand_past : operand_at w k ≡ 0
  operand_past = get_or-eq_default w 0 (past 2)
    where
      past : (j : ℕ) → length w ≤ stride * k + 2
      past j = omega arith

in_or_past : {X : Type 0} (k n : ℕ) → (k < n → X) → (n ≤ k → X) → X
in_or_past {X} k n y z = go (ltb k n) refl
  where
    go : (t : Bool) → ltb k n ≡ t → X
    go true e = y (ltb-true k n e)
    go false e = z (ltb-false k n e)

module _ (n : ℕ) (s : Chunk) (ok : chunk_check_of s.code ≡ Ok n) (limit : ℕ) (up : s.constants ≤ limit)
    (near : AllNear s.code s.constants limit) where
  abbrev w : List ℕ
  w = s.code

  abbrev m : ℕ
  m = s.constants

  abbrev w' : List ℕ
  w' = recoded (before w) m w

  long : length w ≡ stride * chunk_count w
  long = whole_of w (check_met n w (sym ok))

  long' : length w' ≡ stride * chunk_count w'
  long' = recoded_length (before w) m w ∙ ap (λ (x : ℕ). stride * x) (sym (recoded_count (before w) m w))

  past' : (k : ℕ) → chunk_count w ≤ k → chunk_count w' ≤ k
  past' k h = rw (recoded_count (before w) m w) h

  unmarked_past : (k : ℕ) → chunk_count w ≤ k → names w k ≡ true → ⊥
  unmarked_past k h e = false≢true (sym (ap (λ (x : ℕ). eqb (x / 2 % 2) 1) (mark_past w k long h)) ∙ e)

  start_near : (k : ℕ) → k < chunk_count w → names w k ≡ true → operand_at w k < m → SameLoad s (cleared_chunk s) (operand_at w k) (operand_at w' k)
  start_near k h e l =
      let v = operand_at w k in
      let y : constant_named w v ≡ true = named_by w v k h e refl in
      rw (near_moves (before w) m w k h e l)
      (record {
        there = l;
        here = in_order (constant_named w) v m l y;
        kind = sym (pooled_kept (constant_named w) m s.kinds v l y);
        word = sym (pooled_kept (constant_named w) m s.words v l y);
      })

  start_load : (k : ℕ) → k < chunk_count w → names w k ≡ true → Loads limit s (cleared_chunk s) (operand_at w k) (operand_at w' k)
  start_load k h e =
      ⊎_elim (λ l. inl (start_near k h e l)) (λ l. inr (record { same = sym (far_stays (before w) m w k h (omega arith)); past = l })) (near k h e)

  start_alike : Alike limit s (cleared_chunk s)
  start_alike =
      record {
        long = long ∙ sym (recoded_length (before w) m w);
        dead = refl;
        ops = λ k. in_or_past k (chunk_count w) (λ h. sym (recoded_op (before w) m w k h)) (λ h. op_past w k long h ∙ sym (op_past w' k long' (past' k h)));
        marks = λ k. in_or_past k (chunk_count w) (λ h. sym (recoded_mark (before w) m w k h)) (λ h. mark_past w k long h
            ∙ sym (mark_past w' k long' (past' k h)));
        plain = λ k e.
            in_or_past k (chunk_count w) (λ h. sym (unmarked_stays (before w) m w k h e)) (λ h. operand_past w k long h
            ∙ sym (operand_past w' k long' (past' k h)));
        loads = λ k e. in_or_past k (chunk_count w) (λ h. start_load k h e) (λ h. absurd (unmarked_past k h e));
        consts = λ k e.
            in_or_past k (chunk_count w) (λ h. rule_const (op_at w k) (mark_at w k) (accepted_at n w ok k h) e)
            (λ h. absurd (false≢true (sym (ap (λ (x : ℕ). eqb x LoadConst) (op_past w k long h)) ∙ e)));
        apart = λ k e. in_or_past k (chunk_count w) (λ h. (rule_both (op_at w k) (mark_at w k) (accepted_at n w ok k h) e).0) (λ h. absurd (unmarked_past k h e));
        free = λ k e. in_or_past k (chunk_count w) (λ h. (rule_both (op_at w k) (mark_at w k) (accepted_at n w ok k h) e).1) (λ h. absurd (unmarked_past k h e));
      }

  start_pools : Pools s.kinds s.words m (pooled (constant_named w) m s.kinds) (pooled (constant_named w) m s.words) (before w m)
  start_pools =
      record {
        used = constant_named w;
        count = refl;
        forth = λ i h e. record {
          at = before w i;
          inside = in_order (constant_named w) i m h e;
          kind = pooled_kept (constant_named w) m s.kinds i h e;
          word = pooled_kept (constant_named w) m s.words i h e;
        };
        back = λ j h.
            let p = onto (constant_named w) m j h in
            record {
              at = p.place;
              inside = p.below;
              kind = sym (pooled_kept (constant_named w) m s.kinds p.place p.below p.passes)
                  ∙ ap (λ (x : ℕ). get_or (pooled (constant_named w) m s.kinds) x 0) p.number;
              word = sym (pooled_kept (constant_named w) m s.words p.place p.below p.passes)
                  ∙ ap (λ (x : ℕ). get_or (pooled (constant_named w) m s.words) x 0) p.number;
            };
      }

  sim_refold : (strict : Bool) (tries : List ℕ) → PassRoom s → (fold_all (by_scan strict tries) s).constants < 65535
      → (fold_all (by_scan strict tries) s).constants ≤ limit
      → Sim limit (fold_all (by_scan strict tries) s) (fold_all (by_scan strict tries) (cleared_chunk s))
  sim_refold strict tries x few low =
      let e = all_is (by_scan strict tries) s (chunk_count w) refl in
      sim_all strict tries s (cleared_chunk s) (chunk_count w) refl (sym (recoded_count (before w) m w)) x (room_after s x) (rw e at few) limit (rw e at low)
      (record { alike = start_alike; pools = start_pools })

-- the pass adds to the constants
more_all : (bars : Bars) (s : Chunk) → s.constants ≤ (fold_all bars s).constants
more_all bars s =
    rw (all_is bars s (chunk_count s.code) refl)
    (let h = more_up bars s 0 (chunk_count s.code) (omega arith) in
    rw (folded_none bars s) at h)

-- folding before and after: asked is that each operand with the mark is below the count, or at or past the count that the uncleared fold ends with
module _ (n : ℕ) (s : Chunk) (ok : chunk_check_of s.code ≡ Ok n) (strict : Bool) (tries : List ℕ)
    (near : AllNear s.code s.constants (fold_all (by_scan strict tries) s).constants)
    (x : PassRoom s) (few : (fold_all (by_scan strict tries) s).constants < 65535) where
  both : Sim (fold_all (by_scan strict tries) s).constants (fold_all (by_scan strict tries) s) (fold_all (by_scan strict tries) (cleared_chunk s))
  both = sim_refold n s ok (fold_all (by_scan strict tries) s).constants (more_all (by_scan strict tries) s) near strict tries x few
      (le_refl (fold_all (by_scan strict tries) s).constants)

  pub refold : Alike (fold_all (by_scan strict tries) s).constants (fold_all (by_scan strict tries) s) (fold_all (by_scan strict tries) (cleared_chunk s))
  refold = both.alike

  -- and the cleared chunk ends with no more constants
  pub refold_fewer : (fold_all (by_scan strict tries) (cleared_chunk s)).constants ≤ (fold_all (by_scan strict tries) s).constants
  refold_fewer = fewer both.pools
