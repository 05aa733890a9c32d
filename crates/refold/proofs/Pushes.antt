-- The pass over a chunk only pushes: `all_pushed`. Assumes nothing.
use Prim.Native.Nat.{ℕ, zero, suc, ◌+◌, ◌≤◌, ◌<◌}
use native.Mathlib.Nat.{eq-or-lt_of_le}
use native.Mathlib.Omega.{arith}
use native.Mathlib.Numerals.{add-one}
use mathlib.Core.Path.{◌≡◌, refl, ◌∙◌}
use mathlib.Core.Logic.{◌⊎◌, inl, inr, ⊎_elim}
use mathlib.Core.Bool.{Bool, true, false, cond, not, ◌&&◌, ◌||◌}
use mathlib.Core.List.{List, [], ◌∷◌}
use lib.Dec.{eqb, leb, ltb}
use lib.ListN.{length, get_or, set, length-set}
use lib.Seq.{get_or-set_other}
use lib.Ieee.{binary64, to_bits}
use mir.Syntax.{w64}
use mir.Val.{of_z}
use Rattle.ops.specs.Op.{LoadConst, LoadTrue, LoadFalse}
use Rattle.chunk.specs.Tables.{constant_kept, within, constants_kept}
use Rattle.chunk.specs.Check.{constant_room}
use Rattle.chunk.specs.Chunk.{chunk_count, op_at, folds}
use Rattle.laws.proofs.Counting.{every_at}
use Rattle.clear.proofs.Twice.{every_of}
use Rattle.laws.specs.All.{every, many}
use Rattle.laws.proofs.Branch.{and-true}
use borrow.Author.Tests.{le-leb}
use Rattle.fold.proofs.Put.{put_long}
use Rattle.fold.proofs.Grown.{Held, held_none, held_more}
use Rattle.values.specs.declared.Val.{Val}
use Rattle.values.specs.declared.Val.TheVariants.{Int, Float as Real, Bool as Truth}
use Rattle.pool.specs.Pool.{Stored, stored, position, find_or_push, find_or_push_const}
use Rattle.fold.specs.Plan.{Chunk, chunk, plan_at}
use Rattle.fold.specs.Pass.{load_of, const_load, put, landed, applied, try_fold, Bars, folded, fold_all}
use Rattle.fold.specs.Inner.{PassRoom}
use Rattle.refold.specs.Inner.{Pushed}
use Rattle.std.specs.declared.option.Option.{Option}
use Rattle.std.specs.declared.option.Option.TheVariants.{Some, None}
use Rattle.fold.specs.declared.Plan.{Plan}
use Rattle.fold.specs.Plan.{to_put}

idle : (s : Chunk) (code dead : List ℕ) → length code ≡ length s.code → length dead ≡ length s.dead
    → Pushed s (chunk code dead s.kinds s.words s.constants)
idle s code dead lc ld =
    record {
      code_long = lc;
      dead_long = ld;
      kinds_long = refl;
      words_long = refl;
      more = omega arith;
      kinds_below = λ i h. refl;
      words_below = λ i h. refl;
      kinds_past = λ i h. refl;
      words_past = λ i h. refl;
      rule = λ h. h;
    }

same : (s : Chunk) → Pushed s s
same s = idle s s.code s.dead refl refl

both : {s t u : Chunk} → Pushed s t → Pushed t u → Pushed s u
both {s} {t} {u} p q =
    record {
      code_long = q.code_long ∙ p.code_long;
      dead_long = q.dead_long ∙ p.dead_long;
      kinds_long = q.kinds_long ∙ p.kinds_long;
      words_long = q.words_long ∙ p.words_long;
      more = omega (arith, p.more, q.more);
      kinds_below = λ i h. q.kinds_below i (omega (arith, p.more)) ∙ p.kinds_below i h;
      words_below = λ i h. q.words_below i (omega (arith, p.more)) ∙ p.words_below i h;
      kinds_past = λ i h. q.kinds_past i h ∙ p.kinds_past i (omega (arith, q.more));
      words_past = λ i h. q.words_past i h ∙ p.words_past i (omega (arith, q.more));
      rule = λ h. q.rule (p.rule h);
    }

-- ---- a push

-- what stands at a place that was set: k, or 0 where there is no such place
set_here : (l : List ℕ) (n k : ℕ) → (get_or (set l n k) n 0 ≡ k) ⊎ (get_or (set l n k) n 0 ≡ 0)
set_here [] n k = inr refl
set_here (x ∷ xs) zero k = inl refl
set_here (x ∷ xs) (suc n) k = set_here xs n k

-- an int or a float keeps the table rule, whatever its word
abbrev Fine : ℕ → Type 0
Fine k = (x : ℕ) → leb k 3 && (not (eqb k 3) || leb x 1) ≡ true

below_suc : (i n : ℕ) → i < n + 1 → i ≤ n
below_suc i n h = omega arith

module _ (s : Chunk) (code dead : List ℕ) (lc : length code ≡ length s.code) (ld : length dead ≡ length s.dead) (k w : ℕ) (f : Fine k) where
  abbrev n : ℕ
  n = s.constants

  other : (l : List ℕ) (v i : ℕ) → (i ≡ n → ⊥) → get_or (set l n v) i 0 ≡ get_or l i 0
  other l v i h = get_or-set_other l n i v 0 (λ e. h (omega arith))

  here : constant_kept (set s.kinds n k) (set s.words n w) n ≡ true
  here = ⊎_elim (λ e. rw e (f (get_or (set s.words n w) n 0))) (λ e. rw e refl) (set_here s.kinds n k)

  pushed : Pushed s (chunk code dead (set s.kinds n k) (set s.words n w) (n + 1))
  pushed =
      record {
        code_long = lc;
        dead_long = ld;
        kinds_long = length-set s.kinds n k;
        words_long = length-set s.words n w;
        more = omega arith;
        kinds_below = λ i h. other s.kinds k i (λ e. omega arith);
        words_below = λ i h. other s.words w i (λ e. omega arith);
        kinds_past = λ i h. other s.kinds k i (λ e. omega arith);
        words_past = λ i h. other s.words w i (λ e. omega arith);
        rule = λ h i l.
            ⊎_elim (λ e. rw e here) (λ q. rw (other s.kinds k i (λ e. omega arith), other s.words w i (λ e. omega arith)) (h i q))
            (eq-or-lt_of_le (below_suc i n l));
      }

-- ---- one attempt

module _ (p q i : ℕ) (s : Chunk) where
  abbrev settled : Stored → Chunk
  settled r = landed (load_of r.kept) r.kinds r.words p q i s

  pool : (k w : ℕ) → Fine k → Pushed s (settled (find_or_push s.kinds s.words s.constants k w))
  unfolding find_or_push landed
  pool k w f = go (ltb (position s.kinds s.words s.constants k w) s.constants) (ltb s.constants 65535)
    where
      m : ℕ
      m = s.constants

      go : (a b : Bool)
          → Pushed s
          (settled
          (cond a (stored (Some (position s.kinds s.words m k w, m)) s.kinds s.words)
          (cond b (stored (Some (m, m + 1)) (set s.kinds m k) (set s.words m w)) (stored None s.kinds s.words))))
      go true b = idle s (put s.code p LoadConst (position s.kinds s.words m k w)) (set (set s.dead q 1) i 1)
          (put_long s.code p LoadConst (position s.kinds s.words m k w)) (length-set (set s.dead q 1) i 1 ∙ length-set s.dead q 1)
      go false true = pushed s (put s.code p LoadConst m) (set (set s.dead q 1) i 1) (put_long s.code p LoadConst m)
          (length-set (set s.dead q 1) i 1 ∙ length-set s.dead q 1) k w f
      go false false = same s

  put_pushed : (v : Val) → Pushed s (applied (to_put p q v) i s)
  unfolding applied landed const_load find_or_push_const
  put_pushed (Int x) = pool 1 (of_z w64 x) (λ y. refl)
  put_pushed (Real x) = pool 2 (to_bits binary64 x) (λ y. refl)
  put_pushed (Truth true) = idle s (put s.code p LoadTrue 0) (set (set s.dead q 1) i 1) (put_long s.code p LoadTrue 0)
      (length-set (set s.dead q 1) i 1 ∙ length-set s.dead q 1)
  put_pushed (Truth false) = idle s (put s.code p LoadFalse 0) (set (set s.dead q 1) i 1) (put_long s.code p LoadFalse 0)
      (length-set (set s.dead q 1) i 1 ∙ length-set s.dead q 1)

by_plan : (plan : Option Plan) (i : ℕ) (s : Chunk) → Pushed s (applied plan i s)
unfolding applied
by_plan None i s = same s
by_plan (Some f) i s = put_pushed f.at f.dies i s f.value

try_pushed : (bars : ℕ → Bool) (i : ℕ) (s : Chunk) → Pushed s (try_fold bars i s)
unfolding try_fold
try_pushed bars i s = go (eqb (get_or s.dead i 0) 0)
  where
    go : (t : Bool) → Pushed s (cond t (applied (plan_at bars i s) i s) s)
    go true = by_plan (plan_at bars i s) i s
    go false = same s

-- ---- the pass

module _ (bars : Bars) (s : Chunk) where
  pub some_pushed : (k : ℕ) → Pushed s (folded bars k s)
  unfolding folded
  some_pushed zero = same s
  some_pushed (suc k) = both (some_pushed k) (try_pushed (bars (folded bars k s).code k) k (folded bars k s))

  pub all_pushed : Pushed s (fold_all bars s)
  unfolding fold_all
  all_pushed = some_pushed (chunk_count s.code)

-- ---- and its table rule holds again

module _ (bars : Bars) (s : Chunk) where
  folded_next : (k : ℕ) → folded bars (suc k) s ≡ try_fold (bars (folded bars k s).code k) k (folded bars k s)
  unfolding folded
  folded_next k = refl

  folded_none : folded bars 0 s ≡ s
  unfolding folded
  folded_none = refl

  held_at : PassRoom s → (k : ℕ) → k ≤ chunk_count s.code → Held bars s (folded bars k s) k
  held_at x zero h = rw folded_none (held_none bars s)
  held_at x (suc k) h =
      let g = held_at x k (omega arith) in
      let l = try_pushed (bars (folded bars k s).code k) k (folded bars k s) in
      let z = held_more g refl h x (try_fold (bars (folded bars k s).code k) k (folded bars k s)) refl l.code_long l.dead_long l.kinds_long
      l.words_long in
      rw (folded_next k) (rw (add-one k) at z)

  pub all_held : PassRoom s → (fold_all bars s).constants ≤ constant_room s.constants (many (λ k. folds (op_at s.code k)) (chunk_count s.code))
  unfolding fold_all
  all_held x = (held_at x (chunk_count s.code) (omega arith)).few

  -- a pool that keeps the table rule keeps it after the pass: test 7 finds nothing new in table 1
  pub pool_again : PassRoom s → constants_kept s.kinds s.words s.constants ≡ true
      → constants_kept (fold_all bars s).kinds (fold_all bars s).words (fold_all bars s).constants ≡ true
  pool_again x e =
      let t = fold_all bars s in
      let p = all_pushed bars s in
      let h = all_held x in
      let r = (and-true (within s.constants (length s.kinds) (length s.words)) (every (constant_kept s.kinds s.words) s.constants) e).1 in
      rw (
        le-leb t.constants 65536 (omega (arith, x.few)),
        le-leb t.constants (length t.kinds) (omega (arith, p.kinds_long, x.kinds_room)),
        le-leb t.constants (length t.words) (omega (arith, p.words_long, x.words_room)),
        every_of (constant_kept t.kinds t.words) t.constants (p.rule (λ i l. every_at (constant_kept s.kinds s.words) s.constants i r l)),
      )
