-- Survivors keep their origins, in order, through a fold, and whatever carries them on. Assumes nothing.
use Prim.Native.Nat.{ℕ, zero, suc, ◌+◌, ◌*◌, ◌≤◌, ◌<◌}
use native.Mathlib.Omega.{arith}
use mathlib.Core.Path.{◌≡◌, refl, sym, ap, ◌∙◌, subst}
use mathlib.Core.Bool.{Bool, true, false, cond}
use mathlib.Core.List.{List}
use lib.Dec.{ltb}
use lib.ListN.{length, get_or, take}
use lib.Seq.{get_or-take}
use borrow.Author.Tests.{eqb-true, eq-eqb, ltb-true, ltb-false}
use Rattle.laws.specs.All.{every}
use Rattle.std.specs.declared.result.Result.TheVariants.{Ok}
use Rattle.chunk.specs.Chunk.{stride, chunk_count, origin_at}
use Rattle.chunk.specs.declared.Counts.{Counts}
use Rattle.laws.proofs.Counting.{many_le, many_all, every_le}
use Rattle.fold.specs.Plan.{Chunk, plan_at}
use Rattle.fold.specs.Pass.{const_load, landed, applied, try_fold, Bars, by_scan, folded, fold_all}
use Rattle.fold.proofs.Put.{put_origin}
use Rattle.positions.specs.Remap.{alive, live}
use Rattle.compact.proofs.Left.{live_less, from, origin_left}
use Rattle.phi_pass.specs.Phi.{marked}
use Rattle.phi_pass.proofs.Pairs.{marked_length}
use Rattle.finish.specs.Finish.{Tables, tables, map_of, sources_of, renewed, finished}
use Rattle.optimizer.specs.Fold.{constant_fold, joined_buffers}
use Rattle.optimizer.specs.declared.Folded.{Folded}
use Rattle.refold.specs.Lending.{Lending, ready_for}
use Rattle.refold.specs.Inner.{Folds}
use Rattle.refold.specs.Origins.{Survive, OriginsLeft, Carried}
use Rattle.refold.proofs.Lends.{o, clean, end, before, after, all_left, end_is, marks, end_marks, by_call}
use Rattle.refold.proofs.Lands.{front}
use Rattle.std.specs.declared.option.Option.{Option}
use Rattle.std.specs.declared.option.Option.TheVariants.{Some, None}
use Rattle.fold.specs.declared.Plan.{Plan}
use Rattle.fold.specs.declared.Load.{Load}
use Rattle.fold.specs.Plan.{to_put}
use Rattle.fold.specs.Pass.{to_load}

-- ---- the pass changes no origin

module _ (k : ℕ) where
  landed_origin : (a : Option Load) (kinds words : List ℕ) (p q i : ℕ) (s : Chunk) → origin_at (landed a kinds words p q i s).code k ≡ origin_at s.code k
  unfolding landed
  landed_origin (Some l) kinds words p q i s = put_origin s.code p l.opcode l.operand k
  landed_origin None kinds words p q i s = refl

  applied_origin : (plan : Option Plan) (i : ℕ) (s : Chunk) → origin_at (applied plan i s).code k ≡ origin_at s.code k
  unfolding applied
  applied_origin None i s = refl
  applied_origin (Some f) i s =
      let r = const_load f.value s.kinds s.words s.constants in
      landed_origin r.load r.kinds r.words f.at f.dies i s

  try_origin : (bars : ℕ → Bool) (i : ℕ) (s : Chunk) → origin_at (try_fold bars i s).code k ≡ origin_at s.code k
  unfolding try_fold
  try_origin bars i s = go (alive s.dead i)
    where
      go : (t : Bool) → origin_at (cond t (applied (plan_at bars i s) i s) s).code k ≡ origin_at s.code k
      go true = applied_origin (plan_at bars i s) i s
      go false = refl

  some_origin : (bars : Bars) (s : Chunk) (n : ℕ) → origin_at (folded bars n s).code k ≡ origin_at s.code k
  unfolding folded
  some_origin bars s zero = refl
  some_origin bars s (suc n) = try_origin (bars (folded bars n s).code n) n (folded bars n s) ∙ some_origin bars s n

  pub pass_origin : (bars : Bars) (s : Chunk) → origin_at (fold_all bars s).code k ≡ origin_at s.code k
  unfolding fold_all
  pass_origin bars s = some_origin bars s (chunk_count s.code)

-- ---- the Phi pass and compaction

module _ (t : Tables) (all : t.left.instructions ≡ length t.dead) where
  abbrev d : List ℕ
  d = marked t.code (map_of t) (sources_of t) t.dead

  abbrev m : Tables
  m = tables t.code t.map t.sources t.stmts t.calls d t.remap t.left

  d_long : length d ≡ length t.dead
  d_long = marked_length t.code (map_of t) (sources_of t) t.dead

  -- where nothing died, each stands where it stood
  stays : every (alive d) (length d) ≡ true → (k : ℕ) → k ≤ length d → live d k ≡ k
  stays e k h = many_all (alive d) k (every_le (alive d) k (length d) h e)

  finished_origin : (k : ℕ) → k < length d → alive d k ≡ true → origin_at (finished t).code (live d k) ≡ origin_at t.code k
  unfolding finished renewed
  finished_origin k h a = go (every (alive d) (length d)) refl
    where
      go : (u : Bool) → every (alive d) (length d) ≡ u → origin_at (cond u m (renewed m)).code (live d k) ≡ origin_at t.code k
      go true e = ap (origin_at t.code) (stays e k (omega arith))
      go false e = origin_left d t.code k h (eqb-true (get_or d k 0) 0 a)

  finished_count : (finished t).left.instructions ≡ live d (length d)
  unfolding finished renewed
  finished_count = go (every (alive d) (length d)) refl
    where
      go : (u : Bool) → every (alive d) (length d) ≡ u → (cond u m (renewed m)).left.instructions ≡ live d (length d)
      go true e = all ∙ sym d_long ∙ sym (stays e (length d) (omega arith))
      go false e = refl

  finished_dead : (finished t).dead ≡ d
  unfolding finished renewed
  finished_dead = go (every (alive d) (length d))
    where
      go : (u : Bool) → (cond u m (renewed m)).dead ≡ d
      go true = refl
      go false = refl

  survive : (w : List ℕ) → chunk_count w ≡ length t.dead → ((k : ℕ) → origin_at t.code k ≡ origin_at w k)
      → Survive (finished t).dead w (finished t).code (finished t).left.instructions
  survive w c o =
      subst (λ (x : List ℕ). Survive x w (finished t).code (finished t).left.instructions) (sym finished_dead)
      (record {
        kept = λ k h a. finished_origin k (omega (arith, d_long)) a ∙ o k;
        order = λ j k h a. live_less d k j h (eqb-true (get_or d j 0) 0 a);
        onto = λ i h.
            let f = from d (length d) i (rw finished_count at h) in
            (f.place, omega (arith, f.below, d_long), eq-eqb (get_or d f.place 0) 0 f.lives, f.is);
      })

-- ---- the call

module _ (strict : Bool) (l : Lending) (c : Counts) where
  module _ (n : ℕ) (q : ready_for l c ≡ Ok n) where
    end_origin : (k : ℕ) → origin_at (end strict l c).code k ≡ origin_at l.buffers.code k
    end_origin k = ap (λ (s : Chunk). origin_at s.code k) (end_is strict l c) ∙ pass_origin k (by_scan strict l.tries) (clean strict l c)

    left : OriginsLeft l.buffers (o strict l c).answer (all_left strict l c).buffers
    unfolding constant_fold joined_buffers
    left =
        subst (λ (x : List ℕ). Survive x l.buffers.code (after strict l c).code (after strict l c).left.instructions) (sym (front strict l c n q))
        (survive (before strict l c) (marks strict l c n q ∙ sym (end_marks strict l c n q)) l.buffers.code (sym (end_marks strict l c n q)) end_origin)

  -- an answered fold: the origins of what is left
  pub origins_after : (f : Folded) (a : Lending) → Folds strict l c f a → OriginsLeft l.buffers f a.buffers
  origins_after = by_call strict l c (λ f a. OriginsLeft l.buffers f a.buffers) left

-- ---- one after the other

pub carried_fold : (dead w v : List ℕ) (m : ℕ) → Survive dead w v m → Carried (chunk_count w) w m v
carried_fold dead w v m s =
    record {
      place = λ k h. (s.onto k h).0;
      there = λ k h. (s.onto k h).1;
      order = λ j k h i l. ordered j k (s.onto j h) (s.onto k i) l;
      origin = λ k h. let p = s.onto k h in ap (origin_at v) (sym p.3) ∙ s.kept p.0 p.1 p.2;
    }
  where
    ordered : (j k : ℕ) (x : (i : ℕ) × (i < chunk_count w) × (alive dead i ≡ true) × (live dead i ≡ j))
        (y : (i : ℕ) × (i < chunk_count w) × (alive dead i ≡ true) × (live dead i ≡ k)) → j < k → x.0 < y.0
    ordered j k x y l = go (ltb x.0 y.0) refl
      where
        go : (t : Bool) → ltb x.0 y.0 ≡ t → x.0 < y.0
        go true e = ltb-true x.0 y.0 e
        go false e = absurd (omega (arith, many_le (alive dead) y.0 x.0 (ltb-false x.0 y.0 e), x.3, y.3))

-- no instruction moved, and no origin changed
pub carried_same : (n : ℕ) (w v : List ℕ) → ((k : ℕ) → k < n → origin_at v k ≡ origin_at w k) → Carried n w n v
carried_same n w v e = record { place = λ k h. k; there = λ k h. h; order = λ j k h i l. l; origin = e }

pub carried_cut : (w : List ℕ) (n : ℕ) → Carried n w n (take (stride * n) w)
carried_cut w n = carried_same n w (take (stride * n) w) (λ k h. get_or-take (stride * n) w (stride * k + 3) 0 (omega arith))

pub carried_on : {n m r : ℕ} {w v u : List ℕ} → Carried n w m v → Carried m v r u → Carried n w r u
carried_on x y =
    record {
      place = λ k h. x.place (y.place k h) (y.there k h);
      there = λ k h. x.there (y.place k h) (y.there k h);
      order = λ j k h i l. x.order (y.place j h) (y.place k i) (y.there j h) (y.there k i) (y.order j k h i l);
      origin = λ k h. y.origin k h ∙ x.origin (y.place k h) (y.there k h);
    }
