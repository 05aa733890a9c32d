-- If nothing died, the code and the constants stay as lent too, and the dead marks are all 0. Assumes nothing.
use Prim.Native.Nat.{ℕ, ◌≤◌, ◌<◌}
use native.Mathlib.Omega.{arith}
use mathlib.Core.Path.{◌≡◌, refl, sym, ◌∙◌}
use mathlib.Core.Logic.{⊎_elim}
use mathlib.Core.Bool.{Bool, true, false, cond}
use mathlib.Core.List.{List}
use lib.Dec.{ltb}
use lib.ListN.{length, get_or, replicate, length-replicate, get_or-replicate, get_or-eq_default}
use lib.Seq.{ext_get_or}
use borrow.Author.Tests.{eqb-true, ltb-true, ltb-false}
use Rattle.laws.specs.All.{every}
use Rattle.laws.proofs.Each.{each_at}
use Rattle.chunk.specs.Chunk.{chunk_count}
use Rattle.laws.proofs.Counting.{every_at}
use Rattle.chunk.specs.declared.Counts.{Counts}
use Rattle.positions.specs.Remap.{alive}
use Rattle.phi_pass.specs.Phi.{phi_mark_at, marked}
use Rattle.phi_pass.proofs.Pairs.{marked_length, dead_stays}
use Rattle.fold.specs.Plan.{chunk}
use Rattle.fold.specs.Pass.{Bars}
use Rattle.finish.specs.Finish.{Tables, tables, map_of, sources_of, renewed, finished}
use Rattle.optimizer.specs.Fold.{Buffers, buffers, fold_outcome, fold_pass, constant_fold}
use Rattle.optimizer.proofs.Whole.{pass_kept}

-- marks that are all alive are 0
all_zero : (d : List ℕ) (n : ℕ) → length d ≡ n → every (alive d) (length d) ≡ true → d ≡ replicate n 0
all_zero d n l e =
    ext_get_or 0 d (replicate n 0) (l ∙ sym (length-replicate n 0))
    (λ i h. eqb-true (get_or d i 0) 0 (every_at (alive d) (length d) i e h) ∙ sym (get_or-replicate n i 0 0 (rw l at h)))

-- a mark of 1 is one of them
in_list : (l : List ℕ) (k : ℕ) → get_or l k 0 ≡ 1 → k < length l
in_list l k e = go (ltb k (length l)) refl
  where
    go : (t : Bool) → ltb k (length l) ≡ t → k < length l
    go true q = ltb-true k (length l) q
    go false q = let z : get_or l k 0 ≡ 0 = get_or-eq_default l 0 (ltb-false k (length l) q) in absurd (omega arith)

module _ (t : Tables) where
  pub finished_dead : (finished t).dead ≡ marked t.code (map_of t) (sources_of t) t.dead
  unfolding finished renewed
  finished_dead = go (every (alive (marked t.code (map_of t) (sources_of t) t.dead)) (length (marked t.code (map_of t) (sources_of t) t.dead)))
    where
      d : List ℕ
      d = marked t.code (map_of t) (sources_of t) t.dead

      m : Tables
      m = tables t.code t.map t.sources t.stmts t.calls d t.remap t.left

      go : (u : Bool) → (cond u m (renewed m)).dead ≡ d
      go true = refl
      go false = refl

  finished_idle : every (alive (marked t.code (map_of t) (sources_of t) t.dead)) (length (marked t.code (map_of t) (sources_of t) t.dead)) ≡ true
      → finished t ≡ tables t.code t.map t.sources t.stmts t.calls (marked t.code (map_of t) (sources_of t) t.dead) t.remap t.left
  unfolding finished
  finished_idle e = rw e

  -- then no mark was 1 before
  none_one : every (alive (marked t.code (map_of t) (sources_of t) t.dead)) (length (marked t.code (map_of t) (sources_of t) t.dead)) ≡ true
      → (k : ℕ) → get_or t.dead k 0 ≡ 1 → ⊥
  unfolding marked
  none_one e k o =
      let d = marked t.code (map_of t) (sources_of t) t.dead in
      let l : length d ≡ length t.dead = marked_length t.code (map_of t) (sources_of t) t.dead in
      let h : k < length t.dead = in_list t.dead k o in
      let z : get_or d k 0 ≡ 0 = eqb-true (get_or d k 0) 0 (every_at (alive d) (length d) k e (rw l h)) in
      let y : get_or d k 0 ≡ phi_mark_at t.code (map_of t) (sources_of t) t.dead k = each_at (phi_mark_at t.code (map_of t) (sources_of t) t.dead)
      (length t.dead) k h in
      let x : get_or t.dead k 0 ≡ phi_mark_at t.code (map_of t) (sources_of t) t.dead k = dead_stays t.code (map_of t) (sources_of t) k t.dead
      (λ q. let b : ◌≡◌ {A = ℕ} 1 0 = sym o ∙ q in omega arith) in
      let w : ◌≡◌ {A = ℕ} 1 0 = sym o ∙ x ∙ sym y ∙ z in
      omega arith

module _ (bars : Bars) (b : Buffers) (c : Counts) (h : chunk_count b.code ≤ length b.dead) where
  pub as_lent_lem : every (alive (constant_fold bars b c).after.dead) (length (constant_fold bars b c).after.dead) ≡ true
      → constant_fold bars b c
      ≡ fold_outcome (record { instructions = length b.dead; constants = c.constants; map = c.map; sources = c.sources })
      (buffers b.code b.kinds b.words b.map b.sources b.stmts b.calls (replicate (length b.dead) 0) b.remap)
  unfolding constant_fold
  as_lent_lem e =
      let s = chunk b.code b.dead b.kinds b.words c.constants in
      let f = fold_pass bars s in
      let t = tables f.code b.map b.sources b.stmts b.calls f.dead b.remap
      (record { instructions = length b.dead; map = c.map; sources = c.sources }) in
      let d = marked t.code (map_of t) (sources_of t) t.dead in
      let p = pass_kept bars s f h refl in
      let z : every (alive d) (length d) ≡ true = rw (finished_dead t) at e in
      let q : f ≡ chunk b.code (replicate (length b.dead) 0) b.kinds b.words c.constants = ⊎_elim (λ i. i)
      (λ i. absurd (none_one t z i.place i.mark)) p.idle in
      let l : length d ≡ length b.dead = marked_length t.code (map_of t) (sources_of t) t.dead ∙ p.dead_long ∙ length-replicate (length b.dead) 0 in
      rw (finished_idle t z, all_zero d (length b.dead) l z, q)
