-- After an answer the table of landings is true and 0 past the new end, and the tries keep their rule. Assumes nothing.
use Prim.Native.Nat.{ℕ, ◌+◌, ◌*◌, ◌/◌, ◌≤◌, ◌<◌, min}
use native.Mathlib.Omega.{arith}
use mathlib.Core.Path.{◌≡◌, refl, sym, ap, ◌∙◌}
use mathlib.Core.Bool.{Bool, true, false, cond, ◌&&◌}
use mathlib.Core.List.{List}
use lib.Dec.{ltb, leb, eqb}
use lib.ListN.{length, get_or, drop, length-replicate, get_or-append}
use lib.Seq.{length-take-le}
use borrow.Author.Tests.{ltb-true, ltb-false, leb-true, le-leb, ne_eqb}
use Rattle.laws.specs.All.{every}
use Rattle.laws.proofs.Branch.{and-true}
use Rattle.refusals.specs.Stages.{try_kept, pairs}
use Rattle.chunk.specs.Chunk.{stride, chunk_count, mark_at, operand_at, marks_jump}
use Rattle.chunk.specs.declared.Counts.{Counts}
use Rattle.laws.proofs.Counting.{many_none, many_all}
use Rattle.landings.specs.Landings.{handler_at, jump_lands, handler_lands, landings_at, landings_of}
use Rattle.landings.proofs.Asked.{table_long, table_at}
use Rattle.fold.specs.Plan.{chunk}
use Rattle.fold.specs.Pass.{Bars, by_scan}
use Rattle.positions.specs.Remap.{alive, live, mapped}
use Rattle.compact.specs.Tables.{moved_operand, compacted}
use Rattle.positions.specs.Moved.{moved_all}
use Rattle.compact.proofs.Left.{from, mark_left, operand_left, mark_past}
use Rattle.positions.proofs.Mapped.{map_out, pair_kept, moved_long, moved_at}
use Rattle.phi_pass.specs.Phi.{marked}
use Rattle.phi_pass.proofs.Pairs.{marked_length}
use Rattle.finish.specs.Finish.{Tables, tables, map_of, sources_of, renewed, finished}
use Rattle.std.specs.declared.result.Result.TheVariants.{Ok}
use Rattle.optimizer.specs.Fold.{Buffers, needed, fold_pass, constant_fold, joined_buffers, fold_lent, Called, rejoined, fold_call}
use Rattle.optimizer.specs.Inner.{Exact}
use Rattle.optimizer.specs.declared.Folded.{Folded}
use Rattle.optimizer.proofs.Again.{fold_keeps}
use Rattle.optimizer.proofs.Answered.{Answered, answered}
use Rattle.optimizer.proofs.Idle.{finished_dead}
use Rattle.optimizer.proofs.Whole.{pass_kept}

-- ---- compaction

module _ (dead w tries : List ℕ) (t : ℕ) (a : live dead (length dead) < t) (b : t ≤ length dead) where
  no_jump : (k : ℕ) → jump_lands (compacted dead w) t k ≡ false
  unfolding moved_operand
  no_jump k = go (ltb k (live dead (length dead))) refl
    where
      go : (s : Bool) → ltb k (live dead (length dead)) ≡ s → jump_lands (compacted dead w) t k ≡ false
      go true e =
          let f = from dead (length dead) k (ltb-true k (live dead (length dead)) e) in
          let m : mark_at (compacted dead w) (live dead f.place) ≡ mark_at w f.place = mark_left dead w f.place f.below f.lives in
          let o : operand_at (compacted dead w) (live dead f.place) ≡ moved_operand dead w f.place = operand_left dead w f.place f.below f.lives in
          rw (← f.is, m, o) (at f.place)
        where
          at : (j : ℕ) → marks_jump w j && eqb (moved_operand dead w j) t ≡ false
          at j = by (marks_jump w j)
            where
              by : (y : Bool) → y && eqb (cond y (mapped dead (operand_at w j)) (operand_at w j)) t ≡ false
              by true = ne_eqb (mapped dead (operand_at w j)) t (map_out dead (operand_at w j) t a b)
              by false = refl
      go false e = rw (mark_past dead w k (ltb-false k (live dead (length dead)) e)) refl

  no_handler : (j : ℕ) → j < length tries / 2 → handler_lands (moved_all dead tries) t j ≡ false
  no_handler j h = rw (moved_at dead tries (2 * j + 1) (omega arith)) (ne_eqb (mapped dead (handler_at tries j)) t (map_out dead (handler_at tries j) t a b))

  -- nothing lands between the new end and the old one
  none_past : landings_at (compacted dead w) (moved_all dead tries) t ≡ 0
  unfolding landings_at
  none_past =
      rw (
        many_none (jump_lands (compacted dead w) t) (chunk_count (compacted dead w)) (λ k h. no_jump k),
        moved_long dead tries,
        many_none (handler_lands (moved_all dead tries) t) (length tries / 2) no_handler,
      ) refl

-- ---- after the Phi pass

module _ (t : Tables) where
  abbrev after : List ℕ
  after = (finished t).dead

  finished_left : t.left.instructions ≡ length t.dead → (finished t).left.instructions ≡ live after (length after)
  unfolding finished renewed
  finished_left e = go (every (alive d) (length d)) refl
    where
      d : List ℕ
      d = marked t.code (map_of t) (sources_of t) t.dead

      m : Tables
      m = tables t.code t.map t.sources t.stmts t.calls d t.remap t.left

      go : (u : Bool) → every (alive d) (length d) ≡ u → (cond u m (renewed m)).left.instructions
          ≡ live (cond u m (renewed m)).dead (length (cond u m (renewed m)).dead)
      go true q = e ∙ sym (marked_length t.code (map_of t) (sources_of t) t.dead) ∙ sym (many_all (alive d) (length d) q)
      go false q = refl

  finished_past : (tries : List ℕ) (k : ℕ) → live after (length after) < k → k ≤ length after → landings_at (finished t).code (moved_all after tries) k ≡ 0
  unfolding finished renewed
  finished_past tries k = go (every (alive d) (length d)) refl
    where
      d : List ℕ
      d = marked t.code (map_of t) (sources_of t) t.dead

      m : Tables
      m = tables t.code t.map t.sources t.stmts t.calls d t.remap t.left

      go : (u : Bool) → every (alive d) (length d) ≡ u → live (cond u m (renewed m)).dead (length (cond u m (renewed m)).dead) < k
          → k ≤ length (cond u m (renewed m)).dead → landings_at (cond u m (renewed m)).code (moved_all (cond u m (renewed m)).dead tries) k ≡ 0
      go true q a b = absurd (omega (arith, many_all (alive d) (length d) q))
      go false q a b = none_past d t.code tries k a b

-- ---- of the exact fold

module _ (bars : Bars) (b : Buffers) (c : Counts) (x : Exact b c) where
  abbrev marks : List ℕ
  marks = (constant_fold bars b c).after.dead

  fold_long : length marks ≡ length b.dead
  unfolding constant_fold
  fold_long =
      let s = chunk b.code b.dead b.kinds b.words c.constants in
      let f = fold_pass bars s in
      let t = tables f.code b.map b.sources b.stmts b.calls f.dead b.remap
      (record { instructions = length b.dead; map = c.map; sources = c.sources }) in
      ap length (finished_dead t) ∙ marked_length t.code (map_of t) (sources_of t) t.dead ∙ (pass_kept bars s f (omega (arith, x.whole)) refl).dead_long
      ∙ length-replicate (length b.dead) 0

  fold_left : (constant_fold bars b c).answer.instructions ≡ live marks (length marks)
  unfolding constant_fold
  fold_left =
      let s = chunk b.code b.dead b.kinds b.words c.constants in
      finished_left _ (sym ((pass_kept bars s (fold_pass bars s) (omega (arith, x.whole)) refl).dead_long ∙ length-replicate (length b.dead) 0))

  fold_past : (tries : List ℕ) (k : ℕ) → live marks (length marks) < k → k ≤ length marks
      → landings_at (constant_fold bars b c).after.code (moved_all marks tries) k ≡ 0
  unfolding constant_fold
  fold_past tries k = finished_past _ tries k

-- ---- of the call

module _ (strict : Bool) (b : Buffers) (tries landings : List ℕ) (c : Counts) (f : Folded) (e : (fold_call strict b tries landings c).result.answer ≡ Ok f) where
  abbrev call : Called
  call = fold_call strict b tries landings c

  told : Answered strict b tries landings c f
  told = answered strict b tries landings c f e

  abbrev bars : Bars
  bars = by_scan strict tries

  abbrev w : List ℕ
  w = (constant_fold bars (needed b c) c).after.code

  abbrev d : List ℕ
  d = (constant_fold bars (needed b c) c).after.dead

  n_long : length d ≡ chunk_count b.code
  n_long = fold_long bars (needed b c) c told.exact ∙ length-take-le (chunk_count b.code) b.dead told.held.dead

  n_left : f.instructions ≡ live d (length d)
  n_left = ap (λ (g : Folded). g.instructions) (sym told.counts) ∙ fold_left bars (needed b c) c told.exact

  n_code : chunk_count w ≡ chunk_count b.code
  n_code =
      let l = length-take-le (chunk_count b.code) b.dead told.held.dead in
      ap (λ (m : ℕ). m / stride) (fold_keeps bars (needed b c) c (omega arith) (omega (arith, told.held.whole))).long

  -- entry k counts what lands on k in the chunk that is left
  pub table_after : (k : ℕ) → k ≤ chunk_count b.code → get_or call.landings k 0 ≡ landings_at call.result.after.code call.tries k
  unfolding rejoined joined_buffers fold_lent
  table_after k h =
      rw told.is
      (get_or-append (landings_of w (moved_all d tries)) (drop (chunk_count b.code + 1) landings) 0 k
      (omega (arith, n_code, table_long w (moved_all d tries)))
      ∙ table_at w (moved_all d tries) k (omega (arith, n_code)))

  -- past the new end it is 0
  pub past_none : (k : ℕ) → f.instructions < k → k ≤ chunk_count b.code → get_or call.landings k 0 ≡ 0
  unfolding rejoined joined_buffers fold_lent
  past_none k a h = table_after k h ∙ rw told.is (fold_past bars (needed b c) c told.exact tries k (omega (arith, n_left)) (omega (arith, n_long)))

  -- each try keeps its rule in the chunk that is left, so it can be lent again
  pub tries_kept : (j : ℕ) → j < pairs tries → try_kept call.tries f.instructions j ≡ true
  unfolding try_kept rejoined fold_lent
  tries_kept j h =
      let p = and-true (ltb (2 * j + 1) (length tries)) (leb (get_or tries (2 * j) 0) (min (get_or tries (2 * j + 1) 0) (chunk_count b.code))) (told.tried j h)
      in
      let l = ltb-true (2 * j + 1) (length tries) p.0 in
      let m : get_or tries (2 * j) 0 ≤ min (get_or tries (2 * j + 1) 0) (length d) = rw n_long (leb-true _ _ p.1) in
      rw (
        told.is,
        n_left,
        moved_long d tries,
        moved_at d tries (2 * j) (omega arith),
        moved_at d tries (2 * j + 1) l,
        p.0,
        le-leb _ _ (pair_kept d (get_or tries (2 * j) 0) (get_or tries (2 * j + 1) 0) m),
      ) refl
