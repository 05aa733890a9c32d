-- Laws of `constant_fold`, `joined_buffers` and `fold_call`, from what the parts ensure. Assumes nothing.
use Prim.Native.Nat.{ℕ, ◌+◌, ◌^◌, ◌≤◌, ◌<◌}
use native.Mathlib.Omega.{arith}
use mathlib.Core.Path.{◌≡◌, refl, sym, ap, ◌∙◌, subst}
use mathlib.Core.Bool.{Bool, true, false, cond}
use mathlib.Core.List.{List, ◌++◌}
use lib.ListN.{length, take, drop, replicate, length-replicate}
use lib.Seq.{length-take-le}
use mir.Val.{bool_byte}
use Rattle.laws.specs.All.{every}
use Rattle.laws.proofs.Many.{many_few, many_fewer}
use Rattle.refusals.specs.declared.Refusal.{Refusal}
use Rattle.refusals.specs.Stages.{Checked}
use Rattle.std.specs.declared.result.Result.TheVariants.{Ok, Err}
use Rattle.refusals.proofs.Answers.{refused, told}
use Rattle.chunk.specs.Chunk.{chunk_count, is_phi}
use Rattle.chunk.specs.Check.{source_room, tally_of, ready_of}
use Rattle.chunk.specs.declared.Counts.{Counts}
use Rattle.chunk.specs.declared.Tally.{Tally}
use Rattle.fold.specs.Plan.{Chunk, chunk}
use Rattle.landings.specs.Landings.{landings_of, Unmarked}
use Rattle.fold.specs.Pass.{Bars, by_scan, by_table}
use Rattle.fold.specs.Inner.{PassRoom}
use Rattle.fold.proofs.Landed.{same_folds}
use Rattle.positions.specs.Remap.{alive}
use Rattle.positions.specs.Inner.{Remap}
use Rattle.positions.specs.Moved.{moved_all}
use Rattle.positions.proofs.Moves.{remap_of_lem}
use Rattle.positions.proofs.Mapped.{none_moved}
use Rattle.phi_pass.specs.Phi.{marked}
use Rattle.fold.proofs.Passed.{Passed, all_passed}
use Rattle.finish.specs.Finish.{Tables, tables, map_of, sources_of, renewed, finished}
use Rattle.finish.specs.Inner.{TableRoom}
use Rattle.optimizer.specs.Fold.{Buffers, buffers, lens_of, needed, sources_needed, fold_outcome, constant_fold, fold_pass, joined_buffers, settled, fold_lent}
use Rattle.optimizer.specs.Fold.{Called, called, rejoined, fold_call}
use Rattle.optimizer.specs.Inner.{FoldRoom, Exact, Mapped}
use Rattle.finish.specs.declared.Left.{Left}
use Rattle.optimizer.specs.declared.Folded.{Folded}

-- the pass
pub pass_kept : (bars : Bars) (s t : Chunk) → chunk_count s.code ≤ length s.dead → t ≡ fold_pass bars s
    → Passed (chunk s.code (replicate (length s.dead) 0) s.kinds s.words s.constants) t
unfolding fold_pass
pass_kept bars s t h e =
    let l : length {A = ℕ} (replicate (length s.dead) 0) ≡ length s.dead = length-replicate (length s.dead) 0 in
    rw e (all_passed bars (chunk s.code (replicate (length s.dead) 0) s.kinds s.words s.constants) (rw l h))

-- the words of phi_sources
pub few_phis : (w : List ℕ) (t : Tally) → t ≡ tally_of w → length w < 2 ^ 64 → t.phis < 2 ^ 63
unfolding tally_of
few_phis w t e h = rw e (omega (arith, many_few (is_phi w) (chunk_count w)))

pub room_of : (w : List ℕ) (t : Tally) (s r : ℕ) → t ≡ tally_of w → r ≡ source_room s t.phis → r ≡ source_room s (tally_of w).phis
room_of w t s r e f = f ∙ ap (λ (x : Tally). source_room s x.phis) e

module _ (code kinds words map sources stmts calls dead remap : List ℕ) (c : Counts) where
  -- folding has its room
  pub lent_of : Exact (buffers code kinds words map sources stmts calls dead remap) c → PassRoom (chunk code dead kinds words c.constants)
  lent_of x = let z = x.whole in record { few = x.constants; marks = omega arith; kinds_room = x.kinds; words_room = x.words }

  pub fit_of : (bars : Bars) (code' dead' kinds' words' : List ℕ) (k : ℕ) → Exact (buffers code kinds words map sources stmts calls dead remap) c
      → chunk code' dead' kinds' words' k ≡ fold_pass bars (chunk code dead kinds words c.constants)
      → TableRoom (tables code' map sources stmts calls dead' remap (record { instructions = length dead; map = c.map; sources = c.sources }))
  fit_of bars code' dead' kinds' words' k x e =
      let w = x.whole in
      let s = x.pairs in
      let p = pass_kept bars (chunk code dead kinds words c.constants) (chunk code' dead' kinds' words' k) (omega arith) e in
      let l : length dead' ≡ length dead = p.dead_long ∙ length-replicate (length dead) 0 in
      let q = many_fewer (is_phi code') (is_phi code) (λ j h. sym (p.phis j) ∙ h) (length dead) in
      record {
        code = rw (p.code_long, l) w;
        few = rw l x.few;
        map = rw l x.map;
        entries = x.entries;
        words = x.sources;
        pairs = rw l (omega arith);
        stmts = x.stmts;
        calls = x.calls;
        remap = rw l x.remap;
      }

  pub folds_all : (bars : Bars) (code' dead' kinds' words' : List ℕ) (k : ℕ) (code'' map'' sources'' stmts'' calls'' dead'' remap'' : List ℕ) (left : Left)
      → chunk code' dead' kinds' words' k ≡ fold_pass bars (chunk code dead kinds words c.constants)
      → tables code'' map'' sources'' stmts'' calls'' dead'' remap'' left
      ≡ finished (tables code' map sources stmts calls dead' remap (record { instructions = length dead; map = c.map; sources = c.sources }))
      → fold_outcome (record { instructions = left.instructions; constants = k; map = left.map; sources = left.sources })
      (buffers code'' kinds' words' map'' sources'' stmts'' calls'' dead'' remap'')
      ≡ constant_fold bars (buffers code kinds words map sources stmts calls dead remap) c
  unfolding constant_fold
  folds_all bars code' dead' kinds' words' k code'' map'' sources'' stmts'' calls'' dead'' remap'' left p g = rw (← p, ← g)

  -- each buffer as far as it is needed
  pub exact_of : (r : ℕ) → r ≡ source_room c.sources (tally_of code).phis → FoldRoom (buffers code kinds words map sources stmts calls dead remap) c
      → Exact (buffers code kinds words (take (chunk_count code) map) (take r sources) (take c.stmts stmts) (take c.calls calls)
      (take (chunk_count code) dead)
      (take (chunk_count code + 1) remap)) c
  unfolding tally_of
  exact_of r e h =
      let n = chunk_count code in
      let room = sources_needed (buffers code kinds words map sources stmts calls dead remap) c in
      let d : length (take n dead) ≡ n = length-take-le n dead h.dead in
      let m : length (take n map) ≡ n = length-take-le n map h.map in
      let s : length (take room sources) ≡ room = length-take-le room sources h.sources in
      let z = h.whole in
      rw e
      (record {
        whole = rw d z;
        few = rw d h.few;
        constants = h.constants;
        kinds = h.kinds;
        words = h.words;
        map = rw (d, m);
        entries = rw m h.entries;
        sources = rw s h.pairs;
        pairs = rw (d, s) (omega arith);
        stmts = rw (length-take-le c.stmts stmts h.stmts) h.stmt_pairs;
        calls = rw (length-take-le c.calls calls h.calls) h.call_pairs;
        remap = rw d (length-take-le (n + 1) remap h.remap);
        unmarked = h.unmarked;
      })

  -- the exact fold, with the table filled before it and after it
  module _ (strict : Bool) (tries : List ℕ) where
    by_scan_lem : Unmarked code → constant_fold (by_table strict (landings_of code tries)) (buffers code kinds words map sources stmts calls dead remap) c
        ≡ constant_fold (by_scan strict tries) (buffers code kinds words map sources stmts calls dead remap) c
    unfolding constant_fold fold_pass
    by_scan_lem u = rw (same_folds (chunk code (replicate (length dead) 0) kinds words c.constants) u strict tries) refl

    pub lends : (l₁ : List ℕ) (a : Folded) (code' kinds' words' map' sources' stmts' calls' dead' remap' tries' l₂ : List ℕ)
        → Exact (buffers code kinds words map sources stmts calls dead remap) c
        → l₁ ≡ landings_of code tries
        → fold_outcome a (buffers code' kinds' words' map' sources' stmts' calls' dead' remap')
        ≡ constant_fold (by_table strict l₁) (buffers code kinds words map sources stmts calls dead remap) c
        → tries' ≡ moved_all dead' tries
        → l₂ ≡ landings_of code' tries'
        → settled (fold_outcome a (buffers code' kinds' words' map' sources' stmts' calls' dead' remap')) tries' l₂
        ≡ fold_lent strict tries (buffers code kinds words map sources stmts calls dead remap) c
    unfolding fold_lent
    lends l₁ a code' kinds' words' map' sources' stmts' calls' dead' remap' tries' l₂ x e f g h =
        let z : fold_outcome a (buffers code' kinds' words' map' sources' stmts' calls' dead' remap')
        ≡ constant_fold (by_scan strict tries) (buffers code kinds words map sources stmts calls dead remap) c =
        f ∙ ap (λ (l : List ℕ). constant_fold (by_table strict l) (buffers code kinds words map sources stmts calls dead remap) c) e ∙ by_scan_lem x.unmarked in
        rw (← z, h, g) refl

  pub joins : (strict : Bool) (tries landings : List ℕ) (r : ℕ) (a : Folded) (code' kinds' words' map' sources' stmts' calls' dead' remap' tries'
      landings' : List ℕ)
      → r ≡ source_room c.sources (tally_of code).phis
      → settled (fold_outcome a (buffers code' kinds' words' map' sources' stmts' calls' dead' remap')) tries' landings'
      ≡ fold_lent strict tries
      (buffers code kinds words (take (chunk_count code) map) (take r sources) (take c.stmts stmts) (take c.calls calls) (take (chunk_count code) dead)
      (take (chunk_count code + 1) remap)) c
      → called
      (fold_outcome (Ok a)
      (buffers code' kinds' words' (map' ++ drop (chunk_count code) map) (sources' ++ drop r sources) (stmts' ++ drop c.stmts stmts)
      (calls' ++ drop c.calls calls)
      (dead' ++ drop (chunk_count code) dead) (remap' ++ drop (chunk_count code + 1) remap)))
      tries' (landings' ++ drop (chunk_count code + 1) landings)
      ≡ rejoined (buffers code kinds words map sources stmts calls dead remap) landings c
      (fold_lent strict tries (needed (buffers code kinds words map sources stmts calls dead remap) c) c)
  unfolding rejoined joined_buffers
  joins strict tries landings r a code' kinds' words' map' sources' stmts' calls' dead' remap' tries' landings' e f = rw (← e, ← f)

-- remap is filled where something died
finished_mapped : (t : Tables) → Mapped (finished t).dead (finished t).remap
unfolding finished renewed
finished_mapped t = go (every (alive d) (length d)) refl
  where
    d : List ℕ
    d = marked t.code (map_of t) (sources_of t) t.dead

    m : Tables
    m = tables t.code t.map t.sources t.stmts t.calls d t.remap t.left

    go : (u : Bool) → every (alive d) (length d) ≡ u → Mapped (cond u m (renewed m)).dead (cond u m (renewed m)).remap
    go true e = record { filled = λ f. absurd (let z : ◌≡◌ {A = ℕ} 0 1 = ap bool_byte (sym f ∙ e) in omega arith) }
    go false e = record { filled = λ f. refl }

pub mapped_after : (t : Tables) (code' map' sources' stmts' calls' dead' remap' : List ℕ) (left : Left)
    → tables code' map' sources' stmts' calls' dead' remap' left ≡ finished t → Mapped dead' remap'
mapped_after t code' map' sources' stmts' calls' dead' remap' left e = subst (λ (u : Tables). Mapped u.dead u.remap) (sym e) (finished_mapped t)

module _ (dead : List ℕ) (t : Bool) (e : t ≡ every (alive dead) (length dead)) where
  pub map_there : (remap : List ℕ) → Mapped dead remap → t ≡ false → Remap dead remap
  map_there remap m f = remap_of_lem dead remap (m.filled (sym e ∙ f))

  pub tries_stay : (tries : List ℕ) → t ≡ true → tries ≡ moved_all dead tries
  tries_stay tries f = none_moved dead tries (sym e ∙ f)

-- the call: a refusal leaves all that is lent as it is
module _ (strict : Bool) (b : Buffers) (tries landings : List ℕ) (c : Counts) (v : Checked)
    (e : v ≡ ready_of b.code tries b.kinds b.words c (lens_of b) (length landings)) where
  pub refused_by : (r : Refusal) → v ≡ Err r → called (fold_outcome (Err r) b) tries landings ≡ fold_call strict b tries landings c
  unfolding fold_call
  refused_by r h =
      refused v (ready_of b.code tries b.kinds b.words c (lens_of b) (length landings)) e (λ q. called (fold_outcome (Err q) b) tries landings)
      (rejoined b landings c (fold_lent strict tries (needed b c) c)) r (called (fold_outcome (Err r) b) tries landings) h refl

  pub told_by : (n : ℕ) (o : Called) → v ≡ Ok n → o ≡ rejoined b landings c (fold_lent strict tries (needed b c) c) → o ≡ fold_call strict b tries landings c
  unfolding fold_call
  told_by n o h z =
      told v (ready_of b.code tries b.kinds b.words c (lens_of b) (length landings)) e (λ q. called (fold_outcome (Err q) b) tries landings)
      (rejoined b landings c (fold_lent strict tries (needed b c) c)) n o h z
