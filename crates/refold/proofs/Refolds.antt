-- Folding a chunk that was cleared first gives what folding it uncleared gives, through the whole call. Assumes nothing.
use Prim.Native.Nat.{ℕ, ◌+◌, ◌≤◌, ◌<◌}
use native.Mathlib.Omega.{arith}
use mathlib.Core.Path.{◌≡◌, refl, sym, ap, ◌∙◌}
use mathlib.Core.Logic.{⊎_elim}
use mathlib.Core.Bool.{Bool}
use mathlib.Core.List.{List, [], ◌∷◌, ◌++◌}
use lib.ListN.{length, get_or, drop}
use borrow.Author.Tests.{lt-ltb, le-ltb}
use Rattle.std.specs.declared.result.Result.TheVariants.{Ok}
use Rattle.chunk.specs.Chunk.{chunk_count, operand_at}
use Rattle.chunk.specs.Tables.{constant_kept, within}
use Rattle.chunk.specs.Check.{source_room}
use Rattle.chunk.proofs.Kept.{kinds_there, words_there}
use Rattle.laws.specs.All.{every}
use Rattle.laws.proofs.Branch.{and-true}
use Rattle.chunk.specs.declared.Counts.{Counts}
use Rattle.chunk.specs.declared.Tally.{Tally}
use Rattle.fold.specs.Plan.{Chunk}
use Rattle.landings.specs.Landings.{landings_of}
use Rattle.fold.specs.Pass.{by_scan, fold_all}
use Rattle.positions.specs.Moved.{moved_all}
use Rattle.finish.specs.Finish.{Tables, tables}
use Rattle.optimizer.specs.Fold.{Buffers, buffers, lens_of, needed, sources_needed, fold_pass, constant_fold, joined_buffers}
use Rattle.optimizer.specs.declared.Folded.{Folded}
use Rattle.named.specs.Unused.{AllNear, constant_named, before as number, pooled, recoded, loaded}
use Rattle.clear.specs.Clear as clearing
use Rattle.clear.proofs.Answers.{answered_call, answered}
use Rattle.clear.proofs.Accepts.{tally_same, counts_after, accepted_after}
use Rattle.clear.proofs.Kept.{pooled_length}
use Rattle.clear.proofs.Tested.{held_of}
use Rattle.clear.proofs.Loads.{recoded_count}
use Rattle.clear.proofs.Room.{cleared_chunk}
use Rattle.clear.proofs.Alike.{SameLoad, Loads, Alike}
use Rattle.clear.proofs.Refold.{refold, refold_fewer}
use Rattle.refold.specs.Lendable.{cleared_buffers, with_constants}
use Rattle.refold.specs.Lending.{Lending, lending, ready_for}
use Rattle.refold.specs.Inner.{Folds, Refolds}
use Rattle.refold.specs.Refolded.{Refolded, RefoldedAll}
use Rattle.refold.proofs.Lends.{o, all_left, clean, end, before, after, rules, code_fine, lent_clean, call_answered, by_call}
use Rattle.refold.proofs.Chain.{folds}
use Rattle.refold.proofs.Beside.{Beside, finished_beside, table_same}

-- what is loaded in both
module _ (s t : Chunk) (fewer : t.constants ≤ s.constants) (v u : ℕ) (x : Loads s.constants s t v u) where
  load_in : (l : List ℕ) (m i : ℕ) → i < m → loaded l m i ≡ get_or l i 0 ∷ []
  unfolding loaded
  load_in l m i h = rw (lt-ltb i m h)

  load_out : (l : List ℕ) (m i : ℕ) → m ≤ i → loaded l m i ≡ []
  unfolding loaded
  load_out l m i h = rw (le-ltb i m h)

  load_same : (k l : List ℕ) → (SameLoad s t v u → get_or k v 0 ≡ get_or l u 0) → loaded l t.constants u ≡ loaded k s.constants v
  load_same k l e =
      ⊎_elim
      (λ y. load_in l t.constants u y.here ∙ ap (λ (z : ℕ). z ∷ []) (sym (e y)) ∙ sym (load_in k s.constants v y.there))
      (λ y. load_out l t.constants u (omega (arith, y.same, y.past)) ∙ sym (load_out k s.constants v y.past)) x

-- two buffers that differ in front alone
tail_same : {x y : List ℕ} {i j : ℕ} (l : List ℕ) → x ≡ y → i ≡ j → x ++ drop i l ≡ y ++ drop j l
tail_same l e f = rw (e, f)

module _ (strict : Bool) (l : Lending) (c : Counts) (n : ℕ) (q : ready_for l c ≡ Ok n)
    (near : AllNear l.buffers.code c.constants (fold_all (by_scan strict l.tries) (clean strict l c)).constants)
    (few : (fold_all (by_scan strict l.tries) (clean strict l c)).constants < 65535) where
  abbrev b : Buffers
  b = l.buffers

  abbrev w : List ℕ
  w = b.code

  abbrev m : ℕ
  m = c.constants

  -- the chunk after clearing
  abbrev b' : Buffers
  b' =
      buffers (recoded (number w) m w) (pooled (constant_named w) m b.kinds) (pooled (constant_named w) m b.words) b.map b.sources b.stmts
      b.calls b.dead
      b.remap

  abbrev l' : Lending
  l' = lending b' l.tries l.landings

  abbrev c' : Counts
  c' = counts_after w c

  abbrev s : Chunk
  s = fold_all (by_scan strict l.tries) (clean strict l c)

  abbrev t : Chunk
  t = fold_all (by_scan strict l.tries) (cleared_chunk (clean strict l c))

  same_count : chunk_count (recoded (number w) m w) ≡ chunk_count w
  same_count = recoded_count (number w) m w

  same_need : sources_needed b' c' ≡ sources_needed b c
  same_need = ap (λ (x : Tally). source_room c.sources x.phis) (tally_same (number w) m w)

  end_first : end strict l c ≡ s
  unfolding fold_pass
  end_first = refl

  end_second : end strict l' c' ≡ t
  unfolding fold_pass
  end_second = rw same_count

  alike : Alike s.constants s t
  alike = refold n (clean strict l c) (code_fine strict l c n q) strict l.tries near (lent_clean strict l c n q) few

  fewer : t.constants ≤ s.constants
  fewer = refold_fewer n (clean strict l c) (code_fine strict l c n q) strict l.tries near (lent_clean strict l c n q) few

  abbrev besides : List ℕ → List ℕ → Tables
  besides code dead =
      tables code (needed b c).map (needed b c).sources (needed b c).stmts (needed b c).calls dead (needed b c).remap
      (record { instructions = length (needed b c).dead; map = c.map; sources = c.sources })

  before_first : before strict l c ≡ besides s.code s.dead
  before_first = rw end_first

  before_second : before strict l' c' ≡ besides t.code s.dead
  before_second = rw (end_second, same_count, same_need, ← alike.dead)

  beside : Beside s.constants s t (after strict l c) (after strict l' c')
  beside =
      rw (before_first, before_second)
      (finished_beside alike (needed b c).map (needed b c).sources (needed b c).stmts (needed b c).calls s.dead (needed b c).remap
      (record { instructions = length (needed b c).dead; map = c.map; sources = c.sources }))

  refolded : Refolded (o strict l c).answer (joined_buffers b c (o strict l c)).after (o strict l' c').answer (joined_buffers b' c' (o strict l' c')).after
  unfolding constant_fold joined_buffers fold_pass
  refolded =
      let x = beside in
      let v : ℕ → ℕ = λ k. operand_at (after strict l c).code k in
      let u : ℕ → ℕ = λ k. operand_at (after strict l' c').code k in
      record {
        instructions = sym (ap (λ l. l.instructions) x.left);
        entries = sym (ap (λ l. l.map) x.left);
        pairs = sym (ap (λ l. l.sources) x.left);
        fewer = rw end_second fewer;
        map = tail_same b.map (sym x.map) same_count;
        sources = tail_same b.sources (sym x.sources) same_need;
        stmts = tail_same {i = c.stmts} b.stmts (sym x.stmts) refl;
        calls = tail_same {i = c.calls} b.calls (sym x.calls) refl;
        dead = tail_same b.dead (sym x.dead) same_count;
        remap = tail_same b.remap (sym x.remap) (ap (λ (i : ℕ). i + 1) same_count);
        long = sym x.long;
        ops = λ k. sym (x.code k).op;
        marks = λ k. sym (x.code k).mark;
        plain = λ k e. sym ((x.code k).plain e);
        kind = λ k e. ap (λ (z : Chunk). loaded z.kinds z.constants (u k)) end_second
            ∙ load_same s t fewer (v k) (u k) ((x.code k).load e) s.kinds t.kinds (λ y. y.kind);
        word = λ k e. ap (λ (z : Chunk). loaded z.words z.constants (u k)) end_second
            ∙ load_same s t fewer (v k) (u k) ((x.code k).load e) s.words t.words (λ y. y.word);
      }

  -- the same marks move the tries, and the same jumps land
  refolded_all : RefoldedAll (o strict l c).answer (all_left strict l c) (o strict l' c').answer (all_left strict l' c')
  unfolding constant_fold
  refolded_all =
      let x = beside in
      let e : moved_all (after strict l' c').dead l.tries ≡ moved_all (after strict l c).dead l.tries =
      ap (λ (d : List ℕ). moved_all d l.tries) (sym x.dead) in
      record {
        buffers = refolded;
        tries = e;
        landings =
            tail_same l.landings
            (ap (landings_of (after strict l' c').code) e ∙ sym (table_same x (moved_all (after strict l c).dead l.tries)))
            (ap (λ (i : ℕ). i + 1) same_count);
      }

  module _ (scratch : List ℕ) (room : m ≤ length scratch) where
    abbrev lent : clearing.PoolBuffers
    lent = clearing.pool_buffers b.code b.kinds b.words scratch

    clear_ready : clearing.clear_ready_of lent m ≡ Ok n
    unfolding clearing.clear_ready_of
    clear_ready = rw (code_fine strict l c n q, (rules strict l c n q).constants, le-ltb (length scratch) m room)

    refolds : Refolds strict l c (o strict l c).answer (all_left strict l c) scratch
    refolds =
        let e = answered_call lent m n clear_ready in
        let y = answered lent m (number w m) (clearing.cleared lent m).after e in
        let k = held_of lent m (Ok n) (sym clear_ready) n refl in
        let z : ready_for l' c' ≡ Ok n =
        rw (pooled_length (constant_named w) m b.kinds k.kinds, pooled_length (constant_named w) m b.words k.words)
        (accepted_after n w l.tries b.kinds b.words c (lens_of b) (length l.landings) q) in
        record {
          left = number w m;
          cleared = (clearing.cleared lent m).after;
          clears = e;
          folded = (o strict l' c').answer;
          after = all_left strict l' c';
          folds = rw (y.code, y.kinds, y.words) (call_answered strict l' c' n z);
          same = refolded_all;
        }

constants_left : (strict : Bool) (l : Lending) (c : Counts)
    → (o strict l c).answer.constants ≡ (fold_all (by_scan strict l.tries) (clean strict l c)).constants
unfolding constant_fold fold_pass
constants_left strict l c = refl

-- asked: each operand with the mark is below the count, or at or past the count that the uncleared fold ends with, and that is below 65,535
pub refold_call : (strict : Bool) (l : Lending) (c : Counts) (f : Folded) (a : Lending) → Folds strict l c f a → f.constants < 65535
    → AllNear l.buffers.code c.constants f.constants → (scratch : List ℕ) → c.constants ≤ length scratch → Refolds strict l c f a scratch
refold_call strict l c f a e few near scratch room =
    by_call strict l c (λ g y. g.constants < 65535 → AllNear l.buffers.code c.constants g.constants → Refolds strict l c g y scratch)
    (λ n q h i. refolds strict l c n q (rw (constants_left strict l c) at i) (rw (constants_left strict l c) at h) scratch room) f a e few near

-- ---- whatever the operands: a chunk that is accepted is accepted after clearing too

module _ (strict : Bool) (l : Lending) (c : Counts) (f : Folded) (a : Lending) (e : Folds strict l c f a) (left : ℕ) (x : clearing.PoolBuffers)
    (chunk_count : left ≡ number l.buffers.code c.constants) (code : x.code ≡ recoded (number l.buffers.code) c.constants l.buffers.code)
    (kinds : x.kinds ≡ pooled (constant_named l.buffers.code) c.constants l.buffers.kinds)
    (words : x.words ≡ pooled (constant_named l.buffers.code) c.constants l.buffers.words) (strict' : Bool) where
  abbrev Answered : Type 0
  Answered = (g : Folded) × (y : Lending) × Folds strict' (cleared_buffers l x) (with_constants left c) g y

  by_ready : (n : ℕ) → ready_for l c ≡ Ok n → Answered
  by_ready n q =
      let b = l.buffers in
      let w = b.code in
      let m = c.constants in
      let h = rules strict l c n q in
      let i = (and-true (within m (length b.kinds) (length b.words)) (every (constant_kept b.kinds b.words) m) h.constants).0 in
      let z : ready_for (cleared_buffers l x) (with_constants left c) ≡ Ok n =
      rw (
        code,
        kinds,
        words,
        chunk_count,
        pooled_length (constant_named w) m b.kinds (kinds_there m (length b.kinds) (length b.words) i),
        pooled_length (constant_named w) m b.words (words_there m (length b.kinds) (length b.words) i),
      ) (accepted_after n w l.tries b.kinds b.words c (lens_of b) (length l.landings) q) in
      folds strict' (cleared_buffers l x) (with_constants left c) n z

  pub accepted_again : Answered
  accepted_again = by_call strict l c (λ _ _. Answered) (λ n q. by_ready n q) f a e
