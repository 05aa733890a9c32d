-- After an answer the tries have moved with the code, and the table counts what lands in the chunk that is left. Assumes nothing.
use Prim.Native.Nat.{ℕ, zero, suc, ◌+◌, ◌*◌, ◌/◌, ◌≤◌, ◌<◌}
use native.Mathlib.Nat.{eq-or-lt_of_le}
use native.Mathlib.Omega.{arith}
use mathlib.Core.Path.{◌≡◌, refl, sym, ap, ◌∙◌, subst}
use mathlib.Core.Logic.{⊎_elim}
use mathlib.Core.Bool.{Bool, true, false, cond}
use mathlib.Core.List.{List}
use lib.ListN.{length, get_or, take, drop}
use lib.Seq.{length-take-le, get_or-take, take_at}
use mir.Val.{bool_byte}
use Rattle.laws.specs.All.{every, many}
use Rattle.chunk.specs.Chunk.{stride, chunk_count, marks_jump}
use Rattle.chunk.specs.declared.Counts.{Counts}
use Rattle.laws.proofs.Counting.{many_ext}
use Rattle.landings.specs.Landings.{jump_lands, handler_lands, landings_at}
use Rattle.positions.specs.Remap.{alive}
use Rattle.positions.specs.Moved.{moved_all}
use Rattle.compact.proofs.Left.{mark_past}
use Rattle.phi_pass.specs.Phi.{marked}
use Rattle.finish.specs.Finish.{Tables, tables, map_of, sources_of, renewed, finished}
use Rattle.optimizer.specs.Fold.{Called, constant_fold, joined_buffers}
use Rattle.optimizer.specs.declared.Folded.{Folded}
use Rattle.optimizer.proofs.Tries.{table_after, past_none}
use Rattle.refold.specs.Lending.{Lending, ready_for}
use Rattle.refold.specs.Inner.{Folds}
use Rattle.refold.specs.Left.{TriesLeft, LandingsLeft}
use Rattle.refold.proofs.Lends.{o, before, after, all_left, all_settled, marks, end_marks, tries_left, n_is, few, after_code}
use Rattle.refold.proofs.Lends.{check_count, call_answered, by_call}
use Rattle.std.specs.declared.result.Result.TheVariants.{Ok}

-- a test that fails from r on passes as often below r
many_cut : (f : ℕ → Bool) (r n : ℕ) → r ≤ n → ((k : ℕ) → r ≤ k → k < n → f k ≡ false) → many f n ≡ many f r
unfolding many
many_cut f r zero h e = let z : r ≡ 0 = omega arith in rw z refl
many_cut f r (suc n) h e =
    ⊎_elim (λ q. rw q refl)
    (λ q. ap (λ (x : ℕ). x + bool_byte (f n)) (many_cut f r n (omega arith) (λ k a b. e k a (omega arith)))
    ∙ ap (λ (x : Bool). many f r + bool_byte x) (e n (omega arith) (omega arith)) ∙ nothing (many f r))
    (eq-or-lt_of_le h)
  where
    nothing : (x : ℕ) → x + 0 ≡ x
    nothing x = omega arith

-- what has no jump from r on has the landings of its first r instructions
module _ (w tries : List ℕ) (r : ℕ) (h : r ≤ chunk_count w) (e : (k : ℕ) → r ≤ k → k < chunk_count w → marks_jump w k ≡ false) (t : ℕ) where
  cut_count : chunk_count (take (stride * r) w) ≡ r
  cut_count = let l = length-take-le (stride * r) w (omega arith) in omega arith

  cut_to : (k : ℕ) → k < r → jump_lands w t k ≡ jump_lands (take (stride * r) w) t k
  cut_to k l = rw (get_or-take (stride * r) w (stride * k + 1) 0 (omega arith), get_or-take (stride * r) w (stride * k + 2) 0 (omega arith)) refl

  none_to : (k : ℕ) → r ≤ k → k < chunk_count w → jump_lands w t k ≡ false
  none_to k a b = rw (e k a b) refl

  cut_landings : landings_at w tries t ≡ landings_at (take (stride * r) w) tries t
  unfolding landings_at
  cut_landings =
      rw (cut_count)
      (ap (λ (x : ℕ). x + many (handler_lands tries t) (length tries / 2))
      (many_cut (jump_lands w t) r (chunk_count w) h none_to ∙ many_ext (jump_lands w t) (jump_lands (take (stride * r) w) t) r cut_to))

-- past the new end there is no jump
finished_calm : (t : Tables) → t.left.instructions ≡ length t.dead → (k : ℕ) → (finished t).left.instructions ≤ k → k < length t.dead
    → marks_jump (finished t).code k ≡ false
unfolding finished renewed
finished_calm t e k = go (every (alive d) (length d))
  where
    d : List ℕ
    d = marked t.code (map_of t) (sources_of t) t.dead

    m : Tables
    m = tables t.code t.map t.sources t.stmts t.calls d t.remap t.left

    go : (u : Bool) → (cond u m (renewed m)).left.instructions ≤ k → k < length t.dead → marks_jump (cond u m (renewed m)).code k ≡ false
    go true a b = absurd (omega arith)
    go false a b = rw (mark_past d t.code k a) refl

module _ (strict : Bool) (l : Lending) (c : Counts) where
  module _ (m : ℕ) (q : ready_for l c ≡ Ok m) where
    abbrev answer : Folds strict l c (o strict l c).answer (all_left strict l c)
    answer = call_answered strict l c m q

    pub front : take (chunk_count l.buffers.code) (all_left strict l c).buffers.dead ≡ (o strict l c).after.dead
    unfolding joined_buffers constant_fold
    front =
        take_at (after strict l c).dead (drop (chunk_count l.buffers.code) l.buffers.dead) (chunk_count l.buffers.code)
        ((all_settled strict l c m q).dead ∙ end_marks strict l c m q)

    tries_moved : TriesLeft l (o strict l c).answer (all_left strict l c)
    unfolding constant_fold
    tries_moved = record { moved = ap (λ (d : List ℕ). moved_all d l.tries) (sym front); kept = tries_left strict l c m q }

    calm : (k : ℕ) → (after strict l c).left.instructions ≤ k → k < chunk_count l.buffers.code → marks_jump (after strict l c).code k ≡ false
    calm k a b =
        finished_calm (before strict l c) (marks strict l c m q ∙ sym (end_marks strict l c m q)) k a (omega (arith, end_marks strict l c m q))

    landings_left : LandingsLeft l (o strict l c).answer (all_left strict l c)
    unfolding constant_fold joined_buffers
    landings_left =
        let b = l.buffers in
        let f = (o strict l c).answer in
        let e = ap (λ (x : Called). x.result.answer) answer in
        let w = (after strict l c).code in
        let z : chunk_count w ≡ chunk_count b.code = check_count w m (after_code strict l c m q) ∙ sym (n_is strict l c m q) in
        record {
          counts = λ k h.
              subst (λ (x : Called). get_or x.landings k 0 ≡ landings_at x.result.after.code x.tries k) answer
              (table_after strict b l.tries l.landings c f e k h)
              ∙ cut_landings w (all_left strict l c).tries (after strict l c).left.instructions (omega (arith, few strict l c m q, n_is strict l c m q))
              (λ j a h. calm j a (omega arith)) k;
          past = λ k a h. subst (λ (x : Called). get_or x.landings k 0 ≡ 0) answer (past_none strict b l.tries l.landings c f e k a h);
        }

  -- the tries follow
  pub tries_follow : (f : Folded) (a : Lending) → Folds strict l c f a → TriesLeft l f a
  tries_follow = by_call strict l c (λ f a. TriesLeft l f a) tries_moved

  -- and the table is true
  pub table_true : (f : Folded) (a : Lending) → Folds strict l c f a → LandingsLeft l f a
  table_true = by_call strict l c (λ f a. LandingsLeft l f a) landings_left
