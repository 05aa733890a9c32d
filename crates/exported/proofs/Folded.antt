-- The folding call: one result, its refusals, what an answer leaves alone, and what the next calls answer. Assumes nothing.
use mathlib.Core.Path.{◌≡◌, refl, sym, ap, ◌∙◌}
use mathlib.Core.Bool.{Bool}
use Prim.Native.Nat.{ℕ, ◌<◌}
use Rattle.refusals.specs.declared.Answer.{Answer}
use Rattle.std.specs.declared.result.Result.TheVariants.{Ok, Err}
use Rattle.chunk.specs.Check.{chunk_check_of}
use Rattle.chunk.specs.declared.Counts.{Counts}
use Rattle.optimizer.specs.Fold.{Called, FoldAnswer}
use Rattle.optimizer.specs.declared.Folded.{Folded}
use Rattle.named.specs.Unused.{AllNear}
use Rattle.clear.specs.Clear as clearing
use Rattle.clear.specs.Clear.{ClearAnswer, clear_call, clear_told}
use Rattle.optimizer.proofs.Again.{again}
use Rattle.clear.proofs.Answers.{answered}
use Rattle.refold.specs.Lending.{Lending, lending, fold_leaving}
use Rattle.refold.specs.Inner.{fold_of, Folds, Chained}
use Rattle.refold.specs.Lendable.{cut_at, counts_left, Lendable, clearable, cleared_buffers, with_constants, counts_cleared}
use Rattle.refold.specs.Left.{PoolLeft, FoldBeyond, NoneDied, as_lent, TriesLeft, LandingsLeft}
use Rattle.refold.proofs.Lends.{lends, pool_stays, stays_beyond, refusal_leaves, idle_call}
use Rattle.refold.proofs.Lands.{tries_follow, table_true}
use Rattle.refold.proofs.Chain.{fold_clear_fold, fold_fold}
use Rattle.refold.proofs.Refolds.{refold_call, accepted_again}
use Rattle.answers.specs.Inner.{fold_told}
use Rattle.answers.proofs.Alone.{one_fold}
use Rattle.exported.specs.Settles as settles
use Rattle.exported.specs.Settles.{Settles}
use Rattle.exported.specs.Calls.{FoldCall, ClearCall}
use Rattle.exported.specs.Told.{folded_of, FoldsNext, ClearsNext, clearing_of, FoldsSame, FoldsCleared}
use Rattle.exported.proofs.Answered.{refused_not}
use Rattle.exported.proofs.Writing.{held_same}

-- ---- an answer, and what it says

module _ (strict : Bool) (c : Counts) (b : Lending) (r : Answer) (a : Lending) (x : FoldCall strict c b r a) where
  -- with refusal 0 the call was answered
  pub answered_fold : r.refusal ≡ 0 → Folds strict b c (folded_of r) a
  answered_fold z = go x.told x.is x.allowed
    where
      go : (v : FoldAnswer) → r ≡ fold_told v → fold_leaving v a ≡ fold_of strict b c → Folds strict b c (folded_of r) a
      go (Ok f) e h = rw e (sym h)
      go (Err q) e h = absurd (refused_not q (sym (ap (λ (s : Answer). s.refusal) e) ∙ z))

  -- and where it was answered, so it says
  pub fold_answers : (f : Folded) (y : Lending) → Folds strict b c f y → (r.refusal ≡ 0) × (folded_of r ≡ f) × (a ≡ y)
  fold_answers f y e =
      let h = x.allowed ∙ e in
      let i : r ≡ fold_told (Ok f) = x.is ∙ ap (λ (o : Called). fold_told o.result.answer) h in
      (ap (λ (s : Answer). s.refusal) i, ap folded_of i, ap (λ (o : Called). lending o.result.after o.tries o.landings) h)

  fold_refusal : settles.Refusal r → a ≡ b
  fold_refusal h = go x.told x.is x.allowed
    where
      go : (v : FoldAnswer) → r ≡ fold_told v → fold_leaving v a ≡ fold_of strict b c → a ≡ b
      go (Ok f) e y = absurd (h (ap (λ (s : Answer). s.refusal) e))
      go (Err q) e y = refusal_leaves strict b c q a (sym y)

  fold_beyond : FoldBeyond c b a
  fold_beyond = go x.told x.allowed
    where
      go : (v : FoldAnswer) → fold_leaving v a ≡ fold_of strict b c → FoldBeyond c b a
      go (Ok f) y = stays_beyond strict b c f a (sym y)
      go (Err q) y =
          let d = b.buffers in
          rw (refusal_leaves strict b c q a (sym y))
          (record {
            buffers =
                record {
                  code = refl;
                  kinds = held_same _ d.kinds d.kinds refl;
                  words = held_same _ d.words d.words refl;
                  map = held_same _ d.map d.map refl;
                  sources = held_same _ d.sources d.sources refl;
                  stmts = held_same _ d.stmts d.stmts refl;
                  calls = held_same _ d.calls d.calls refl;
                  dead = held_same _ d.dead d.dead refl;
                  remap = held_same _ d.remap d.remap refl;
                };
            tries = refl;
            landings = held_same _ b.landings b.landings refl;
          })

pub fold_settles : (strict : Bool) (c : Counts) → Settles (FoldCall strict c) (FoldBeyond c)
fold_settles strict c =
    record {
      one = λ b r r' a a' x y.
          let (e, f, g, h) =
          one_fold strict b.buffers b.tries b.landings c r r' a.buffers a'.buffers a.tries a'.tries a.landings a'.landings x y in
          (e, rw (f, g, h) refl);
      refusal = λ b r a x h. fold_refusal strict c b r a x h;
      beyond = λ b r a x. fold_beyond strict c b r a x;
    }

-- ---- clearing, answered

module _ (m : ℕ) (b : clearing.PoolBuffers) (r : Answer) (a : clearing.PoolBuffers) (x : ClearCall m b r a) where
  pub answered_clear : r.refusal ≡ 0 → clear_call b m ≡ clearing.clear_outcome (clearing.Is r.first) a
  answered_clear z = go x.told x.is x.allowed
    where
      go : (v : ClearAnswer) → r ≡ clear_told v → clearing.clear_outcome v a ≡ clear_call b m → clear_call b m ≡ clearing.clear_outcome (clearing.Is r.first) a
      go (clearing.Is n) e h = rw e (sym h)
      go (clearing.No q) e h = absurd (refused_not q (sym (ap (λ (s : Answer). s.refusal) e) ∙ z))

  pub clear_answers : (n : ℕ) (y : clearing.PoolBuffers) → clear_call b m ≡ clearing.clear_outcome (clearing.Is n) y → (r ≡ clear_told (clearing.Is n)) × (a ≡ y)
  clear_answers n y e =
      let h = x.allowed ∙ e in
      (x.is ∙ ap (λ (o : clearing.ClearOutcome). clear_told o.answer) h, ap (λ (o : clearing.ClearOutcome). o.after) h)

-- ---- from refusal 0

module _ (strict : Bool) (c : Counts) (b : Lending) (r : Answer) (a : Lending) (x : FoldCall strict c b r a) (z : r.refusal ≡ 0) where
  abbrev f : Folded
  f = folded_of r

  answer : Folds strict b c f a
  answer = answered_fold strict c b r a x z

  -- the tables that are left keep their rules, and there is room for the next fold
  pub tables_kept : Lendable f c a
  tables_kept = lends strict b c f a answer

  -- the tries follow and keep their rule, and the table is true of what is left
  pub tries_kept : TriesLeft b f a
  tries_kept = tries_follow strict b c f a answer

  pub landings_true : LandingsLeft b f a
  landings_true = table_true strict b c f a answer

  pub pool_kept : PoolLeft b.buffers c f a.buffers
  pool_kept = pool_stays strict b c f a answer

  pub none_died : NoneDied b.buffers a.buffers → fold_leaving (Ok f) a ≡ as_lent b c
  none_died h = sym answer ∙ idle_call strict b c f a answer h

  pub folds_next : FoldsNext c r a
  folds_next strict' t y u =
      let (g, v, e) = fold_fold strict b c f a answer strict' in
      (fold_answers strict' (counts_left f c) (cut_at f a) t y u g v e).0

  pub clears_next : ClearsNext c r a
  clears_next scratch h s x' u =
      let go : (strict' : Bool) → Chained f c a scratch strict' = λ strict'. fold_clear_fold strict b c f a answer scratch h strict' in
      let k = go strict in
      let i = clear_answers r.second (clearable f a scratch) s x' u k.left k.cleared k.clears in
      (ap (λ (w : Answer). w.refusal) i.0, λ strict' t y v. next strict' (go strict') t y v)
    where
      next : (strict' : Bool) → Chained f c a scratch strict' → (t : Answer) (y : Lending)
          → FoldCall strict' (counts_cleared f c s.first) (cleared_buffers a x') t y → t.refusal ≡ 0
      next strict' k t y v =
          let i = clear_answers r.second (clearable f a scratch) s x' u k.left k.cleared k.clears in
          let e : s.first ≡ k.left = ap (λ (w : Answer). w.first) i.0 in
          let w : Folds strict' (cleared_buffers a x') (counts_cleared f c s.first) k.folded k.after = rw (e, i.1) k.folds in
          (fold_answers strict' (counts_cleared f c s.first) (cleared_buffers a x') t y v k.folded k.after w).0

  -- asked: the fold ends below 65,535 constants, and each operand with the mark is below the count, or at or past the count that it ends with
  pub folds_same : r.second < 65535 → AllNear b.buffers.code c.constants r.second → FoldsSame strict b c r a
  folds_same few near scratch h s x' u t y v =
      let k = refold_call strict b c f a answer few near scratch h in
      let i = clear_answers c.constants (clearing_of b scratch) s x' u k.left k.cleared k.clears in
      let e : s.first ≡ k.left = ap (λ (w : Answer). w.first) i.0 in
      let d = with_constants s.first c in
      let w : Folds strict (cleared_buffers b x') d k.folded k.after = rw (e, i.1) k.folds in
      let j = fold_answers strict d (cleared_buffers b x') t y v k.folded k.after w in
      (ap (λ (w : Answer). w.refusal) i.0, j.0, rw (j.1, j.2) k.same)

  -- cleared first, the same buffers serve
  pub folds_cleared : FoldsCleared b c
  folds_cleared scratch s x' u zs strict' t y v =
      let m = c.constants in
      let lent = clearing_of b scratch in
      let e = answered_clear m lent s x' u zs in
      let h = answered lent m s.first x' e in
      let d = with_constants s.first c in
      let (g, k, i) = accepted_again strict b c f a answer s.first x' h.count h.code h.kinds h.words strict' in
      (fold_answers strict' d (cleared_buffers b x') t y v g k i).0

  -- the whole code passes tests 1 and 2 again
  pub code_again : (n : ℕ) → chunk_check_of b.buffers.code ≡ Ok n → chunk_check_of a.buffers.code ≡ Ok n
  code_again n e = ap (λ (o : Called). chunk_check_of o.result.after.code) (sym answer) ∙ again strict b.buffers b.tries b.landings c n e
