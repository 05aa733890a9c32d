-- Fold, clear, fold: what each call leaves is accepted by the next, the code cut at the answered count. Assumes nothing.
use Prim.Native.Nat.{ℕ, ◌≤◌}
use mathlib.Core.Path.{◌≡◌, refl, sym}
use mathlib.Core.Bool.{Bool}
use mathlib.Core.List.{List}
use lib.ListN.{length}
use borrow.Author.Tests.{le-ltb}
use Rattle.std.specs.declared.result.Result.TheVariants.{Ok}
use Rattle.chunk.specs.declared.Counts.{Counts}
use Rattle.optimizer.specs.Fold.{lens_of}
use Rattle.optimizer.specs.declared.Folded.{Folded}
use Rattle.clear.specs.Clear as clearing
use Rattle.named.specs.Unused.{constant_named, before}
use Rattle.clear.proofs.Answers.{answered_call, answered}
use Rattle.clear.proofs.Accepts.{accepted_after}
use Rattle.clear.proofs.Kept.{pooled_length}
use Rattle.clear.proofs.Tested.{held_of}
use Rattle.refold.specs.Lending.{Lending, ready_for}
use Rattle.refold.specs.Inner.{Folds, Chained}
use Rattle.refold.specs.Lendable.{cut_at, counts_left, Lendable, clearable, cleared_buffers, counts_cleared}
use Rattle.refold.proofs.Lends.{o, all_left, call_answered, lends}

-- an accepted chunk is folded
pub folds : (strict : Bool) (l : Lending) (c : Counts) (n : ℕ) → ready_for l c ≡ Ok n → (g : Folded) × (y : Lending) × Folds strict l c g y
folds strict l c n e = ((o strict l c).answer, all_left strict l c, call_answered strict l c n e)

module _ (f : Folded) (c : Counts) (a : Lending) (x : Lendable f c a) (scratch : List ℕ) (h : f.constants ≤ length scratch) where
  abbrev b : clearing.PoolBuffers
  b = clearable f a scratch

  -- the clearing call refuses nothing but a scratch that is too short
  pub clears_after : clearing.clear_ready_of b f.constants ≡ Ok f.instructions
  unfolding clearing.clear_ready_of
  clears_after = rw (x.code, x.pool, le-ltb (length scratch) f.constants h)

  pub chained : (strict : Bool) → Chained f c a scratch strict
  chained strict =
      let m = f.constants in
      let w = b.code in
      let e = answered_call b m f.instructions clears_after in
      let y = answered b m (before w m) (clearing.cleared b m).after e in
      let k = held_of b m (Ok f.instructions) (sym clears_after) f.instructions refl in
      let i = accepted_after f.instructions w a.tries a.buffers.kinds a.buffers.words (counts_left f c) (lens_of (cut_at f a).buffers)
      (length a.landings) x.ready in
      let d = cleared_buffers a (clearing.cleared b m).after in
      let z : ready_for d (counts_cleared f c (before w m)) ≡ Ok f.instructions =
      rw (
        y.code,
        y.kinds,
        y.words,
        pooled_length (constant_named w) m a.buffers.kinds k.kinds,
        pooled_length (constant_named w) m a.buffers.words k.words,
      ) i in
      let (g, u, v) = folds strict d (counts_cleared f c (before w m)) f.instructions z in
      record { left = before w m; cleared = (clearing.cleared b m).after; clears = e; folded = g; after = u; folds = v }

-- one theorem for the three calls
pub fold_clear_fold : (strict : Bool) (l : Lending) (c : Counts) (f : Folded) (a : Lending) → Folds strict l c f a
    → (scratch : List ℕ) → f.constants ≤ length scratch → (strict' : Bool) → Chained f c a scratch strict'
fold_clear_fold strict l c f a e scratch h strict' = chained f c a (lends strict l c f a e) scratch h strict'

-- and for two folds, with nothing cleared between them
pub fold_fold : (strict : Bool) (l : Lending) (c : Counts) (f : Folded) (a : Lending) → Folds strict l c f a
    → (strict' : Bool) → (g : Folded) × (y : Lending) × Folds strict' (cut_at f a) (counts_left f c) g y
fold_fold strict l c f a e strict' = folds strict' (cut_at f a) (counts_left f c) f.instructions (lends strict l c f a e).ready
