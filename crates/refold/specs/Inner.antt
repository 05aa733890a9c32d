-- What only the inside of `refold` needs: contracts of inner functions and proofs cite it, no promise does. Assumes nothing.
use Rattle.std.specs.Prelude.{◌≡◌, Bool, true, ℕ, ◌≤◌, ◌<◌, length, get_or, List}
use Rattle.chunk.specs.declared.Counts.{Counts}
use Rattle.std.specs.declared.result.Result.TheVariants.{Ok}
use Rattle.optimizer.specs.Fold.{Called, fold_call}
use Rattle.optimizer.specs.declared.Folded.{Folded}
use Rattle.refold.specs.Lending.{Lending, fold_leaving}
use Rattle.chunk.specs.Tables.{constant_kept}
use Rattle.fold.specs.Plan.{Chunk}
use Rattle.clear.specs.Clear.{clear_call}
use Rattle.refold.specs.Lendable.{clearable, cleared_buffers, counts_cleared, with_constants}
use Rattle.refold.specs.Refolded.{RefoldedAll}
use Rattle.clear.specs.Clear as clearing

-- the folding call on all that is lent
abbrev pub fold_of : Bool → Lending → Counts → Called
fold_of strict l c = fold_call strict l.buffers l.tries l.landings c

-- the call answers f and leaves a
abbrev pub Folds : Bool → Lending → Counts → Folded → Lending → Type 0
Folds strict l c f a = fold_of strict l c ≡ fold_leaving (Ok f) a

-- constants were only pushed from s to t: old ones stay, so do entries past the new count and all lengths, and new ones keep the rule
pub record Pushed (s t : Chunk) : Type 0 where
  pub more : s.constants ≤ t.constants
  pub kinds_below : (i : ℕ) → i < s.constants → get_or t.kinds i 0 ≡ get_or s.kinds i 0
  pub words_below : (i : ℕ) → i < s.constants → get_or t.words i 0 ≡ get_or s.words i 0
  pub kinds_past : (i : ℕ) → t.constants ≤ i → get_or t.kinds i 0 ≡ get_or s.kinds i 0
  pub words_past : (i : ℕ) → t.constants ≤ i → get_or t.words i 0 ≡ get_or s.words i 0
  pub rule : ((i : ℕ) → i < s.constants → constant_kept s.kinds s.words i ≡ true) → (i : ℕ) → i < t.constants
      → constant_kept t.kinds t.words i ≡ true
  pub code_long : length t.code ≡ length s.code
  pub dead_long : length t.dead ≡ length s.dead
  pub kinds_long : length t.kinds ≡ length s.kinds
  pub words_long : length t.words ≡ length s.words

-- fold, clear, fold: the second call and the third are answered, whatever the mode
pub record Chained (f : Folded) (c : Counts) (a : Lending) (scratch : List ℕ) (strict : Bool) : Type 0 where
  pub left : ℕ
  pub cleared : clearing.PoolBuffers
  pub clears : clear_call (clearable f a scratch) f.constants ≡ clearing.clear_outcome (clearing.Is left) cleared
  pub folded : Folded
  pub after : Lending
  pub folds : Folds strict (cleared_buffers a cleared) (counts_cleared f c left) folded after

-- the chunk b, cleared to so many constants, and folded: answered, and as f that leaves a
pub record Refolds (strict : Bool) (b : Lending) (c : Counts) (f : Folded) (a : Lending) (scratch : List ℕ) : Type 0 where
  pub left : ℕ
  pub cleared : clearing.PoolBuffers
  pub clears : clear_call (clearing.pool_buffers b.buffers.code b.buffers.kinds b.buffers.words scratch) c.constants
      ≡ clearing.clear_outcome (clearing.Is left) cleared
  pub folded : Folded
  pub after : Lending
  pub folds : Folds strict (cleared_buffers b cleared) (with_constants left c) folded after
  pub same : RefoldedAll f a folded after
