-- What an answer of the folding call says: no test refused, and all that is lent is as the fold leaves it. Assumes nothing.
use Prim.Native.Nat.{ℕ, ◌+◌, ◌≤◌, ◌<◌}
use mathlib.Core.Path.{◌≡◌, refl, sym}
use mathlib.Core.Bool.{Bool, true}
use mathlib.Core.List.{List}
use lib.ListN.{length}
use Rattle.refusals.specs.Stages.{try_kept, pairs}
use Rattle.refusals.specs.Answers.{asked}
use Rattle.refusals.specs.Stages.{Checked}
use Rattle.std.specs.declared.result.Result.TheVariants.{Ok, Err}
use Rattle.chunk.specs.Chunk.{chunk_count}
use Rattle.chunk.specs.Check.{ready_of}
use Rattle.chunk.specs.declared.Counts.{Counts}
use Rattle.fold.specs.Pass.{by_scan}
use Rattle.optimizer.specs.Fold.{Buffers, lens_of, needed, fold_outcome, constant_fold, joined_buffers, fold_lent, called, rejoined, fold_call}
use Rattle.optimizer.specs.Inner.{FoldRoom, Exact}
use Rattle.optimizer.specs.declared.Folded.{Folded}
use Rattle.optimizer.proofs.Tested.{held_of, table_there, tries_there}
use Rattle.optimizer.proofs.Whole.{exact_of, told_by}

pub record Answered (strict : Bool) (b : Buffers) (tries landings : List ℕ) (c : Counts) (f : Folded) : Type 0 where
  pub held : FoldRoom b c
  pub exact : Exact (needed b c) c
  pub room : chunk_count b.code + 1 ≤ length landings
  pub tried : (j : ℕ) → j < pairs tries → try_kept tries (chunk_count b.code) j ≡ true
  pub is : fold_call strict b tries landings c ≡ rejoined b landings c (fold_lent strict tries (needed b c) c)
  pub counts : (constant_fold (by_scan strict tries) (needed b c) c).answer ≡ f

pub answered : (strict : Bool) (b : Buffers) (tries landings : List ℕ) (c : Counts) (f : Folded)
    → (fold_call strict b tries landings c).result.answer ≡ Ok f → Answered strict b tries landings c f
unfolding fold_call rejoined joined_buffers fold_lent
answered strict b tries landings c f e = go (ready_of b.code tries b.kinds b.words c (lens_of b) (length landings)) refl e
  where
    go : (v : Checked) → v ≡ ready_of b.code tries b.kinds b.words c (lens_of b) (length landings)
        → (asked v (λ r. called (fold_outcome (Err r) b) tries landings) (rejoined b landings c (fold_lent strict tries (needed b c) c))).result.answer ≡ Ok f
        → Answered strict b tries landings c f
    go (Err r) q e = cc
    go (Ok m) q e =
        let h = held_of b tries c (length landings) m (Ok m) q refl in
        record {
          held = h;
          exact = exact_of b.code b.kinds b.words b.map b.sources b.stmts b.calls b.dead b.remap c _ refl h;
          room = table_there b tries c (length landings) m (Ok m) q refl;
          tried = tries_there b tries c (length landings) m (Ok m) q refl;
          is = sym (told_by strict b tries landings c (Ok m) q m (rejoined b landings c (fold_lent strict tries (needed b c) c)) refl refl);
          counts = cc;
        }
