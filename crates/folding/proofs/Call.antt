-- What the tests leave, and what the folding call then tells. Assumes nothing.
use Prim.Native.Nat.{ℕ, ◌+◌, ◌≤◌}
use mathlib.Core.Path.{◌≡◌}
use mathlib.Core.Bool.{Bool}
use mathlib.Core.List.{List, ◌++◌}
use lib.ListN.{length, take, drop}
use Rattle.refusals.specs.Answers.{refused_of}
use Rattle.refusals.specs.declared.Answer.{Answer}
use Rattle.refusals.specs.declared.Refusal.{Refusal}
use Rattle.refusals.specs.Stages.{Checked}
use Rattle.std.specs.declared.result.Result.TheVariants.{Ok, Err}
use Rattle.chunk.specs.Chunk.{chunk_count}
use Rattle.chunk.specs.Check.{source_room, tally_of, ready_of}
use Rattle.chunk.specs.declared.Counts.{Counts}
use Rattle.optimizer.specs.Fold.{Buffers, buffers, lens_of, fold_outcome, settled, fold_lent}
use Rattle.optimizer.specs.Inner.{FoldRoom}
use Rattle.optimizer.specs.declared.Folded.{Folded}
use Rattle.optimizer.proofs.Tested.{held_of, table_there}
use Rattle.optimizer.proofs.Whole.{joins, refused_by, told_by}
use Rattle.folding.specs.Answers.{folded_told, FoldTold}

module _ (code kinds words map sources stmts calls dead remap tries landings : List ℕ) (c : Counts) (v : Checked)
    (e : v ≡ ready_of code tries kinds words c (lens_of (buffers code kinds words map sources stmts calls dead remap)) (length landings)) where
  abbrev lent : Buffers
  lent = buffers code kinds words map sources stmts calls dead remap

  -- what the tests leave
  module _ (n : ℕ) (h : v ≡ Ok n) where
    pub held : FoldRoom lent c
    held = held_of lent tries c (length landings) n v e h

    pub table_held : chunk_count code + 1 ≤ length landings
    table_held = table_there lent tries c (length landings) n v e h

  -- a refusal leaves all that is lent as it is
  pub refusing : (strict : Bool) (r : Refusal) (a : Answer) → v ≡ Err r → a ≡ refused_of r → FoldTold strict lent tries landings c a lent tries landings
  refusing strict r a h i = record { told = Err r; allowed = refused_by strict lent tries landings c v e r h; is = i }

  -- else the fold of what is needed is told
  pub telling : (strict : Bool) (n : ℕ) → v ≡ Ok n → (s : ℕ) (f : Folded) (r : Answer)
      (code' kinds' words' map' sources' stmts' calls' dead' remap' tries' landings' : List ℕ)
      → s ≡ source_room c.sources (tally_of code).phis
      → settled (fold_outcome f (buffers code' kinds' words' map' sources' stmts' calls' dead' remap')) tries' landings'
      ≡ fold_lent strict tries
      (buffers code kinds words (take (chunk_count code) map) (take s sources) (take c.stmts stmts) (take c.calls calls) (take (chunk_count code) dead)
      (take (chunk_count code + 1) remap)) c
      → r ≡ folded_told f
      → FoldTold strict lent tries landings c r
      (buffers code' kinds' words' (map' ++ drop (chunk_count code) map) (sources' ++ drop s sources) (stmts' ++ drop c.stmts stmts)
      (calls' ++ drop c.calls calls) (dead' ++ drop (chunk_count code) dead) (remap' ++ drop (chunk_count code + 1) remap))
      tries' (landings' ++ drop (chunk_count code + 1) landings)
  telling strict n h s f r code' kinds' words' map' sources' stmts' calls' dead' remap' tries' landings' x y i =
      record {
        told = Ok f;
        allowed =
            told_by strict lent tries landings c v e n _ h
            (joins code kinds words map sources stmts calls dead remap c strict tries landings s f
            code' kinds' words' map' sources' stmts' calls' dead' remap' tries' landings' x y);
        is = i;
      }
