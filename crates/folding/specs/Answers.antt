-- What the folding call tells. Assumes nothing.
use Rattle.std.specs.Prelude.{ℕ, ◌≡◌, Bool, List}
use Rattle.refusals.specs.Answers.{answer_of, refused_of}
use Rattle.refusals.specs.declared.Answer.{Answer}
use Rattle.chunk.specs.declared.Counts.{Counts}
use Rattle.std.specs.declared.result.Result.TheVariants.{Ok, Err}
use Rattle.optimizer.specs.Fold.{Buffers, fold_outcome, called, fold_call, FoldAnswer}
use Rattle.optimizer.specs.declared.Folded.{Folded}

-- instructions, constants, phi_map count, phi_sources count
abbrev pub folded_told : Folded → Answer
folded_told f = answer_of f.instructions f.constants f.map f.sources

-- the counts of what is left, or the refusal
abbrev pub fold_told : FoldAnswer → Answer
fold_told (Ok f) = folded_told f
fold_told (Err r) = refused_of r

-- an answer that tells what the call is defined to be, with all that is lent as it leaves it
pub record FoldTold (strict : Bool) (b : Buffers) (tries landings : List ℕ) (c : Counts) (r : Answer)
    (b' : Buffers) (tries' landings' : List ℕ) : Type 0 where
  pub told : FoldAnswer
  pub allowed : called (fold_outcome told b') tries' landings' ≡ fold_call strict b tries landings c
  pub is : r ≡ fold_told told
