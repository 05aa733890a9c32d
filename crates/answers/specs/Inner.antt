-- What only the inside of `answers` needs: contracts of inner functions and proofs cite it, no promise does. Assumes nothing.
use Rattle.refusals.specs.declared.Answer.{Answer}
use Rattle.optimizer.specs.Fold.{FoldAnswer}
use Rattle.folding.specs.Answers as folding

-- instructions, constants, phi_map count, phi_sources count
abbrev pub fold_told : FoldAnswer → Answer
fold_told v = folding.fold_told v
