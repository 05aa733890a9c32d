-- All that the folding call is lent, as one: the buffers, the tries and the table of landings. Assumes nothing.
use Rattle.std.specs.Prelude.{List, ℕ, length}
use Rattle.refusals.specs.Stages.{Checked}
use Rattle.chunk.specs.Check.{ready_of}
use Rattle.chunk.specs.declared.Counts.{Counts}
use Rattle.optimizer.specs.Fold.{Buffers, lens_of, fold_outcome, Called, called, FoldAnswer}

-- what a folding call is lent
pub record Lending : Type 0 where
  pub buffers : Buffers
  pub tries : List ℕ
  pub landings : List ℕ

-- these buffers, these tries and this table as one record
abbrev pub lending : Buffers → List ℕ → List ℕ → Lending
lending b tries landings = record { buffers = b; tries = tries; landings = landings }

-- what the tests say of it
abbrev pub ready_for : Lending → Counts → Checked
ready_for l c = ready_of l.buffers.code l.tries l.buffers.kinds l.buffers.words c (lens_of l.buffers) (length l.landings)

-- an answer, with what all that was lent holds then
abbrev pub fold_leaving : FoldAnswer → Lending → Called
fold_leaving v a = called (fold_outcome v a.buffers) a.tries a.landings
