-- `positions::place_words` meets its contract. Assumes nothing.
use borrow.Author.Rules.{rules}
use Rattle.positions.proofs.Moves.{moving}
use Rattle.positions.proofs.place_words.Goals as goal

pub loop-w-preserved : goal.loop-w-preserved
loop-w-preserved c = search (rules, moving)
