-- `sets::join_row` meets its contract. Assumes nothing.
use borrow.Author.Rules.{rules}
use Rattle.sets.proofs.Words.{joins}
use Rattle.sets.proofs.join_row.Goals as goal

pub returns : goal.returns
returns g c = let x = g.met.W.Word.width.some in search (rules, joins)
