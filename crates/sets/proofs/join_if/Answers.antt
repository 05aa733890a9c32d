-- `sets::join_if` meets its contract. Assumes nothing.
use borrow.Author.Rules.{rules}
use Rattle.sets.proofs.Words.{joined_out}
use Rattle.sets.proofs.join_if.Goals as goal

pub returns : goal.returns
returns g c = search (rules, joined_out)
