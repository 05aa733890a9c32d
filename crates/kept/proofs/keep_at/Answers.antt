-- `kept::keep_at` meets its contract. Assumes nothing.
use borrow.Author.Rules.{rules}
use Rattle.kept.proofs.Passes.{listed_at}
use Rattle.kept.proofs.keep_at.Goals as goal

pub keep_level-requires : goal.keep_level-requires
keep_level-requires g c = search (rules, listed_at)

pub returns-then-level_at : goal.returns-then-level_at
returns-then-level_at g c = search (rules, listed_at)

pub returns : goal.returns
returns g c = search (rules, listed_at)
