-- `kept::count_at` meets its contract. Assumes nothing.
use borrow.Author.Rules.{rules}
use Rattle.kept.proofs.Passes.{counted}
use Rattle.kept.proofs.count_at.Goals as goal

pub returns-then-level_at : goal.returns-then-level_at
returns-then-level_at g c = search (rules, counted)

pub returns : goal.returns
returns g c = search (rules, counted)
