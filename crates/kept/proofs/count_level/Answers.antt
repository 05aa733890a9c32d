-- `kept::count_level` meets its contract. Assumes nothing.
use borrow.Author.Rules.{rules}
use Rattle.kept.proofs.Levels.{levels}
use Rattle.kept.proofs.count_level.Goals as goal

pub returns : goal.returns
returns g c = search (rules, levels)
