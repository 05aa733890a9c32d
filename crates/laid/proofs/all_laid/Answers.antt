-- `laid::all_laid` meets its contract. Assumes nothing.
use borrow.Author.Rules.{rules}
use Rattle.laws.proofs.Every.{all}
use Rattle.laid.specs.Section.{laid}
use Rattle.laid.proofs.all_laid.Goals as goal

pub returns-then-not-laid_at : goal.returns-then-not-laid_at
unfolding laid
returns-then-not-laid_at c = search (rules, all)
