-- `pushes::takes_back` meets its contract: each store passed takes its value back. Assumes nothing.
use borrow.Author.Rules.{rules}
use Rattle.laws.proofs.Every.{all}
use Rattle.pushes.specs.Pushes.{takes_back}
use Rattle.pushes.proofs.takes_back.Goals as goal

pub returns-then-not-taken_at : goal.returns-then-not-taken_at
unfolding takes_back
returns-then-not-taken_at c = search (rules, all)
