-- `outside::any_makes` meets its contract. Assumes nothing.
use borrow.Author.Rules.{rules}
use Rattle.laws.proofs.Some.{somewhere}
use Rattle.sections.proofs.There.{tested_there}
use Rattle.outside.specs.Outside.{made}
use Rattle.outside.proofs.any_makes.Goals as goal

pub returns-then-makes : goal.returns-then-makes
unfolding made
returns-then-makes c = search (rules, somewhere, tested_there)
