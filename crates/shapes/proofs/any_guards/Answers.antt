-- `shapes::any_guards` meets its contract. Assumes nothing.
use borrow.Author.Rules.{rules}
use Rattle.laws.proofs.Some.{somewhere}
use Rattle.shapes.specs.Shape.{guarded}
use Rattle.sections.proofs.There.{tested_there}
use Rattle.shapes.proofs.any_guards.Goals as goal

pub returns-then-guards : goal.returns-then-guards
unfolding guarded
returns-then-guards c = search (rules, somewhere, tested_there)
