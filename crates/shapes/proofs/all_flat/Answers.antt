-- `shapes::all_flat` meets its contract. Assumes nothing.
use borrow.Author.Rules.{rules}
use Rattle.laws.proofs.Every.{all}
use Rattle.shapes.specs.Shape.{flat}
use Rattle.shapes.proofs.all_flat.Goals as goal

pub returns-then-not-flat_at : goal.returns-then-not-flat_at
unfolding flat
returns-then-not-flat_at c = search (rules, all)
