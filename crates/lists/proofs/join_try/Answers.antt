-- `lists::join_try` meets its contract. Assumes nothing.
use borrow.Author.Rules.{rules}
use Rattle.lists.proofs.Tries.{joinings}
use Rattle.lists.proofs.join_try.Goals as goal

pub returns-then-around : goal.returns-then-around
returns-then-around g c = search (rules, joinings)

pub returns : goal.returns
returns g c = search (rules, joinings)
