-- `lists::list_try` meets its contract. Assumes nothing.
use borrow.Author.Rules.{rules}
use Rattle.lists.proofs.Tries.{tryings}
use Rattle.lists.proofs.list_try.Goals as goal

pub list_set-requires : goal.list_set-requires
list_set-requires g c = search (rules, tryings)

pub returns-then-around : goal.returns-then-around
returns-then-around g c = search (rules, tryings)

pub returns : goal.returns
returns g c = search (rules, tryings)
