-- `needed::asks` meets its contract. Assumes nothing.
use borrow.Author.Rules.{rules}
use Rattle.paths.proofs.Between.{none}
use Rattle.needed.proofs.Telling.{ready, done}
use Rattle.needed.proofs.asks.Goals as goal

pub search-found-requires : goal.search-found-requires
search-found-requires c = (search ready, search none)

pub returns : goal.returns
returns c = search (rules, done)
