-- `clear::clear_unused` meets its contract. Assumes nothing.
use borrow.Author.Rules.{rules}
use Rattle.clear.proofs.Whole.{low_of, all_of_it}
use Rattle.clear.proofs.clear_unused.Goals as goal

pub renumber-requires : goal.renumber-requires
renumber-requires c = (
  search rules,
  low_of _ _ _ _ _ _ _ _ _ (search rules) c.keep-r.ensures,
)

pub returns : goal.returns
returns c = search all_of_it
