-- `rows::put_wide` meets its contract. Assumes nothing.
use borrow.Author.Rules.{rules}
use Rattle.sets.proofs.Nums.{within_set}
use Rattle.sets.proofs.Words.{fits, put_is}
use Rattle.rows.proofs.put_wide.Goals as goal

pub row_wide-set-requires : goal.row_wide-set-requires
row_wide-set-requires g c = let x = g.met.W.Word.width in search (rules, within_set)

pub store_row-requires : goal.store_row-requires
store_row-requires g c = search (rules, fits)

pub returns : goal.returns
returns g c = let x = g.met.W.Word.width.some in search (rules, put_is)
