-- `rows::after_wide` meets its contract. Assumes nothing.
use borrow.Author.Rules.{rules}
use Rattle.sets.proofs.Nums.{empty_small, after_read}
use Rattle.rows.proofs.after_wide.Goals as goal

pub join_if-next-requires : goal.join_if-next-requires
join_if-next-requires g c = let x = g.met.W.Word.width in search (rules, empty_small)

pub returns : goal.returns
returns g c = let x = g.met.W.Word.width in search (rules, after_read)
