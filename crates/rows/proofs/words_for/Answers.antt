-- `rows::words_for` meets its contract. Assumes nothing.
use borrow.Author.Rules.{rules}
use Rattle.rows.proofs.Routes.{words_are}
use Rattle.rows.proofs.words_for.Goals as goal

pub returns : goal.returns
returns g c = let x = g.met.W.Word.width.some in search (rules, words_are)
