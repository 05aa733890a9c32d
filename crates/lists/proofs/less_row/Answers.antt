-- `lists::less_row` meets its contract. Assumes nothing.
use borrow.Author.Rules.{rules}
use Rattle.sets.proofs.Nums.{read_is}
use Rattle.lists.proofs.Less.{lessings}
use Rattle.lists.proofs.Less.{lessing_more}
use Rattle.lists.proofs.less_row.Goals as goal

pub loop-j-init : goal.loop-j-init
loop-j-init g c = search (rules, lessings)

pub loop-j-preserved : goal.loop-j-preserved
loop-j-preserved g c =
    lessing_more _ _ _ _ _ _ _ _ _ _ _ c.loop-j.invariant c.loop-j-test.true c.requires.0 c.less-word.ensures
    (read_is g.met.W.Word.numbered _ _ _ c.index-rows-at.is (search rules)) c.word.ensures c.put.ensures

pub returns : goal.returns
returns g c = let x = g.met.W.Word.width.some in search (rules, lessings)
