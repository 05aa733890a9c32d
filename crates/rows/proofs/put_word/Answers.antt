-- `rows::put_word` meets its contract. Assumes nothing.
use borrow.Author.Rules.{rules}
use mathlib.Core.Path.{refl}
use Rattle.sets.proofs.Nums.{put_none, put_some}
use Rattle.rows.proofs.put_word.Goals as goal

pub shape_of-rows-then-same : goal.shape_of-rows-then-same
shape_of-rows-then-same g c = refl

pub returns-then-same : goal.returns-then-same
returns-then-same g c = put_none g.met.W.Word.numbered _ _ _ _ _ _ c.index-rows-k.is (search rules) c.row_word-set.ensures c.same.ensures c.if-same.true

pub returns : goal.returns
returns g c = put_some g.met.W.Word.numbered _ _ _ _ _ _ c.index-rows-k.is (search rules) c.row_word-set.ensures c.same.ensures c.if-same.false
