-- `named::mark_named` meets its contract. Assumes nothing.
use borrow.Author.Rules.{rules}
use Rattle.named.proofs.Marking.{cleared, marking_none, marking_more, marking_done}
use Rattle.named.proofs.mark_named.Goals as goal

pub loop-k-init : goal.loop-k-init
loop-k-init c = marking_none _ _ _ _ (cleared _ _ _ c.requires (c.fill.ensures.after (λ y e. e)))

pub loop-k-preserved : goal.loop-k-preserved
loop-k-preserved c = marking_more c.loop-k.invariant _ (search rules) c.note.ensures

pub returns : goal.returns
returns c = marking_done c.loop-k.invariant _ (cleared _ _ _ c.requires (c.fill.ensures.after (λ y e. e))) c.requires (search rules) (search rules)
