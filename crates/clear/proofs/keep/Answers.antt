-- `clear::keep` meets its contract. Assumes nothing.
use borrow.Author.Rules.{rules}
use Rattle.clear.proofs.Moving.{going_none, going_skip, going_put, going_done}
use Rattle.clear.proofs.keep.Goals as goal
use Rattle.clear.proofs.keep.Goals.{then-named, else-named}

pub loop-i-init : goal.loop-i-init
loop-i-init c = search (rules, going_none)

pub loop-i-preserved : goal.loop-i-preserved
loop-i-preserved c =
    elim c.if-named.branch [
      | then-named w ↦ rw (w.kinds-is, w.words-is, w.to-is) (going_put c.loop-i.invariant c.args.m w.if-named.true c.loop-i-test.true c.requires.3 c.requires.1 c.requires.2)
      | else-named w ↦ rw (w.kinds-is, w.words-is, w.to-is) (going_skip c.loop-i.invariant c.args.m w.if-named.false c.loop-i-test.true c.requires.3)
    ]

pub returns : goal.returns
returns c = search (rules, going_done)
