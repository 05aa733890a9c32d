-- `taken::before` meets its contract. Assumes nothing.
use borrow.Author.Rules.{rules}
use native.Mathlib.Omega.{arith}
use Rattle.taken.proofs.Lists.{before_none, before_yes, before_on, before_no, before_asked}
use Rattle.taken.proofs.before.Goals as goal

pub returns-then-i-gt16 : goal.returns-then-i-gt16
returns-then-i-gt16 c = before_asked c.args.list.now c.args.i _ (omega (arith, c.requires)) c.contains.ensures.value

pub loop-j-init : goal.loop-j-init
loop-j-init c = search (rules, before_none)

pub returns-then-list-j : goal.returns-then-list-j
returns-then-list-j c = before_yes c.args.list.now c.args.i c.loop-j.j (search rules) c.if-list-j.true

pub loop-j-preserved : goal.loop-j-preserved
loop-j-preserved c = search (rules, before_on)

pub returns : goal.returns
returns c = before_no c.args.list.now c.args.i c.loop-j.j (search rules) (search rules) c.loop-j.invariant.1
