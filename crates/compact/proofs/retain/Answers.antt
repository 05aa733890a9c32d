-- `compact::retain` meets its contract. Assumes nothing.
use borrow.Author.Rules.{rules}
use Rattle.std.proofs.Common.{arith}
use Rattle.std.proofs.lemmas.Grind.{common_steps}
use Rattle.compact.proofs.Moves.{keeping, kept_count, kept_done}
use Rattle.compact.proofs.retain.Goals as goal
use Rattle.compact.proofs.retain.Goals.{then-dead-i-eq0, else-dead-i-eq0}

pub loop-i-init : goal.loop-i-init
loop-i-init c = search (rules, keeping)

pub loop-i-preserved : goal.loop-i-preserved
loop-i-preserved c = elim c.if-dead-i-eq0.branch [
  | then-dead-i-eq0 w ↦ rw (w.code-is, w.to-is) (search (rules, keeping))
  | else-dead-i-eq0 w ↦ rw (w.code-is, w.to-is) (search (rules, keeping))
]

pub returns : goal.returns
returns c = (search (rules, kept_count), kept_done c.loop-i.invariant _ (search rules) (search rules) (search rules) (grind (arith, common_steps)))
