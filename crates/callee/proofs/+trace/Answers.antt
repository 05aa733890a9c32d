-- `callee::trace` meets its contract. Assumes nothing.
use borrow.Author.Rules.{rules}
use Rattle.callee.proofs.Tracing.{turn}
use Rattle.callee.proofs.+trace.Goals as goal

pub loop-d-preserved-in-Pass : goal.loop-d-preserved-in-Pass
loop-d-preserved-in-Pass t c = search (rules, turn)

pub returns-then-d-j : goal.returns-then-d-j
returns-then-d-j t c = search (rules, turn)

pub loop-d-smaller : goal.loop-d-smaller
loop-d-smaller t c = search (rules, turn)

pub loop-d-preserved : goal.loop-d-preserved
loop-d-preserved t c = search (rules, turn)

pub returns-in-Tell : goal.returns-in-Tell
returns-in-Tell t c = search (rules, turn)

pub returns : goal.returns
returns t c = search (rules, turn)
