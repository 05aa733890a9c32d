-- `operands::prev_live` meets its contract: what is left to search has the answer of the whole. Assumes nothing.
use borrow.Author.Rules.{rules}
use Rattle.operands.proofs.Parts.{live_here, dead_here, none_left}
use Rattle.operands.proofs.prev_live.Goals as goal

pub returns-then-dead-i-eq0-clause-live : goal.returns-then-dead-i-eq0-clause-live
returns-then-dead-i-eq0-clause-live c = search (rules, live_here)

pub loop-i-preserved : goal.loop-i-preserved
loop-i-preserved c = search (rules, dead_here)

pub returns-clause-live : goal.returns-clause-live
returns-clause-live c = search none_left
