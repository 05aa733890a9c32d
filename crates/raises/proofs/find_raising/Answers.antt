-- `raises::find_raising` meets its contract. Assumes nothing.
use borrow.Author.Rules.{rules}
use Rattle.raises.proofs.Calls.{by_near, by_far}
use Rattle.raises.proofs.find_raising.Goals as goal

pub returns-then-regs-gt64 : goal.returns-then-regs-gt64
returns-then-regs-gt64 c = search (rules, by_far)

pub returns : goal.returns
returns c = search (rules, by_near)
