-- `trace::judge` meets its contract. Assumes nothing.
use borrow.Author.Rules.{rules}
use Rattle.trace.proofs.Calls.{judgings}
use Rattle.trace.proofs.judge.Goals as goal

pub returns-then-s-b : goal.returns-then-s-b
returns-then-s-b c = search (rules, judgings)
