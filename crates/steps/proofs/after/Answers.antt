-- `steps::after` meets its contract. Assumes nothing.
use borrow.Author.Rules.{rules}
use Rattle.steps.proofs.Resume.{goes}
use Rattle.steps.proofs.after.Goals as goal

pub returns-then-o-eq-JumpIfFalseR : goal.returns-then-o-eq-JumpIfFalseR
returns-then-o-eq-JumpIfFalseR c = search (rules, goes)

pub returns-then-o-eq-Call : goal.returns-then-o-eq-Call
returns-then-o-eq-Call c = search (rules, goes)

pub returns-then-s-code : goal.returns-then-s-code
returns-then-s-code c = search (rules, goes)

pub returns-then-is_call : goal.returns-then-is_call
returns-then-is_call c = search (rules, goes)

pub returns : goal.returns
returns c = search (rules, goes)
