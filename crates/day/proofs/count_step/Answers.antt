-- `day::count_step` meets its contract. Assumes nothing.
use borrow.Author.Rules.{rules}
use Rattle.day.proofs.Counts.{step_counted}
use Rattle.day.proofs.count_step.Goals as goal

pub returns : goal.returns
returns c = search (rules, step_counted)
