-- `chunk::each_kept` meets its contract. Assumes nothing.
use borrow.Author.Rules.{rules}
use Rattle.laws.proofs.Every.{all}
use Rattle.chunk.proofs.each_kept.Goals as goal

pub returns-then-not-kept : goal.returns-then-not-kept
returns-then-not-kept c = search (rules, all)
