-- `roles::entry` meets its contract: one test that antt computes at each of the 1,280 entries. Assumes nothing.
use borrow.Author.Rules.{rules}
use Rattle.roles.proofs.ByTable.{read}
use Rattle.roles.proofs.entry.Goals as goal

pub returns : goal.returns
returns c = search (rules, read)
