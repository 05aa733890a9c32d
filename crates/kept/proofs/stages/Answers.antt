-- `kept::stages` meets its contract. Assumes nothing.
use borrow.Author.Rules.{rules}
use Rattle.kept.proofs.Tests.{tests}
use Rattle.kept.proofs.stages.Goals as goal

pub overflow_add-need : goal.overflow_add-need
overflow_add-need g c = search (rules, tests)

pub words_for-requires : goal.words_for-requires
words_for-requires g c = search (rules, tests)

pub overflow_mul-need : goal.overflow_mul-need
overflow_mul-need g c = let x = g.met.W.Word.width.some in search (rules, tests)

pub overflow_add-n : goal.overflow_add-n
overflow_add-n g c = search (rules, tests)

pub returns-in-Err : goal.returns-in-Err
returns-in-Err g c = search (rules, tests)

pub returns-in-Ok : goal.returns-in-Ok
returns-in-Ok g c = search (rules, tests)
