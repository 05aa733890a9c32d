-- `code::check` meets its contract. Assumes nothing.
use borrow.Author.Rules.{rules}
use Rattle.code.specs.Check.{check_of}
use Rattle.laws.proofs.Branch.{branch}
use Rattle.code.proofs.Checks.{whole, bad_record, accepted}
use Rattle.code.proofs.check.Goals as goal

pub returns-then-uneven : goal.returns-then-uneven
unfolding check_of
returns-then-uneven c = search (rules, branch)

pub first_bad-k-requires : goal.first_bad-k-requires
first_bad-k-requires c = search whole

pub returns-then-k-n : goal.returns-then-k-n
returns-then-k-n c = search bad_record

pub returns : goal.returns
returns c = search accepted
