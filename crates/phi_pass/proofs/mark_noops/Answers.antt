-- `phi_pass::mark_noops` meets its contract. Assumes nothing.
use borrow.Author.Rules.{rules}
use Rattle.phi_pass.proofs.Pairs.{marking}
use Rattle.phi_pass.proofs.mark_noops.Goals as goal

pub loop-i-preserved : goal.loop-i-preserved
loop-i-preserved c = search (rules, marking)
