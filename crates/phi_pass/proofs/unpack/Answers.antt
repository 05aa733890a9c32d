-- `phi_pass::unpack` meets its contract. Assumes nothing.
use borrow.Author.Rules.{rules}
use Rattle.phi_pass.proofs.Pairs.{spreading}
use Rattle.phi_pass.proofs.unpack.Goals as goal

pub loop-j-preserved : goal.loop-j-preserved
loop-j-preserved c = search (rules, spreading)
