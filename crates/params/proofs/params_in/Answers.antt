-- `params::params_in` meets its contract. Assumes nothing.
use borrow.Author.Rules.{rules}
use native.Mathlib.Omega.{arith}
use Rattle.laws.proofs.Mask.{mask_more}
use Rattle.params.proofs.params_in.Goals as goal

pub loop-r-preserved : goal.loop-r-preserved
loop-r-preserved c = (search rules, mask_more _ _ _ _ _ c.loop-r.invariant.1 c.any_writes.ensures (omega arith) c.from.ensures)
