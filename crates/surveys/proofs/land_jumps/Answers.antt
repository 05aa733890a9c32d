-- `surveys::land_jumps` meets its contract. Assumes nothing.
use borrow.Author.Rules.{rules}
use Rattle.surveys.proofs.Landing.{landing}
use Rattle.surveys.proofs.land_jumps.Goals as goal

pub loop-k-init : goal.loop-k-init
loop-k-init c = search (rules, landing)

pub land-requires : goal.land-requires
land-requires c = search (rules, landing)

pub loop-k-preserved : goal.loop-k-preserved
loop-k-preserved c = search (rules, landing)

pub shape_of-out : goal.shape_of-out
shape_of-out c = search (rules, landing)

pub returns : goal.returns
returns c = search (rules, landing)
