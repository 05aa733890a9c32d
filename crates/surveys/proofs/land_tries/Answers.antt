-- `surveys::land_tries` meets its contract. Assumes nothing.
use borrow.Author.Rules.{rules}
use Rattle.surveys.proofs.Landing.{landing}
use Rattle.surveys.proofs.land_tries.Goals as goal

pub loop-i-init : goal.loop-i-init
loop-i-init c = search (rules, landing)

pub land-requires : goal.land-requires
land-requires c = search (rules, landing)

pub loop-i-preserved : goal.loop-i-preserved
loop-i-preserved c = search (rules, landing)

pub shape_of-out : goal.shape_of-out
shape_of-out c = search (rules, landing)

pub returns : goal.returns
returns c = search (rules, landing)
