-- `near::covering` meets its contract. Assumes nothing.
use Rattle.near.proofs.Near.{covered_new}
use Rattle.near.proofs.covering.Goals as goal

pub returns : goal.returns
returns c = search covered_new
