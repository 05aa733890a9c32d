-- `exposes::exposed` meets its contract. Assumes nothing.
use Rattle.exposes.proofs.Exposing.{too_short, long_enough}
use Rattle.exposes.proofs.exposed.Goals as goal

pub returns-then-out-list : goal.returns-then-out-list
returns-then-out-list c = search too_short

pub returns : goal.returns
returns c = search long_enough
