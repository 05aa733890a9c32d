-- `near::leaves` meets its contract. Assumes nothing.
use Rattle.near.proofs.Near.{leaves_plain, leaves_past}
use Rattle.near.proofs.leaves.Goals as goal

pub returns-then-i-eq0 : goal.returns-then-i-eq0
returns-then-i-eq0 c = search leaves_plain

pub returns : goal.returns
returns c = search leaves_past
