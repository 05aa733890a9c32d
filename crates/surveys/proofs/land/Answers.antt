-- `surveys::land` meets its contract. Assumes nothing.
use Rattle.surveys.proofs.Landing.{lands_in, landed, not_landed}
use Rattle.surveys.proofs.land.Goals as goal

pub bounds-out-q : goal.bounds-out-q
bounds-out-q c = search lands_in

pub returns-then-yes-q : goal.returns-then-yes-q
returns-then-yes-q c = search landed

pub returns-else-yes-q : goal.returns-else-yes-q
returns-else-yes-q c = search not_landed
