-- `finish::renew` meets its contract. Assumes nothing.
use Rattle.finish.proofs.Anew.{renews}
use Rattle.finish.proofs.renew.Goals as goal

pub returns : goal.returns
returns c = search renews
