-- `clear::ready` meets its contract. Assumes nothing.
use Rattle.clear.proofs.Whole.{ready_of}
use Rattle.clear.proofs.ready.Goals as goal

pub returns : goal.returns
returns c = search ready_of
