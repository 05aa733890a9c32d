-- `generators::generates` meets its contract. Assumes nothing.
use Rattle.generators.proofs.Dying.{generator}
use Rattle.generators.proofs.generates.Goals as goal

pub returns : goal.returns
returns c = search generator
