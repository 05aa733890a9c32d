-- `generators::phis_dead` meets its contract. Assumes nothing.
use Rattle.generators.proofs.Dying.{clear, settled}
use Rattle.generators.proofs.phis_dead.Goals as goal

pub walk_phis-requires : goal.walk_phis-requires
walk_phis-requires c = search clear

pub returns : goal.returns
returns c = search settled
