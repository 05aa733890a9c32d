-- `surveys::fill_targets` meets its contract. Assumes nothing.
use Rattle.surveys.proofs.Landing.{all_targets}
use Rattle.surveys.proofs.fill_targets.Goals as goal

pub returns : goal.returns
returns c = search all_targets
