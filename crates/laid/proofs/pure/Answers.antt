-- `laid::pure` meets its contract. Assumes nothing.
use Rattle.code.proofs.Passed.{passing}
use Rattle.laid.proofs.pure.Goals as goal

pub all_laid-requires : goal.all_laid-requires
all_laid-requires c = search (passing, c.in_ok-check.was)
