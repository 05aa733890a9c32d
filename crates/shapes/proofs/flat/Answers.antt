-- `shapes::flat` meets its contract. Assumes nothing.
use Rattle.code.proofs.Passed.{passing}
use Rattle.shapes.proofs.flat.Goals as goal

pub all_flat-requires : goal.all_flat-requires
all_flat-requires c = search (passing, c.in_ok-check.was)
