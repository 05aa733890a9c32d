-- `shapes::guarded` meets its contract. Assumes nothing.
use Rattle.code.proofs.Passed.{passing}
use Rattle.shapes.proofs.guarded.Goals as goal

pub any_guards-requires : goal.any_guards-requires
any_guards-requires c = search (passing, c.in_ok-check.was)
