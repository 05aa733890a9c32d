-- `sections::returns` meets its contract. Assumes nothing.
use Rattle.code.proofs.Passed.{passing}
use Rattle.sections.proofs.Rooms.{near}
use Rattle.sections.proofs.returns.Goals as goal

pub returns_at-requires : goal.returns_at-requires
returns_at-requires c = search (passing, near, c.in_ok-inside.was)
