-- `code::instruction` meets its contract. Assumes nothing.
use Rattle.code.proofs.Passed.{passing}
use Rattle.code.proofs.instruction.Goals as goal

pub ins_at-requires : goal.ins_at-requires
ins_at-requires c = search (passing, c.in_ok-inside.was)
