-- `leaves::leave` meets its contract. Assumes nothing.
use Rattle.area.proofs.Calls.{top_within}
use Rattle.leaves.proofs.leave.Goals as goal

pub put_back-requires : goal.put_back-requires
put_back-requires c = (c.if-regs-gt64.false, top_within _ _ _ c.in-Some.ensures)
