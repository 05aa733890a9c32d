-- `loops::fill_loops` meets its contract. Assumes nothing.
use Rattle.loops.proofs.Adding.{zeroed, all_depths}
use Rattle.loops.proofs.fill_loops.Goals as goal

pub count_loops-requires : goal.count_loops-requires
count_loops-requires c = search zeroed

pub returns : goal.returns
returns c = search all_depths
