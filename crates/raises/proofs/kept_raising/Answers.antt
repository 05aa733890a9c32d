-- `raises::kept_raising` meets its contract. Assumes nothing.
use Rattle.raises.proofs.Calls.{go_on, go_no}
use Rattle.raises.proofs.kept_raising.Goals as goal

pub keep_all-requires : goal.keep_all-requires
keep_all-requires c = search go_on

pub returns-in-Err : goal.returns-in-Err
returns-in-Err c = search go_no
