-- `params::params_written` meets its contract. Assumes nothing.
use Rattle.code.proofs.Passed.{passing}
use Rattle.params.proofs.params_written.Goals as goal

pub params_in-requires : goal.params_in-requires
params_in-requires c = search (passing, c.in_ok-check.was)
