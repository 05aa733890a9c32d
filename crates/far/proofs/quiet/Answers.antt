-- `far::quiet` meets its contract. Assumes nothing.
use Rattle.far.proofs.Sweeps.{quiet_none}
use Rattle.far.proofs.quiet.Goals as goal

pub returns-then-tries-lt2 : goal.returns-then-tries-lt2
returns-then-tries-lt2 c e = search quiet_none
