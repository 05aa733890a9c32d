-- `far::row_raising` meets its contract. Assumes nothing.
use Rattle.far.proofs.Sweeps.{holds_level, holds_plain}
use Rattle.far.proofs.row_raising.Goals as goal

pub returns-then-may : goal.returns-then-may
returns-then-may c = search holds_level

pub returns : goal.returns
returns c = search holds_plain
