-- `rows::row_wide` meets its contract. Assumes nothing.
use Rattle.sets.proofs.Words.{row_holds}
use Rattle.rows.proofs.row_wide.Goals as goal

pub returns : goal.returns
returns g c = search row_holds
