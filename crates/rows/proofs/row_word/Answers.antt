-- `rows::row_word` meets its contract. Assumes nothing.
use Rattle.sets.proofs.Sets.{row_told}
use Rattle.rows.proofs.row_word.Goals as goal

pub returns : goal.returns
returns g c = search row_told
