-- `rows::given_word` meets its contract. Assumes nothing.
use Rattle.sets.proofs.Sets.{both_of}
use Rattle.rows.proofs.given_word.Goals as goal

pub returns : goal.returns
returns g c = search both_of
