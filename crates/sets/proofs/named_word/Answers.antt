-- `sets::named_word` meets its contract. Assumes nothing.
use Rattle.sets.proofs.Sets.{both_of}
use Rattle.sets.proofs.named_word.Goals as goal

pub returns : goal.returns
returns g c = rw (← c.from.ensures, ← c.from-2.ensures, ← c.from-3.ensures) (search both_of)
