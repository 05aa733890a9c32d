-- `sets::with_named` meets its contract. Assumes nothing.
use Rattle.sets.proofs.Words.{more}
use Rattle.sets.proofs.with_named.Goals as goal

pub returns : goal.returns
returns g c = rw (← c.from.ensures, ← c.from-2.ensures, ← c.from-3.ensures) (search more)
