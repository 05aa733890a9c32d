-- `sets::reg_word` meets its contract. Assumes nothing.
use Rattle.sets.proofs.Sets.{reg_is, reg_else}
use Rattle.sets.proofs.reg_word.Goals as goal

pub returns-then-t-r : goal.returns-then-t-r
returns-then-t-r g c = search reg_is

pub returns-else-t-r : goal.returns-else-t-r
returns-else-t-r g c = search reg_else
