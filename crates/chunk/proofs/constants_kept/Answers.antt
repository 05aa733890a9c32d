-- `chunk::constants_kept` meets its contract. Assumes nothing.
use Rattle.chunk.proofs.Kept.{kinds_there, words_there, all_in}
use Rattle.chunk.proofs.constants_kept.Goals as goal

pub each_kept-requires : goal.each_kept-requires
each_kept-requires c = (kinds_there _ _ _ c.if-within.true, words_there _ _ _ c.if-within.true)

pub returns-then-within : goal.returns-then-within
returns-then-within c = search all_in
