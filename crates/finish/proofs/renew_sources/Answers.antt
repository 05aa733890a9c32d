-- `finish::renew_sources` meets its contract. Assumes nothing.
use Rattle.finish.proofs.Anew.{words_left, words_after}
use Rattle.finish.proofs.renew_sources.Goals as goal

pub returns : goal.returns
returns c = search (words_left, words_after)
