-- `near::put_word` meets its contract. Assumes nothing.
use Rattle.flow.proofs.Loop.{put_same, put_new}
use Rattle.near.proofs.Near.{row_with}
use Rattle.near.proofs.put_word.Goals as goal

pub returns-then-rows-k : goal.returns-then-rows-k
returns-then-rows-k c = search (row_with, put_same)

pub returns : goal.returns
returns c = search (row_with, put_new)
