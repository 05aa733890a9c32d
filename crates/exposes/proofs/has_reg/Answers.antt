-- `exposes::has_reg` meets its contract. Assumes nothing.
use mathlib.Core.Path.{◌∙◌}
use Rattle.exposes.proofs.Exposing.{has_is, seek_start, seek_found, seek_more, seek_end}
use Rattle.exposes.proofs.has_reg.Goals as goal

pub returns-then-l-gt16 : goal.returns-then-l-gt16
returns-then-l-gt16 c = c.contains.ensures.value ∙ has_is c.args.r c.args.l.now

pub loop-i-init : goal.loop-i-init
loop-i-init c = search seek_start

pub returns-then-l-i : goal.returns-then-l-i
returns-then-l-i c = search seek_found

pub loop-i-preserved : goal.loop-i-preserved
loop-i-preserved c = search seek_more

pub returns : goal.returns
returns c = search seek_end
