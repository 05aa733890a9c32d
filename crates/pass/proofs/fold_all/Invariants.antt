-- `pass::fold_all` meets its contract: after ip attempts the chunk is the definition's. Assumes nothing.
use Rattle.fold.specs.Plan.{chunk}
use Rattle.fold.proofs.Grown.{Asked}
use Rattle.pass.proofs.fold_all.Given as goal

abbrev pub invariant-loop-ip : goal.invariant-loop-ip
invariant-loop-ip l =
    Asked l.strict l.landings (chunk l.initial.code l.initial.dead l.initial.kinds l.initial.words l.constants) (chunk l.code l.dead l.kinds l.words l.held) l.last l.ip
