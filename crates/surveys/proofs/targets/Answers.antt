-- `surveys::targets` meets its contract. Assumes nothing.
use Rattle.std.proofs.lemmas.Result.{err_from_is_err_and}
use Rattle.code.proofs.Passed.{passing}
use Rattle.refusals.proofs.Stages.{onward}
use Rattle.sections.proofs.Rooms.{rooms}
use Rattle.surveys.proofs.Filling.{filling}
use Rattle.surveys.proofs.targets.Goals as goal

pub fill_targets-requires : goal.fill_targets-requires
fill_targets-requires c = search (passing, rooms, c.in_ok-room.was)

pub returns-in_err-room : goal.returns-in_err-room
returns-in_err-room c =
    let p = err_from_is_err_and c.from_residual.result c.from_residual.ensures.1 in
    rw (p.1, p.2) (search (filling, onward, c.in_err-room.was))

pub returns : goal.returns
returns c = search (filling, onward, c.in_ok-room.was)
