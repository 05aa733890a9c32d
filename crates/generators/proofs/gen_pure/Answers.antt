-- `generators::gen_pure` meets its contract. Assumes nothing.
use Rattle.std.proofs.lemmas.Result.{err_from_is_err_and}
use Rattle.refusals.proofs.Stages.{onward}
use Rattle.unread.proofs.Telling.{code_room, telling}
use Rattle.generators.proofs.gen_pure.Goals as goal

pub generates-requires : goal.generates-requires
generates-requires c = search (code_room, c.in_ok-room.was)

pub returns-in_err-room : goal.returns-in_err-room
returns-in_err-room c =
    let p = err_from_is_err_and c.from_residual.result c.from_residual.ensures.1 in
    rw (p.1, p.2) (search (telling, onward, c.in_err-room.was))

pub returns : goal.returns
returns c = search (telling, onward, c.in_ok-room.was)
