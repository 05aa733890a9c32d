-- `needed::needed` meets its contract. Assumes nothing.
use Rattle.std.proofs.lemmas.Result.{err_from_is_err_and}
use Rattle.needed.proofs.Telling.{place_room, place_in, chain}
use Rattle.unread.proofs.Telling.{telling}
use Rattle.needed.proofs.needed.Goals as goal

pub asks-requires : goal.asks-requires
asks-requires c = (search (place_room, c.in_ok-room.was), search (place_in, c.in_ok-room.was))

pub returns-in_err-room : goal.returns-in_err-room
returns-in_err-room c =
    let p = err_from_is_err_and c.from_residual.result c.from_residual.ensures.1 in
    rw (p.1, p.2) (search (telling, chain, c.in_err-room.was))

pub returns : goal.returns
returns c = search (telling, chain, c.in_ok-room.was)
