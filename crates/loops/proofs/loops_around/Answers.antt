-- `loops::loops_around` meets its contract. Assumes nothing.
use mathlib.Core.List.{List}
use Prim.Native.Nat.{ℕ, ◌+◌, ◌/◌, ◌≤◌}
use lib.ListN.{length}
use Rattle.code.specs.Inner.{Valid}
use Rattle.loops.specs.Inner.{Space}
use Rattle.std.proofs.lemmas.Result.{err_from_is_err_and}
use Rattle.code.proofs.Passed.{passing}
use Rattle.refusals.proofs.Stages.{onward}
use Rattle.sections.proofs.Rooms.{rooms}
use Rattle.surveys.proofs.Filling.{filling}
use Rattle.loops.proofs.loops_around.Goals as goal

space : (w out : List ℕ) → Valid w → length w / 6 + 1 ≤ length out → Space w out
space w out v h = record { whole = v.whole; few = v.few; fits = h }

pub fill_loops-requires : goal.fill_loops-requires
fill_loops-requires c = search (passing, rooms, space, c.in_ok-room.was)

pub returns-in_err-room : goal.returns-in_err-room
returns-in_err-room c =
    let p = err_from_is_err_and c.from_residual.result c.from_residual.ensures.1 in
    rw (p.1, p.2) (search (filling, onward, c.in_err-room.was))

pub returns : goal.returns
returns c = search (filling, onward, c.in_ok-room.was)
