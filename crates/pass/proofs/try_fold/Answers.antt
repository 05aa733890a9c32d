-- `pass::try_fold` meets its contract: a plan's places are there, and there is room for its result. Assumes nothing.
use Rattle.fold.proofs.Planned.{first_there, second_there, room_there}
use Rattle.pass.proofs.try_fold.Goals as goal

pub apply-requires : goal.apply-requires
apply-requires c =
    let e = c.plan_at.ensures in
    let f = c.in-Some.is in
    (first_there _ _ _ e f c.requires, second_there _ _ _ e f c.requires, c.requires.readable.marked, room_there _ _ _ e f c.requires)
