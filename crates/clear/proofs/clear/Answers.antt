-- `clear::clear` meets its contract. Assumes nothing.
use Rattle.clear.proofs.Tested.{held_of, refused_by, told_by}
use Rattle.clear.proofs.clear.Goals as goal

pub clear_unused-left-requires : goal.clear_unused-left-requires
clear_unused-left-requires c = held_of _ _ _ c.ready.ensures _
    c.in-Ok.is

pub returns-in-Err : goal.returns-in-Err
returns-in-Err c = refused_by _ _ _ c.ready.ensures _ _ c.in-Err.is c.from.ensures

pub returns-in-Ok : goal.returns-in-Ok
returns-in-Ok c = told_by _ _ _ c.ready.ensures _ _ _ _
    c.in-Ok.is
    c.clear_unused-left.ensures c.tell.ensures
