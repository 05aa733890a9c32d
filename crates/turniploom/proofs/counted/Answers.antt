-- `turniploom::counted` meets its contract: each arm knows the case. Assumes nothing.
use Rattle.turniploom.proofs.counted.Goals as goal

pub returns-in-Ok : goal.returns-in-Ok
returns-in-Ok c = cc
