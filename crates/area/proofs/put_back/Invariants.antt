-- `area::put_back` meets its contract. Assumes nothing.
use Rattle.area.proofs.Calls.{Backing}
use Rattle.area.proofs.put_back.Given as goal

abbrev pub invariant-loop-i : goal.invariant-loop-i
invariant-loop-i l = Backing l.regs l.area l.base l.len l.initial.file l.file l.i
