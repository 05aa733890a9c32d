-- `area::store` meets its contract. Assumes nothing.
use Rattle.area.proofs.Calls.{Storing}
use Rattle.area.proofs.store.Given as goal

abbrev pub invariant-loop-i : goal.invariant-loop-i
invariant-loop-i l = Storing l.file l.list l.res l.initial.area l.at l.area l.i
