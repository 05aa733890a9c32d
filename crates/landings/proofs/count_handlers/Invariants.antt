-- `landings::count_handlers` meets its contract. Assumes nothing.
use Rattle.landings.specs.Inner.{Handled}
use Rattle.landings.proofs.count_handlers.Given as goal

abbrev pub invariant-loop-j : goal.invariant-loop-j
invariant-loop-j l = Handled l.tries l.initial.landings l.landings l.j
