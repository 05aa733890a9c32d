-- `landings::count_jumps` meets its contract. Assumes nothing.
use Rattle.landings.specs.Inner.{Jumped}
use Rattle.landings.proofs.count_jumps.Given as goal

abbrev pub invariant-loop-k : goal.invariant-loop-k
invariant-loop-k l = Jumped l.code l.initial.landings l.landings l.k
