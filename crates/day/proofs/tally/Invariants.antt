-- `day::tally` meets its contract. Assumes nothing.
use Rattle.day.proofs.Counts.{Counting}
use Rattle.day.proofs.tally.Given as goal

abbrev pub invariant-loop-s : goal.invariant-loop-s
invariant-loop-s l = Counting l.code l.t l.regs l.initial.reads l.reads l.levels l.steps l.s
