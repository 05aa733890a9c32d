-- `trace::judge` meets its contract. Assumes nothing.
use Rattle.trace.proofs.Calls.{Judging}
use Rattle.trace.proofs.judge.Given as goal

abbrev pub invariant-loop-b : goal.invariant-loop-b
invariant-loop-b l = Judging l.code l.tries l.t l.b
