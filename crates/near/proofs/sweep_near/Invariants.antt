-- `near::sweep_near` meets its contract: the loop is a sweep that has come down to k. Assumes nothing.
use Rattle.near.proofs.Near.{Coming}
use Rattle.near.proofs.sweep_near.Given as goal

abbrev pub invariant-loop-k : goal.invariant-loop-k
invariant-loop-k l = Coming l.all l.out l.regs l.code l.start l.from l.low l.initial.rows l.rows l.changed l.back l.k
