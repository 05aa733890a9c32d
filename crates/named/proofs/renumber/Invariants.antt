-- `named::renumber` meets its contract. Assumes nothing.
use Rattle.named.specs.Inner.{number_in}
use Rattle.named.proofs.Recoding.{Recoding}
use Rattle.named.proofs.renumber.Given as goal

abbrev pub invariant-loop-k : goal.invariant-loop-k
invariant-loop-k l = Recoding (number_in l.scratch) l.m l.code l.initial.code l.k
