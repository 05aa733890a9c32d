-- `blocks::weigh` meets its contract. Assumes nothing.
use Rattle.blocks.proofs.Bytes.{Weighing}
use Rattle.blocks.proofs.weigh.Given as goal

abbrev pub invariant-loop-m : goal.invariant-loop-m
invariant-loop-m l = Weighing l.t l.at l.sum l.m
