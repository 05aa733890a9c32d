-- `exposes::expose` meets its contract. Assumes nothing.
use Rattle.exposes.proofs.Exposing.{Exposing}
use Rattle.exposes.proofs.expose.Given as goal

abbrev pub invariant-loop-i : goal.invariant-loop-i
invariant-loop-i l = Exposing l.plain l.list l.initial.out l.m l.i l.out
