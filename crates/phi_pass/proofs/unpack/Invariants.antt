-- `phi_pass::unpack` meets its contract, pair by pair. Assumes nothing.
use Rattle.phi_pass.proofs.Pairs.{Spread}
use Rattle.phi_pass.proofs.unpack.Given as goal

abbrev pub invariant-loop-j : goal.invariant-loop-j
invariant-loop-j l = Spread l.queue l.sources l.initial.sources l.j
