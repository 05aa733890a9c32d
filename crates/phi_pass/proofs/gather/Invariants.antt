-- `phi_pass::gather` meets its contract. Assumes nothing.
use mathlib.Core.Path.{◌≡◌}
use lib.ListN.{length}
use Rattle.phi_pass.proofs.Pairs.{Gathered}
use Rattle.phi_pass.proofs.gather.Given as goal

abbrev pub invariant-loop-k : goal.invariant-loop-k
invariant-loop-k l = Gathered l.code l.map l.sources l.dead l.queue l.to l.k × (length l.queue ≡ length l.initial.queue)
