-- `pushes::stores_from` meets its contract: what is left begins where the whole does. Assumes nothing.
use mathlib.Core.Path.{◌≡◌}
use Rattle.pushes.specs.Pushes.{stores_from}
use Rattle.pushes.proofs.stores_from.Given as goal

abbrev pub invariant-loop-k : goal.invariant-loop-k
invariant-loop-k l = stores_from l.code l.k ≡ stores_from l.code l.d
