-- `pushes::takes_back` meets its contract: each store passed takes its value back. Assumes nothing.
use mathlib.Core.Path.{◌≡◌}
use mathlib.Core.Bool.{true}
use Rattle.laws.specs.All.{every}
use Rattle.pushes.specs.Pushes.{taken_at}
use Rattle.pushes.proofs.takes_back.Given as goal

abbrev pub invariant-loop-i : goal.invariant-loop-i
invariant-loop-i l = every (taken_at l.code l.k l.p) l.i ≡ true
