-- `params::params_in` meets its contract. Assumes nothing.
use mathlib.Core.Path.{◌≡◌}
use Prim.Native.Nat.{◌≤◌}
use Rattle.laws.specs.Mask.{mask}
use Rattle.params.specs.Masks.{written_in}
use Rattle.params.proofs.params_in.Given as goal

abbrev pub invariant-loop-r : goal.invariant-loop-r
invariant-loop-r l = (l.r ≤ l.n) × (l.m ≡ mask (written_in l.code) l.r)
