-- `callee::trace` restarts at an earlier position each time, and what is traced from each position passed is the same. Assumes nothing.
use mathlib.Core.Path.{◌≡◌}
use Prim.Native.Nat.{◌≤◌}
use Rattle.callee.specs.Trace.{traced}
use Rattle.callee.proofs.+trace.Given as goal

abbrev pub decreases-trace : goal.decreases-trace
decreases-trace l = l.j

abbrev pub invariant-loop-d : goal.invariant-loop-d
invariant-loop-d l = (l.d ≤ l.j) × (traced l.code l.a l.d ≡ traced l.code l.a l.j)

abbrev pub decreases-loop-d : goal.decreases-loop-d
decreases-loop-d l = l.d
