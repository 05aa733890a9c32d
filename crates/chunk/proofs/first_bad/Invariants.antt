-- `chunk::first_bad` meets its contract: what is left to walk has the answer of the whole. Assumes nothing.
use mathlib.Core.Path.{◌≡◌}
use Prim.Native.Nat.{◌-◌}
use Rattle.laws.specs.Walk.{first}
use Rattle.chunk.specs.Chunk.{breaks_at}
use Rattle.chunk.specs.Check.{first_bad_of}
use Rattle.chunk.proofs.first_bad.Given as goal

abbrev pub invariant-loop-k : goal.invariant-loop-k
invariant-loop-k l = first (breaks_at l.code) l.k (l.n - l.k) ≡ first_bad_of l.code
