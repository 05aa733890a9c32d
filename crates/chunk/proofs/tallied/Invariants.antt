-- `chunk::tallied` meets its contract: it counts both as it goes. Assumes nothing.
use mathlib.Core.Path.{◌≡◌}
use mathlib.Core.Bool.{Bool}
use mathlib.Core.List.{List}
use Prim.Native.Nat.{ℕ}
use Rattle.laws.specs.All.{many}
use Rattle.chunk.specs.Chunk.{op_at, is_phi, folds}
use Rattle.chunk.proofs.tallied.Given as goal

-- whether the instruction at k is one that a fold may put away
abbrev pub folding_at : List ℕ → ℕ → Bool
folding_at w k = folds (op_at w k)

abbrev pub invariant-loop-k : goal.invariant-loop-k
invariant-loop-k l = (l.folding ≡ many (folding_at l.code) l.k) × (l.phis ≡ many (is_phi l.code) l.k)
