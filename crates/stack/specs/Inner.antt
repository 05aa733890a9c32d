-- What only the inside of `stack` needs: contracts of inner functions and proofs cite it, no promise does. Assumes nothing.
use Rattle.std.specs.Prelude.{ℕ, ◌+◌, ◌≤◌}
use Rattle.code.specs.declared.Ins.{Ins}
use Rattle.stack.specs.declared.Turn.{Turn}
use Rattle.stack.specs.declared.Turn.TheVariants.{Ends, Needs}

-- x is at most 255, as the record rules have it
pub record Narrow (i : Ins) : Type 0 where
  pub narrow : i.x ≤ 255

-- the depth grows by no more than 65,535
abbrev pub Grows : ℕ → Turn → Type 0
Grows need (Needs m) = m ≤ need + 65535
Grows need (Ends s) = Unit {0}
