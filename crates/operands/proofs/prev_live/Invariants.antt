-- `operands::prev_live` meets its contract: what is left to search has the answer of the whole. Assumes nothing.
use mathlib.Core.Path.{◌≡◌}
use Rattle.operands.specs.Operands.{prev_live}
use Rattle.operands.proofs.prev_live.Given as goal

abbrev pub invariant-loop-i : goal.invariant-loop-i
invariant-loop-i l = prev_live l.dead l.i ≡ prev_live l.dead l.from
