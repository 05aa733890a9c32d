-- `sets::run_word` meets its contract. Assumes nothing.
use mathlib.Core.Path.{◌≡◌}
use Rattle.roles.specs.Sets.{from}
use Rattle.steps.specs.Code.{set_of}
use Rattle.sets.proofs.run_word.Given as goal

abbrev pub invariant-loop-i : goal.invariant-loop-i
invariant-loop-i g l = g.W.Word.num l.all ≡ set_of l.regs (from l.b l.i)
