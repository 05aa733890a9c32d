-- `sets::without_run` meets its contract. Assumes nothing.
use Rattle.roles.specs.Sets.{from}
use Rattle.flow.specs.Set.{minus}
use Rattle.flow.specs.Words.{value}
use Rattle.flow.specs.Inner.{Holds}
use Rattle.steps.specs.Code.{set_of}
use Rattle.sets.proofs.without_run.Given as goal

abbrev pub invariant-loop-i : goal.invariant-loop-i
invariant-loop-i g l = Holds g.W.Word.BITS (g.W.Word.words_of l.rest) (minus (value g.W.Word.BITS (g.W.Word.words_of l.initial.rest)) (set_of l.regs (from l.b l.i)))
