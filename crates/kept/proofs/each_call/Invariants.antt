-- `kept::each_call` meets its contract. Assumes nothing.
use Prim.Native.Nat.{suc}
use Rattle.code.specs.Ins.{count}
use Rattle.flow.specs.Words.{rows_of}
use Rattle.kept.proofs.Passes.{Filling}
use Rattle.kept.proofs.each_call.Given as goal

abbrev pub invariant-loop-k : goal.invariant-loop-k
invariant-loop-k g l = Filling l.regs l.code l.tries (rows_of g.W.Word.BITS l.words (suc (count l.code)) (g.W.Word.nums l.rows)) l.initial.offsets l.initial.list
    l.offsets l.list l.m l.k
