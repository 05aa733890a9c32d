-- `seek::search` meets its contract. The measure: the ways out of instructions with no mark, and the waiting ones. Assumes nothing.
use Prim.Native.Nat.{◌+◌, ◌/◌}
use lib.ListN.{length}
use Rattle.paths.specs.Inner.{owed}
use Rattle.seek.specs.Asked.{seek_next}
use Rattle.seek.proofs.Loop.{Loop}
use Rattle.seek.proofs.search.Given as goal

abbrev pub invariant-loop-top : goal.invariant-loop-top
invariant-loop-top l = Loop l.code l.r l.start l.initial.seen l.initial.todo l.seen l.todo l.top

abbrev pub decreases-loop-top : goal.decreases-loop-top
decreases-loop-top l = owed (seek_next l.code) l.seen (length l.code / 6) + l.top
