-- `seek::search` meets its contract. The measure: the ways out of instructions with no mark, and the waiting ones. Assumes nothing.
use mathlib.Core.Path.{refl}
use borrow.Author.Rules.{rules}
use native.Mathlib.Omega.{arith}
use Rattle.seek.proofs.Loop.{few_wait, skip_seen, place, mark_in, room_for_2, turning}
use Rattle.seek.proofs.search.Goals as goal

pub follow-top-requires : goal.follow-top-requires
follow-top-requires c = (search room_for_2, search rules, search (rules, place), search rules)

pub loop-top-init : goal.loop-top-init
loop-top-init c = search (rules, turning)

pub offset_bounds-todo-top : goal.offset_bounds-todo-top
offset_bounds-todo-top c = omega (arith, few_wait _ _ _ _ _ _ _ _ c.loop-top.invariant (omega arith))

pub bounds-todo-top : goal.bounds-todo-top
bounds-todo-top c = search (rules, turning)

pub returns-then-uses : goal.returns-then-uses
returns-then-uses c = search (rules, turning)

pub loop-top-smaller-then-gives : goal.loop-top-smaller-then-gives
loop-top-smaller-then-gives c = search (rules, turning)

pub loop-top-preserved-then-gives : goal.loop-top-preserved-then-gives
loop-top-preserved-then-gives c = search (rules, turning)

pub loop-top-smaller : goal.loop-top-smaller
loop-top-smaller c = search (rules, turning)

pub loop-top-preserved : goal.loop-top-preserved
loop-top-preserved c = search (rules, turning)

pub returns : goal.returns
returns c = search (rules, turning)
