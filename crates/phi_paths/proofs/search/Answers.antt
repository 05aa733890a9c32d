-- `phi_paths::search` meets its contract. The measure: the ways out of positions with no mark, and the waiting positions. Assumes nothing.
use borrow.Author.Rules.{rules}
use native.Mathlib.Omega.{arith}
use Rattle.paths.proofs.Loop.{few_wait, room_for_2, turning}
use Rattle.phi_paths.proofs.Loop.{turn}
use Rattle.phi_paths.proofs.search.Goals as goal

pub follow-top-requires : goal.follow-top-requires
follow-top-requires c = (search room_for_2, omega arith)

pub bounds-todo-0 : goal.bounds-todo-0
bounds-todo-0 c = search (rules, turning, turn)

pub loop-top-init : goal.loop-top-init
loop-top-init c = search (rules, turning, turn)

pub overflow_sub-top : goal.overflow_sub-top
overflow_sub-top c = search (rules, turning, turn)

pub offset_bounds-todo-top : goal.offset_bounds-todo-top
offset_bounds-todo-top c = omega (arith, few_wait _ _ _ _ _ _ _ _ _ _ c.loop-top.invariant (omega arith))

pub bounds-todo-top : goal.bounds-todo-top
bounds-todo-top c = search (rules, turning, turn)

pub loop-top-smaller-then-n-j : goal.loop-top-smaller-then-n-j
loop-top-smaller-then-n-j c = search (rules, turning, turn)

pub loop-top-preserved-then-n-j : goal.loop-top-preserved-then-n-j
loop-top-preserved-then-n-j c = search (rules, turning, turn)

pub bounds-seen-j : goal.bounds-seen-j
bounds-seen-j c = search (rules, turning, turn)

pub loop-top-smaller-then-seen-j-ne0 : goal.loop-top-smaller-then-seen-j-ne0
loop-top-smaller-then-seen-j-ne0 c = search (rules, turning, turn)

pub loop-top-preserved-then-seen-j-ne0 : goal.loop-top-preserved-then-seen-j-ne0
loop-top-preserved-then-seen-j-ne0 c = search (rules, turning, turn)

pub bounds-seen-j-in-loop-top : goal.bounds-seen-j-in-loop-top
bounds-seen-j-in-loop-top c = search (rules, turning, turn)

pub ins_at-i-requires : goal.ins_at-i-requires
ins_at-i-requires c = search (rules, turning, turn)

pub reads-requires : goal.reads-requires
reads-requires c = search (rules, turning, turn)

pub shape_of-seen-then-reads : goal.shape_of-seen-then-reads
shape_of-seen-then-reads c = search (rules, turning, turn)

pub shape_of-todo-then-reads : goal.shape_of-todo-then-reads
shape_of-todo-then-reads c = search (rules, turning, turn)

pub returns-then-reads : goal.returns-then-reads
returns-then-reads c = search (rules, turning, turn)

pub stops-requires : goal.stops-requires
stops-requires c = search (rules, turning, turn)

pub loop-top-smaller-then-stops : goal.loop-top-smaller-then-stops
loop-top-smaller-then-stops c = search (rules, turning, turn)

pub loop-top-preserved-then-stops : goal.loop-top-preserved-then-stops
loop-top-preserved-then-stops c = search (rules, turning, turn)

pub loop-top-smaller : goal.loop-top-smaller
loop-top-smaller c = search (rules, turning, turn)

pub loop-top-preserved : goal.loop-top-preserved
loop-top-preserved c = search (rules, turning, turn)

pub shape_of-seen : goal.shape_of-seen
shape_of-seen c = search (rules, turning, turn)

pub shape_of-todo : goal.shape_of-todo
shape_of-todo c = search (rules, turning, turn)

pub returns : goal.returns
returns c = search (rules, turning, turn)
