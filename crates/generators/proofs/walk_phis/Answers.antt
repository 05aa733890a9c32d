-- `generators::walk_phis` meets its contract. Assumes nothing.
use borrow.Author.Rules.{rules}
use Rattle.generators.proofs.Dying.{dies, walking}
use Rattle.generators.proofs.walk_phis.Goals as goal

pub loop-k-init : goal.loop-k-init
loop-k-init c = search (rules, walking)

pub ins_at-i-requires : goal.ins_at-i-requires
ins_at-i-requires c = search (rules, walking)

pub loop-k-smaller-then-i-ne-Phi : goal.loop-k-smaller-then-i-ne-Phi
loop-k-smaller-then-i-ne-Phi c = search (rules, walking)

pub loop-k-preserved-then-i-ne-Phi : goal.loop-k-preserved-then-i-ne-Phi
loop-k-preserved-then-i-ne-Phi c = search (rules, walking)

pub dead-requires : goal.dead-requires
dead-requires c = search (rules, walking)

pub loop-k-smaller : goal.loop-k-smaller
loop-k-smaller c = search (rules, walking)

pub loop-k-preserved : goal.loop-k-preserved
loop-k-preserved c = search dies

pub shape_of-seen : goal.shape_of-seen
shape_of-seen c = search (rules, walking)

pub shape_of-todo : goal.shape_of-todo
shape_of-todo c = search (rules, walking)

pub returns : goal.returns
returns c = search (rules, walking)

pub returns-then-not-dead : goal.returns-then-not-dead
returns-then-not-dead c = search (rules, walking)
