-- `blocks::bad_fill` meets its contract. Assumes nothing.
use borrow.Author.Rules.{rules}
use Rattle.laws.proofs.Some.{somewhere}
use Rattle.blocks.specs.Blocks.{bad_fill}
use Rattle.blocks.proofs.bad_fill.Goals as goal

pub returns-then-follows_at : goal.returns-then-follows_at
unfolding bad_fill
returns-then-follows_at c = search (rules, somewhere)
