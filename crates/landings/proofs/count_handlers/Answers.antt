-- `landings::count_handlers` meets its contract. Assumes nothing.
use borrow.Author.Rules.{rules}
use Rattle.landings.proofs.Filled.{handled_none, handle_fits}
use Rattle.landings.proofs.count_handlers.Goals as goal

pub loop-j-init : goal.loop-j-init
loop-j-init c = search (rules, handled_none)

pub bump-requires : goal.bump-requires
bump-requires c = search (rules, handle_fits)
