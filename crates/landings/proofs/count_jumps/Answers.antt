-- `landings::count_jumps` meets its contract. Assumes nothing.
use borrow.Author.Rules.{rules}
use Rattle.landings.proofs.Filled.{jumped_none, jump_fits}
use Rattle.landings.proofs.count_jumps.Goals as goal

pub loop-k-init : goal.loop-k-init
loop-k-init c = search (rules, jumped_none)

pub bump-requires : goal.bump-requires
bump-requires c = search (rules, jump_fits)
