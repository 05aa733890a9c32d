-- `landings::fill` meets its contract: cleared, then each jump and each handler. Assumes nothing.
use borrow.Author.Rules.{rules}
use Rattle.landings.proofs.Filled.{jumps_low, filled}
use mathlib.Core.Path.{◌∙◌}
use Rattle.std.proofs.lemmas.Grind.{common_steps}
use native.Mathlib.Omega.{arith}
use Rattle.landings.specs.Inner.{FewAt}
use Rattle.landings.proofs.fill.Goals as goal

pub count_handlers-requires : goal.count_handlers-requires
count_handlers-requires c =
    let z : FewAt c.fill.new.self 0 = grind (arith, common_steps) in
    search (rules, jumps_low)

pub returns : goal.returns
returns c =
    let z : FewAt c.fill.new.self 0 = grind (arith, common_steps) in
    filled _ _ _ z c.count_jumps.ensures _ _ c.count_handlers.ensures (c.fill.ensures.len ∙ c.requires.1)
