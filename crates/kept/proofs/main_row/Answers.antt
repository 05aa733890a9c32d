-- `kept::main_row` meets its contract. Assumes nothing.
use borrow.Author.Rules.{rules}
use native.Mathlib.Omega.{arith}
use Rattle.sets.proofs.Nums.{empty_small}
use Rattle.kept.proofs.Levels.{mains, main_fits}
use Rattle.kept.proofs.main_row.Goals as goal

pub overflow_mul-a : goal.overflow_mul-a
overflow_mul-a g c = search (rules, mains)

pub join_row-whole-requires : goal.join_row-whole-requires
join_row-whole-requires g c = (
  c.requires.0.narrow,
  omega (arith, g.met.W.Word.numbered.long c.args.rows.now, main_fits _ _ _ _ _ _ _ _ _ c.requires.0 c.requires.1 c.after-a.ensures),
  empty_small _ _ _ g.met.W.Word.width c.empty.ensures,
  c.requires.0.small,
)

pub returns : goal.returns
returns g c = let x = c.empty.ensures in search (rules, mains)
