-- `kept::keep_level` meets its contract. Assumes nothing.
use borrow.Author.Rules.{rules}
use native.Mathlib.Omega.{arith}
use Rattle.kept.proofs.Levels.{levels, level_rest}
use Rattle.kept.proofs.keep_level.Goals as goal

pub list_set-at-requires : goal.list_set-at-requires
list_set-at-requires g c = search (rules, levels)

pub list_tries-requires : goal.list_tries-requires
list_tries-requires g c = (
  c.requires.0.valid.few,
  c.requires.0.narrow,
  omega (arith, g.met.W.Word.numbered.long c.args.rows.now, c.requires.0.room),
  c.main_row-main.ensures.small,
  c.requires.0.small,
  level_rest _ _ _ _ _ _ _ _ c.requires.0 _ c.main_row-main.ensures _ _ c.requires.2 _ _ c.list_set-at.ensures,
)

pub shape_of-out : goal.shape_of-out
shape_of-out g c = search (rules, levels)

pub returns : goal.returns
returns g c = search (rules, levels)
