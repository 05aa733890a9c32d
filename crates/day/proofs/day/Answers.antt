-- `day::day` meets its contract. Assumes nothing.
use borrow.Author.Rules.{rules}
use Rattle.day.proofs.Days.{day_walk, day_fits}
use Rattle.day.proofs.day.Goals as goal

pub count_all-levels-requires : goal.count_all-levels-requires
count_all-levels-requires c = (
  day_walk _ _ _ _ _ _ c.in_ok-staged.ensures c.in_ok-judge.ensures _ c.steps_of-m.ensures (search rules),
  day_fits _ _ _ _ _ c.in_ok-staged.ensures,
)
