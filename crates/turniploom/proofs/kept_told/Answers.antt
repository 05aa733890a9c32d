-- `turniploom::kept_told` meets its contract: each arm knows the case. Assumes nothing.
use Rattle.turniploom.proofs.Answers.{of_case}
use Rattle.answers.specs.Answers.{kept_told}
use Rattle.turniploom.proofs.kept_told.Goals as goal

pub returns-in-Is : goal.returns-in-Is
returns-in-Is c = search (of_case kept_told)

pub returns-in-No : goal.returns-in-No
returns-in-No c = search (of_case kept_told)
