-- `steps::touch_at` meets its contract. Assumes nothing.
use Rattle.steps.proofs.Touched.{at_idle}
use Rattle.steps.proofs.touch_at.Goals as goal

pub returns-then-idle : goal.returns-then-idle
returns-then-idle c = search at_idle
