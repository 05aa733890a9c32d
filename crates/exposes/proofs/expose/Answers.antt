-- `exposes::expose` meets its contract. Assumes nothing.
use Rattle.exposes.proofs.Exposing.{expose_skip, expose_put, expose_end}
use Rattle.exposes.proofs.expose.Goals.{then-not-has_reg, else-not-has_reg}
use Rattle.exposes.proofs.expose.Goals as goal

pub loop-i-preserved : goal.loop-i-preserved
loop-i-preserved c = elim c.if-not-has_reg.branch [
  | then-not-has_reg w ↦ rw (w.out-is, w.m-is) (search expose_put)
  | else-not-has_reg w ↦ rw (w.out-is, w.m-is) (search expose_skip)
]

pub returns : goal.returns
returns c = search expose_end
