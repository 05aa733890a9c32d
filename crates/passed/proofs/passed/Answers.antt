-- `passed::passed` meets its contract. Assumes nothing.
use native.Mathlib.Omega.{arith}
use Rattle.code.proofs.Passed.{whole_at, near_at}
use Rattle.passed.proofs.passed.Goals as goal

pub passed_at-requires : goal.passed_at-requires
passed_at-requires c = (whole_at _ _ _ c.in_ok-c.ensures, omega (arith, near_at _ _ _ c.in_ok-c.ensures))
