-- `far::put_raising` meets its contract. Assumes nothing.
use native.Mathlib.Omega.{arith}
use Rattle.flow.specs.Words.{Small}
use Rattle.far.proofs.Sweeps.{put_quiet, put_leaves}
use Rattle.far.proofs.put_raising.Goals as goal

pub returns-then-quiet : goal.returns-then-quiet
returns-then-quiet c =
    let small : Small 64 c.args.rows.now = λ j. omega
    (arith, c.slice_known-1.given j) in
    let still = c.quiet.ensures c.if-quiet.true in
    search put_quiet

pub returns : goal.returns
returns c =
    let small : Small 64 c.args.rows.now =
    λ j. omega (arith, c.slice_known-1.given j) in
    search put_leaves
