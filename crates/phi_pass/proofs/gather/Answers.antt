-- `phi_pass::gather` meets its contract. Assumes nothing.
use borrow.Author.Rules.{rules}
use mathlib.Core.Path.{◌≡◌, sym, ◌∙◌}
use Prim.Native.Nat.{◌+◌, ◌*◌, ◌/◌, ◌%◌}
use native.Mathlib.Omega.{arith}
use Rattle.phi_pass.proofs.Pairs.{gathered_put, gathered_few, gathered_skip, gathered_dead}
use Rattle.phi_pass.proofs.gather.Goals as goal
use Rattle.phi_pass.proofs.gather.Goals.{then-dead-k-eq0+then-has_pair, then-dead-k-eq0+else-has_pair, else-dead-k-eq0}

pub loop-k-preserved : goal.loop-k-preserved
loop-k-preserved c =
    let g = c.loop-k.invariant.0 in
    let n = c.loop-k.invariant.1 in
    elim c.if-dead-k-eq0.branch [
      | then-dead-k-eq0+then-has_pair w ↦
          let p = w.pack.ensures in
          let h = sym w.has_pair.ensures ∙ w.if-has_pair.true in
          let q = gathered_put g _ _ _ w.if-dead-k-eq0.true h p.0 p.1 (omega arith) n c.requires.1 (gathered_few g) c.loop-k-test.true in
          let v : w.pack.result / 65536 * 65536 + w.pack.result % 65536 ≡ w.pack.result = omega arith in
          rw (w.queue-is, w.to-is) (rw v at q, search rules)
      | then-dead-k-eq0+else-has_pair w ↦
          rw (w.queue-is, w.to-is) (gathered_skip g w.if-dead-k-eq0.true (sym w.has_pair.ensures ∙ w.if-has_pair.false), n)
      | else-dead-k-eq0 w ↦ rw (w.queue-is, w.to-is) (gathered_dead g w.if-dead-k-eq0.false, n)
    ]
