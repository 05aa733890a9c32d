-- `phi_pass::index_phis` meets its contract. Assumes nothing.
use borrow.Author.Rules.{rules}
use Rattle.laws.proofs.Branch.{branch}
use Rattle.phi_pass.proofs.Pairs.{indexed_none, indexed_more}
use Rattle.phi_pass.proofs.index_phis.Goals as goal
use Rattle.phi_pass.proofs.index_phis.Goals.{then-phi, else-phi}

pub loop-i-init : goal.loop-i-init
loop-i-init c = search (rules, indexed_none)

pub loop-i-preserved : goal.loop-i-preserved
loop-i-preserved c =
    let more = indexed_more c.loop-i.invariant c.op_at-phi.result c.if-phi.map c.from.result c.op_at-phi.ensures in
    elim c.if-phi.branch [
      | then-phi w ↦ more (rw w.map-is (search (rules, branch))) c.from.ensures c.loop-i-test.true
      | else-phi w ↦ more (rw w.map-is (search (rules, branch))) c.from.ensures c.loop-i-test.true
    ]
