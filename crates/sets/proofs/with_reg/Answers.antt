-- `sets::with_reg` meets its contract. Assumes nothing.
use borrow.Author.Rules.{rules}
use mathlib.Core.Path.{ap}
use Prim.Native.Nat.{ℕ, ◌/◌}
use native.Mathlib.Omega.{arith}
use Rattle.sets.proofs.Nums.{with_put}
use Rattle.sets.proofs.Words.{with_reg_not}
use Rattle.sets.proofs.with_reg.Goals as goal

pub returns-then-t-reg : goal.returns-then-t-reg
returns-then-t-reg g c =
    with_put _ _ g.met.W.Word.width _ _ c.sized.ensures.1 c.sized.ensures.0 _ _ _ _ _ _ _ _ c.if-t-reg.true c.requires.0 c.BITS-then-t-reg.ensures
    c.bit.ensures c.word.ensures c.put.ensures (omega (arith, ap (λ (y : ℕ). c.args.reg / y) c.BITS.ensures)) c.or-word.ensures

pub returns-else-t-reg : goal.returns-else-t-reg
returns-else-t-reg g c = search (rules, with_reg_not)
