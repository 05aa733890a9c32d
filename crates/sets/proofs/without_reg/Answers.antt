-- `sets::without_reg` meets its contract. Assumes nothing.
use borrow.Author.Rules.{rules}
use mathlib.Core.Path.{ap}
use Prim.Native.Nat.{ℕ, ◌/◌}
use Rattle.sets.proofs.Nums.{without_put}
use Rattle.sets.proofs.Words.{without_reg_not}
use Rattle.sets.proofs.without_reg.Goals as goal

pub returns-then-t-reg : goal.returns-then-t-reg
returns-then-t-reg g c =
    without_put _ _ g.met.W.Word.width _ _ c.sized.ensures.1 c.sized.ensures.0 _ _ _ _ _ _ _ _ c.if-t-reg.true c.requires.0 c.BITS-then-t-reg.ensures
    c.bit.ensures c.word.ensures c.put.ensures (ap (λ (y : ℕ). c.args.reg / y) c.BITS.ensures) c.less-word.ensures

pub returns-else-t-reg : goal.returns-else-t-reg
returns-else-t-reg g c = search (rules, without_reg_not)
