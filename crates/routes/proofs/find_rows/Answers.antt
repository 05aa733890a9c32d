-- `routes::find_rows` meets its contract. Assumes nothing.
use mathlib.Core.Path.{◌≡◌, refl, sym, ◌∙◌}
use mathlib.Core.Bool.{Bool, true, false, ◌||◌}
use Prim.Native.Nat.{ℕ, ◌≤◌}
use native.Mathlib.Omega.{arith}
use borrow.Author.Tests.{lt-ltb, le-ltb, ltb-true}
use lib.Dec.{ltb}
use Rattle.laws.proofs.Branch.{or_false}
use Rattle.rows.proofs.Routes.{words_enough, words_few, words_long, word_few, word_long, by_word, by_wide}
use Rattle.routes.proofs.find_rows.Goals as goal

-- more registers than n are more than m, where m is at most n
wide_at : (wide : Bool) (m n regs : ℕ) → wide || ltb n regs ≡ true → m ≤ n → wide || ltb m regs ≡ true
wide_at true m n regs e h = refl
wide_at false m n regs e h = let l = ltb-true n regs e in lt-ltb m regs (omega arith)

-- registers that n holds, m holds, where n is at most m
word_at : (wide : Bool) (m n regs : ℕ) → wide || ltb n regs ≡ false → n ≤ m → wide || ltb m regs ≡ false
word_at wide m n regs e h = rw ((or_false wide (ltb n regs) e).0, le-ltb m regs few)
  where
    few : regs ≤ m
    few = omega (arith, word_few n wide regs e)

pub live_wide-requires : goal.live_wide-requires
live_wide-requires g c =
    let w = g.met.W.Word.width in (
      c.requires.0,
      words_enough _ _ _ c.words_for.ensures w.some,
      words_few _ _ _ c.words_for.ensures _ w.some w.more (omega (arith, w.span, c.requires.1)),
      words_long _ _ _ c.words_for.ensures _ _ c.requires.2,
    )

pub returns-then-wide-BITS : goal.returns-then-wide-BITS
returns-then-wide-BITS g c = by_wide _ _ _ _ _ _ _ _ (wide_at _ g.W.Word.BITS _ _ c.if-wide-BITS.true (omega arith)) c.words_for.ensures c.live_wide.ensures

pub live_word-requires : goal.live_word-requires
live_word-requires g c =
    let one : c.args.wide || ltb g.W.Word.BITS c.args.regs ≡ false = word_at _ g.W.Word.BITS _ _ c.if-wide-BITS.false (omega arith) in (
      c.requires.0,
      word_few _ _ _ one,
      word_long _ _ _ one g.met.W.Word.width.some _ _ c.requires.2,
    )

pub returns : goal.returns
returns g c =
    let n = g.met.W.Word.numbered in
    by_word _ _ _ (word_at _ g.W.Word.BITS _ _ c.if-wide-BITS.false (omega arith)) g.met.W.Word.width.some _ (g.W.Word.nums c.live_word.new.rows)
    (g.W.Word.nums c.args.rows.now) _ _ (n.long c.live_word.new.rows ∙ c.live_word.auto.rows ∙ sym (n.long c.args.rows.now))
    (n.long c.args.rows.now ∙ c.requires.2) c.live_word.ensures
