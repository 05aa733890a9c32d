-- What the answers of blocks rest on: one law for each way out. Assumes nothing.
use mathlib.Core.Path.{◌≡◌, sym, ap, ◌∙◌}
use mathlib.Core.Bool.{Bool, true, false}
use mathlib.Core.List.{List}
use Prim.Native.Nat.{ℕ, suc, ◌+◌, ◌-◌, ◌*◌, ◌/◌, ◌%◌, ◌≤◌, ◌<◌, zero-le}
use native.Mathlib.Numerals.{add-one}
use native.Mathlib.Omega.{arith}
use borrow.Author.Tests.{lt-ltb, le-ltb}
use lib.ListN.{length}
use Rattle.blocks.specs.Blocks.{bad_check, bad_fill, blocks_of}
use Rattle.std.specs.declared.result.Result.TheVariants.{Err}
use Rattle.trace.specs.declared.Wrong.TheVariants.{Check, Filler, Move}
use Rattle.moves.specs.Moves.{first_step}
use Rattle.trace.specs.Trace.{Verdict, Fine, wrong_in, verdict_from, verdict_of}

-- ---- blocks

pub record Judging (w tries t : List ℕ) (b : ℕ) : Type 0 where
  pub le : b ≤ length t / 512
  pub so : verdict_from w tries t b (blocks_of t - b) ≡ verdict_of w tries t

module _ (w tries t : List ℕ) where
  pub judging_start : Judging w tries t 0
  unfolding verdict_of
  judging_start = record { le = zero-le; so = ap (verdict_from w tries t 0) (none (blocks_of t)) }
    where
      none : (x : ℕ) → x - 0 ≡ x
      none x = omega arith

  module _ (b : ℕ) (j : Judging w tries t b) where
    opened : b < blocks_of t → wrong_in w tries t b (verdict_from w tries t (b + 1) (blocks_of t - (b + 1))) ≡ verdict_of w tries t
    unfolding verdict_from
    opened h = rw (add-one b) (sym (ap (verdict_from w tries t b) more) ∙ j.so)
      where
        more : blocks_of t - b ≡ suc (blocks_of t - suc b)
        more = omega arith

    module _ (h : b < length t / 512) (c : Bool) (x : c ≡ bad_check t b) where
      pub judging_check : c ≡ true → ◌≡◌ {A = Verdict} (Err (Check b)) (verdict_of w tries t)
      unfolding wrong_in
      judging_check y = sym (rw (sym x ∙ y)) ∙ opened (omega arith)

      module _ (y : c ≡ false) (f : Bool) (z : f ≡ bad_fill t b) where
        pub judging_fill : f ≡ true → ◌≡◌ {A = Verdict} (Err (Filler b)) (verdict_of w tries t)
        unfolding wrong_in
        judging_fill k = sym (rw (sym x ∙ y, sym z ∙ k)) ∙ opened (omega arith)

        module _ (k : f ≡ false) (s : ℕ) (e : s ≡ first_step w tries t b) where
          pub judging_move : s < 127 * b + 127 → ◌≡◌ {A = Verdict} (Err (Move s)) (verdict_of w tries t)
          unfolding wrong_in
          judging_move l = sym (rw (sym x ∙ y, sym z ∙ k, ← e, lt-ltb s (127 * b + 127) l)) ∙ opened (omega arith)

          pub judging_more : 127 * b + 127 ≤ s → Judging w tries t (b + 1)
          unfolding wrong_in
          judging_more l = record { le = omega arith; so = sym (rw (sym x ∙ y, sym z ∙ k, ← e, le-ltb s (127 * b + 127) l)) ∙ opened (omega arith) }

    module _ (end : length t / 512 ≤ b) where
      -- the last block is cut short
      pub judging_cut : (length t % 512 ≡ 0 → ⊥) → ◌≡◌ {A = Verdict} (Err (Check b)) (verdict_of w tries t)
      unfolding wrong_in bad_check
      judging_cut n = sym (rw (lt-ltb (length t - 512 * b) 512 (omega (arith, j.le)))) ∙ opened (omega (arith, j.le))

      pub judging_end : length t % 512 ≡ 0 → Fine ≡ verdict_of w tries t
      unfolding verdict_from
      judging_end e = sym (ap (verdict_from w tries t b) none) ∙ j.so
        where
          none : blocks_of t - b ≡ 0
          none = omega (arith, j.le)

pub ruleset judgings = (judging_start, judging_check, judging_fill, judging_move, judging_more, judging_cut, judging_end)
