-- A recorded trace judged (document 02, wish 9): what is wrong with a trace first. Assumes nothing.
use Rattle.std.specs.Prelude.{ℕ, zero, suc, ◌+◌, ◌*◌, ◌/◌, ◌%◌, ◌<◌, ◌≡◌, true, false, cond, List, ltb, length}
use Rattle.blocks.specs.Blocks.{word_at, slot_at, filler_at, weighed, bad_check, bad_fill, blocks_of}
use Rattle.code.specs.Ins.{count}
use Rattle.moves.specs.Moves.{may_go, first_step}
use Rattle.std.specs.declared.result.Result.{Result}
use Rattle.std.specs.declared.result.Result.TheVariants.{Ok, Err}
use Rattle.trace.specs.declared.Wrong.{Wrong}
use Rattle.trace.specs.declared.Wrong.TheVariants.{Check, Filler, Move}

-- what a trace is found to be: a run, or the first thing wrong
abbrev pub Verdict : Type 0
Verdict = Result (Unit {0}) Wrong

-- it is a run
abbrev pub Fine : Verdict
Fine = Ok tt

-- a block and what is wrong with it: 10, 11, 12 in this order
unfoldable pub wrong_in : List ℕ → List ℕ → List ℕ → ℕ → Verdict → Verdict
wrong_in w tries t b fine =
    cond (bad_check t b) (Err (Check b))
    (cond (bad_fill t b) (Err (Filler b))
    (cond (ltb (first_step w tries t b) (127 * b + 127)) (Err (Move (first_step w tries t b))) fine))

-- block by block, m of them from b on
unfoldable pub verdict_from : List ℕ → List ℕ → List ℕ → ℕ → ℕ → Verdict
verdict_from w tries t b zero = Fine
verdict_from w tries t b (suc m) = let rest = verdict_from w tries t (suc b) m in wrong_in w tries t b rest

-- what is wrong first in all of a trace, if anything is
unfoldable pub verdict_of : List ℕ → List ℕ → List ℕ → Verdict
verdict_of w tries t = verdict_from w tries t 0 (blocks_of t)

-- A recorded run: whole blocks with right checks; fillers only at the end, across blocks too; the first position is 0, every position is below n, and
-- every move is one that the rules allow.
pub record Recorded (w tries t : List ℕ) : Type 0 where
  pub whole : length t % 512 ≡ 0
  pub checks : (b : ℕ) → b < length t / 512 → weighed t (512 * b) 508 ≡ word_at t (512 * b + 508)
  pub fillers : (s : ℕ) → suc s < 127 * (length t / 512) → filler_at t s ≡ true → filler_at t (suc s) ≡ true
  pub starts : 0 < 127 * (length t / 512) → filler_at t 0 ≡ false → slot_at t 0 ≡ 0
  pub below : (s : ℕ) → s < 127 * (length t / 512) → filler_at t s ≡ false → slot_at t s < count w
  pub moves : (s : ℕ) → suc s < 127 * (length t / 512) → filler_at t (suc s) ≡ false → may_go w tries (slot_at t s) (slot_at t (suc s)) ≡ true
