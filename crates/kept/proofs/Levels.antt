-- A level: its resume row less its result, the registers it keeps counted and listed. Assumes nothing.
use mathlib.Core.Path.{◌≡◌, sym, ap, ap₂, ◌∙◌, subst}
use mathlib.Core.Bool.{true}
use mathlib.Core.List.{List, ◌++◌}
use Prim.Native.Nat.{ℕ, suc, ◌+◌, ◌*◌, ◌≤◌, ◌<◌}
use native.Mathlib.Nat.{mul-le-mul_right}
use native.Mathlib.Omega.{arith}
use mir.Syntax.{w64}
use mir.Val.{Fits}
use lib.Bits.{bit_or, or_zero_l, or_zero_r}
use lib.Seq.{length-paste}
use lib.ListN.{length, take, drop, replicate, length-append}
use Rattle.code.specs.Ins.{count}
use Rattle.roles.specs.Sets.{only}
use Rattle.flow.specs.Set.{minus, alone}
use Rattle.flow.specs.Flow.{joined}
use Rattle.flow.specs.Sweep.{row}
use Rattle.flow.specs.Listed.{listed}
use Rattle.flow.specs.Inner.{Listing, Holds}
use Rattle.flow.specs.Words.{value, rows_of}
use Rattle.flow.specs.Kept.{handlers_of, added, kept}
use Rattle.flow.proofs.Words.{as_set, holds_none}
use Rattle.flow.proofs.Buffer.{row_inside, rows_at}
use Rattle.flow.proofs.Written.{listing_append}
use Rattle.steps.specs.Code.{set_of}
use Rattle.kept.specs.Level.{resume_of, result_of, level_of, Goes}
use Rattle.kept.specs.Inner.{LevelsRoom}
use Rattle.steps.proofs.Resume.{resume_in}
use Rattle.lists.proofs.Less.{scaled}
use Rattle.lists.proofs.Walks.{listed_le}
use Rattle.lists.proofs.Handlers.{union_count, kept_wide}

-- ---- the resume row less the result register

module _ (bits hand regs : ℕ) (w : List ℕ) (words : ℕ) (rows : List ℕ) (k at result : ℕ) (ready : LevelsRoom bits hand regs w words rows) (l : k < count w)
    (g : Goes w k at result) where
  at_in : at ≤ count w
  at_in = omega (arith, g.resumes, (resume_in w k ready.valid l).1)

  pub main_fits : at * words + words ≤ length rows
  main_fits = omega (arith, ready.room, row_inside words (suc (count w)) at (omega (arith, at_in)))

  pub main_small : Fits w64 (at * words)
  main_small = scaled at words (omega (arith, at_in, ready.valid.few)) (omega (arith, ready.narrow, ready.width.few))

  pub main_is : (whole out : List ℕ) → Holds bits whole (bit_or (value bits (replicate hand 0)) (value bits (take words (drop (at * words) rows))))
      → Holds bits out (minus (value bits whole) (set_of regs (only true result)))
      → Holds bits out (minus (row (rows_of bits words (suc (count w)) rows) (resume_of w k)) (result_of regs w k))
  unfolding joined
  main_is whole out p q = as_set q (ap₂ minus
      (p.is ∙ ap (λ (x : ℕ). bit_or x (value bits (take words (drop (at * words) rows)))) (holds_none bits ready.width.some hand).is
      ∙ or_zero_l (value bits (take words (drop (at * words) rows)))
      ∙ sym (rows_at bits words (suc (count w)) rows at (omega (arith, at_in))) ∙ ap (row (rows_of bits words (suc (count w)) rows)) g.resumes)
      (or_zero_r (alone regs result) ∙ ap (alone regs) g.results))

pub ruleset mains = (main_fits, main_small, main_is)

-- ---- a level

module _ (bits hand regs : ℕ) (w tries rows : List ℕ) (words k : ℕ) (ready : LevelsRoom bits hand regs w words rows)
    (s : List ℕ) (h : Holds bits s (minus (row (rows_of bits words (suc (count w)) rows) (resume_of w k)) (result_of regs w k))) where
  abbrev Q : ℕ → ℕ
  Q = row (rows_of bits words (suc (count w)) rows)

  abbrev first : List ℕ
  first = listed (words * bits) 0 (value bits s)

  abbrev then : List ℕ
  then = added (words * bits) Q (value bits s) (handlers_of (count w) k tries)

  whole : kept regs Q (level_of regs w tries k) ≡ first ++ then
  whole = sym (kept_wide regs (words * bits) Q ready.enough ready.bound (level_of regs w tries k))
      ∙ ap (λ (x : ℕ). listed (words * bits) 0 x ++ added (words * bits) Q x (handlers_of (count w) k tries)) (sym h.is)

  -- counted
  module _ (u : List ℕ) (g : Holds bits u (bit_or (value bits s) (joined (row (rows_of bits words (suc (count w)) rows)) (handlers_of (count w) k tries)))) (r : ℕ)
      (c : r ≡ length (listed (words * bits) 0 (value bits u))) where
    pub level_count : r ≡ length (kept regs (row (rows_of bits words (suc (count w)) rows)) (level_of regs w tries k))
    level_count = c ∙ ap (λ (x : ℕ). length (listed (words * bits) 0 x)) g.is ∙ sym (union_count (words * bits) Q (handlers_of (count w) k tries)
        (value bits s)) ∙ ap length (sym whole)

    pub level_few : r ≤ 1024
    level_few = omega (arith, c, listed_le (words * bits) 0 (value bits u), mul-le-mul_right bits ready.narrow, ready.width.span)

  -- listed
  module _ (old : List ℕ) (m : ℕ) (fits : m + length (kept regs (row (rows_of bits words (suc (count w)) rows)) (level_of regs w tries k)) ≤ length old) where
    sizes : m + (length first + length then) ≤ length old
    sizes = omega (arith, ap length whole, length-append first then)

    pub level_room : m + length (listed (words * bits) 0 (value bits s)) ≤ length old
    level_room = omega (arith, sizes)

    module _ (out : List ℕ) (at : ℕ) (a : Listing (listed (words * bits) 0 (value bits s)) old m out at) where
      pub level_rest : at + length (added (words * bits) (row (rows_of bits words (suc (count w)) rows)) (value bits s) (handlers_of (count w) k tries)) ≤ length
          out
      level_rest = omega (arith, sizes, a.past, ap length a.put, length-paste old m first (length first) (omega (arith, sizes)) (omega arith))

      pub level_list : (out' : List ℕ) (at' : ℕ) → Listing (added (words * bits) (row (rows_of bits words (suc (count w)) rows)) (value bits s)
          (handlers_of (count w) k tries)) out at out' at'
          → Listing (kept regs (row (rows_of bits words (suc (count w)) rows)) (level_of regs w tries k)) old m out' at'
      level_list out' at' b = subst (λ (x : List ℕ). Listing x old m out' at') (sym whole) (listing_append first then old out out' m at at'
          (omega (arith, fits, ap length whole)) a b)

pub ruleset levels = (level_count, level_few, level_room, level_rest, level_list)
