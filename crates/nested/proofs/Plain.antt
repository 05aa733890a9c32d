-- A body without a try: document 01's lists shelter nested frames as they are. Assumes nothing.
use mathlib.Core.Path.{◌≡◌, refl, sym, ap, ◌∙◌, subst}
use mathlib.Core.Bool.{Bool, true, false, cond}
use mathlib.Core.List.{List, [], ◌++◌}
use Prim.Native.Nat.{ℕ, ◌+◌, ◌≤◌, ◌<◌}
use native.Mathlib.Omega.{arith}
use lib.Bits.{bit_or}
use Rattle.code.specs.Ins.{ins_at, count}
use Rattle.code.specs.Inner.{Valid}
use Rattle.roles.specs.Sets.{only}
use Rattle.flow.specs.Set.{minus}
use Rattle.flow.specs.Flow.{joined, onto, row_at, Solution, Closed}
use Rattle.flow.specs.Sweep.{row, start_of, Found}
use Rattle.flow.specs.Kept.{handlers_of, kept}
use Rattle.flow.proofs.Answer.{found_least, start_closed, start_le}
use Rattle.flow.proofs.Rows.{In}
use Rattle.steps.specs.Code.{set_of, used_at, given_at, after_at, flow}
use Rattle.steps.specs.Level.{is_level}
use Rattle.rows.specs.Route.{route_start}
use Rattle.kept.specs.Level.{level_of}
use Rattle.nested.specs.Machine.{Sheltered}
use Rattle.nested.specs.Raising.{stranded, raises_at, raising, levels, frame, Tidy}
use Rattle.nested.proofs.Machine.{sheltered}
use Rattle.nested.proofs.Raising.{shelters}
use Rattle.kept.proofs.Demand.{inside, before}

module _ (regs : ℕ) (w : List ℕ) (tidy : Tidy w) where
  none_raises : (k : ℕ) → k < count w → raises_at (levels w) w [] k ≡ []
  unfolding raises_at handlers_of
  none_raises k hi = go (levels w k) (stranded (ins_at w k)) (tidy k hi)
    where
      go : (t s : Bool) → s ≡ false → only s (k + 1) ++ cond t (handlers_of (count w) k []) [] ≡ []
      go true s e = rw e
      go false s e = rw e

  row_plain : (R : ℕ → ℕ) (k : ℕ) → k < count w → row_at (raising (levels w) regs w []) R k ≡ row_at (flow regs w) R k
  unfolding row_at
  row_plain R k hi = ap (onto R (bit_or (set_of regs (used_at w k)) (minus (joined R (after_at w k)) (set_of regs (given_at w k))))) (none_raises k hi)

  module _ (bits : ℕ) (wide : Bool) (valid : Valid w) (rows : List ℕ) (full lost : ℕ)
      (found : Found (flow regs w) (route_start bits wide regs w) rows full lost) where
    pub no_try : Sheltered (frame (levels w) regs w []) (λ k. kept regs (row rows) (level_of regs w [] k))
    no_try = sheltered (frame (levels w) regs w []) start (row rows)
        (shelters (levels w) regs w [] (λ k e. e) valid start (row rows) closed solves low (λ k l. none k l (is_level (ins_at w k)) refl))
      where
        start : ℕ
        start = start_of (flow regs w) (route_start bits wide regs w)

        low : start ≤ count w
        low = omega (arith, start_le (flow regs w) (route_start bits wide regs w), inside bits wide regs w)

        sol : Solution (flow regs w) start (row rows)
        sol = (found_least (flow regs w) (route_start bits wide regs w) (inside bits wide regs w) rows full lost found).solves

        solves : Solution (raising (levels w) regs w []) start (row rows)
        solves = record { last = sol.last; each = λ k lo hi. sol.each k lo hi ∙ sym (row_plain (row rows) k hi) }

        closed : Closed (raising (levels w) regs w []) start
        closed k lo hi s m = start_closed (flow regs w) (route_start bits wide regs w) k lo hi s
            (subst (λ (l : List ℕ). In s (l ++ after_at w k)) (none_raises k hi) m)

        none : (k : ℕ) → k < start → (t : Bool) → is_level (ins_at w k) ≡ t → t ≡ false
        none k l true e = absurd (omega (arith, start_le (flow regs w) (route_start bits wide regs w), before bits wide regs w k (omega (arith, low)) e))
        none k l false e = refl
