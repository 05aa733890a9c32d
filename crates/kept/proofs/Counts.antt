-- How many sweeps an answer may count, by the jumps of the code. Assumes nothing.
use mathlib.Core.Path.{◌≡◌, refl, ap, ap₂, ◌∙◌, subst}
use mathlib.Core.Bool.{Bool, true, false, cond, ◌&&◌}
use mathlib.Core.List.{List}
use Prim.Native.Nat.{ℕ, zero, suc, ◌+◌, ◌-◌, ◌≤◌, ◌<◌}
use native.Mathlib.Omega.{arith}
use mir.Val.{bool_byte}
use lib.Dec.{leb}
use Rattle.laws.specs.All.{many}
use Rattle.code.specs.Ins.{ins_at, count}
use Rattle.roles.specs.Kinds.{is_jump}
use Rattle.flow.specs.Sweep.{tally, below, backs, start_of}
use Rattle.flow.proofs.Answer.{start_le}
use Rattle.steps.specs.Code.{after_at, jumps_back, flow}
use Rattle.steps.proofs.Follows.{back_at}
use Rattle.rows.specs.Route.{route_start}
use Rattle.rows.proofs.Least.{rows_few}
use Rattle.kept.specs.Answers.{Outcome}
use Rattle.kept.specs.declared.KeptAnswer.TheVariants.{Is}
use Rattle.kept.proofs.Demand.{inside, Left, left}

zero_plus : (x : ℕ) → 0 + x ≡ x
zero_plus x = omega arith

-- those that pass a test from s on are among those that pass it from 0 on
tally_more : (p : ℕ → Bool) (s d : ℕ) → tally p s d ≤ tally p 0 (s + d)
unfolding tally
tally_more p s zero = omega arith
tally_more p s (suc d) = omega (arith, tally_more p s d, ap (λ (x : ℕ). tally p 0 x) (plus s d), ap (λ (x : ℕ). cond {A = ℕ} (p x) 1 0) (zero_plus (s + d)))
  where
    plus : (s d : ℕ) → s + suc d ≡ suc (s + d)
    plus s d = omega arith

-- and two tests that agree below d count alike
tally_many : (p q : ℕ → Bool) (d : ℕ) → ((k : ℕ) → k < d → p k ≡ q k) → tally p 0 d ≡ many q d
unfolding tally many
tally_many p q zero h = refl
tally_many p q (suc d) h = ap₂ ◌+◌ (tally_many p q d (λ k l. h k (omega arith))) (byte (p (0 + d)) ∙ ap bool_byte (ap p (zero_plus d) ∙ h d (omega arith)))
  where
    byte : (t : Bool) → cond {A = ℕ} t 1 0 ≡ bool_byte t
    byte true = refl
    byte false = refl

module _ (regs : ℕ) (w : List ℕ) where
  -- what comes after k goes to k or back
  abbrev back : ℕ → Bool
  back k = below (suc k) (after_at w k)

  -- k is a jump to k or back
  abbrev jump : ℕ → Bool
  jump k = is_jump (ins_at w k) && leb (ins_at w k).a k

  -- what a sweep counts as going back are the jumps of the code that do
  pub jumps_back_lem : backs (flow regs w) 0 ≡ jumps_back w
  jumps_back_lem = tally_many back jump (count w - 0) (λ k l. back_at w k (omega arith)) ∙ ap (many jump) all
    where
      all : count w - 0 ≡ count w
      all = omega arith

  -- no more of them lie at or past a start
  backs_few : (start : ℕ) → start ≤ count w → backs (flow regs w) start ≤ jumps_back w
  backs_few start l = subst (λ (x : ℕ). backs (flow regs w) start ≤ x) (ap (tally back 0) all ∙ jumps_back_lem) (tally_more back start (count w - start))
    where
      all : start + (count w - start) ≡ count w - 0
      all = omega arith

-- Of any width, on either route: the full sweeps that an answer counts are at most the jumps of the code to their own position or back, and two more;
-- at most one is abandoned.
module _ (bits : ℕ) (w : List ℕ) (regs : ℕ) (tries : List ℕ) (wide : Bool) (rows offsets list a b c : List ℕ) (t full lost : ℕ)
    (p : Outcome bits w regs tries wide rows offsets list a b c (Is t full lost)) where
  abbrev begin : ℕ
  begin = start_of (flow regs w) (route_start bits wide regs w)

  said : Left bits w regs tries wide rows offsets list a b c t full lost
  said = left bits w regs tries wide rows offsets list p t full lost refl

  within : begin ≤ count w
  within = omega (arith, inside bits wide regs w, start_le (flow regs w) (route_start bits wide regs w))

  pub sweeps_few : (full ≤ jumps_back w + 2) × (lost ≤ 1)
  sweeps_few = let few = rows_few bits wide regs w a full lost said.scratch.found in (omega (arith, few.0, backs_few regs w begin within), few.1)
