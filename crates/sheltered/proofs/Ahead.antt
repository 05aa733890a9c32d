-- Handlers lie ahead: joining them adds no jump back, so sweeps are as few as document 01's. Assumes nothing.
use mathlib.Core.Path.{◌≡◌, refl, ap, ◌∙◌, subst}
use mathlib.Core.Bool.{Bool, false, cond}
use mathlib.Core.List.{List}
use Prim.Native.Nat.{ℕ, zero, suc, ◌+◌, ◌-◌, ◌≤◌, ◌<◌}
use native.Mathlib.Omega.{arith}
use Rattle.code.specs.Ins.{count}
use Rattle.flow.specs.Flow.{reach}
use Rattle.flow.specs.Sweep.{tally, below, backs, start_of, Found}
use Rattle.flow.proofs.Answer.{found_few, found_lost, start_le}
use Rattle.steps.specs.Code.{jumps_back}
use Rattle.kept.proofs.Counts.{jumps_back_lem}
use Rattle.kept.proofs.Demand.{inside}
use Rattle.nested.specs.Raising.{raising, mays, begins_at}
use Rattle.sweeps.proofs.Sweeps.{below_same}

-- counts by two tests that agree
tally_same : (p q : ℕ → Bool) (start d : ℕ) → ((k : ℕ) → start ≤ k → k < start + d → p k ≡ q k) → tally p start d ≡ tally q start d
unfolding tally
tally_same p q start zero h = refl
tally_same p q start (suc d) h = go (tally_same p q start d (λ k l m. h k l (omega arith))) (h (start + d) (omega arith) (omega arith))
  where
    go : tally p start d ≡ tally q start d → p (start + d) ≡ q (start + d)
        → tally p start d + cond (p (start + d)) 1 0 ≡ tally q start d + cond (q (start + d)) 1 0
    go e f = rw (e, f)

-- those that pass a test from s on are among those that pass it from 0 on
tally_more : (p : ℕ → Bool) (s d : ℕ) → tally p s d ≤ tally p 0 (s + d)
unfolding tally
tally_more p s zero = omega arith
tally_more p s (suc d) = omega (arith, tally_more p s d, ap (λ (x : ℕ). tally p 0 x) (plus s d), ap (λ (x : ℕ). cond {A = ℕ} (p x) 1 0) (nought (s + d)))
  where
    plus : (s d : ℕ) → s + suc d ≡ suc (s + d)
    plus s d = omega arith

    nought : (x : ℕ) → 0 + x ≡ x
    nought x = omega arith

module _ (all : Bool) (regs : ℕ) (w tries : List ℕ) where
  pub backs_same : backs (raising (mays all w) regs w tries) 0 ≡ jumps_back w
  backs_same = tally_same _ _ 0 (count w - 0) (λ k lo hi. below_same all w tries k (suc k) (omega arith) (omega arith)) ∙ jumps_back_lem regs w

  -- no more of them lie at or past a start
  backs_few : (start : ℕ) → start ≤ count w → backs (raising (mays all w) regs w tries) start ≤ jumps_back w
  backs_few start l = subst (λ (x : ℕ). backs (raising (mays all w) regs w tries) start ≤ x) (ap (tally back 0) whole ∙ backs_same)
      (tally_more back start (count w - start))
    where
      back : ℕ → Bool
      back k = below (suc k) (reach (raising (mays all w) regs w tries) k)

      whole : start + (count w - start) ≡ count w - 0
      whole = omega arith

  begin : start_of (raising (mays all w) regs w tries) (begins_at regs w) ≤ count w
  begin = omega (arith, inside 64 false regs w, start_le (raising (mays all w) regs w tries) (begins_at regs w))

  pub few_sweeps : (rows : List ℕ) (full lost : ℕ) → Found (raising (mays all w) regs w tries) (begins_at regs w) rows full lost
      → (full ≤ jumps_back w + 2) × (lost ≤ 1)
  few_sweeps rows full lost f = (
    omega (
      arith,
      found_few (raising (mays all w) regs w tries) (begins_at regs w) (inside 64 false regs w) rows full lost f,
      backs_few (start_of (raising (mays all w) regs w tries) (begins_at regs w)) begin,
    ),
    found_lost (raising (mays all w) regs w tries) (begins_at regs w) (inside 64 false regs w) rows full lost f,
  )
