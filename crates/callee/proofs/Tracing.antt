-- A trace goes back: a restart is before the store that it starts from. And what a turn of the trace keeps. Assumes nothing.
use mathlib.Core.Path.{◌≡◌, refl, sym, ◌∙◌}
use mathlib.Core.Logic.{⊎_elim}
use mathlib.Core.Bool.{Bool, true, false, cond}
use mathlib.Core.List.{List}
use Prim.Native.Nat.{ℕ, zero, suc, ◌-◌, ◌<◌, ◌≤◌}
use native.Mathlib.Nat.{eq-or-lt_of_le}
use native.Mathlib.Omega.{arith}
use lib.Dec.{eqb}
use borrow.Author.Tests.{le-leb, lt-leb}
use Rattle.ops.specs.Op.{StoreTopR, LoadGlobalR}
use Rattle.code.specs.Ins.{ins_at}
use Rattle.pushes.specs.Pushes.{Place, pushed_back}
use Rattle.pushes.proofs.Falling.{pushed_falls}
use Rattle.callee.specs.declared.Step.{Step}
use Rattle.callee.specs.declared.Step.TheVariants.{Pass, Back, Tell}
use Rattle.std.specs.declared.option.Option.TheVariants.{Some, None}
use Rattle.callee.specs.Trace.{Callee, sets_it, passes_by, sent_back, says_at, heard, traced_by, traced}

no_tell : {A : Type 0} (p : ℕ) (v : Callee) → Back p ≡ Tell v → A
no_tell p v e = let y : ◌≡◌ {A = ℕ} 0 1 = cc in absurd (omega arith)

no_pass : {A : Type 0} (p : ℕ) → Back p ≡ Pass → A
no_pass p e = let y : ◌≡◌ {A = ℕ} 0 1 = cc in absurd (omega arith)

module _ (w : List ℕ) (d r p : ℕ) where
  sent_falls : (v : Place) → v ≡ pushed_back w d r → Back p ≡ sent_back v → p < d
  sent_falls None f e = no_tell p None e
  sent_falls (Some q) f e = let z : p ≡ q = cc in pushed_falls w d r p (rw z f)

  pub step_falls : Back p ≡ says_at w d r → p < d
  unfolding says_at
  step_falls = go (sets_it (ins_at w d) r) (eqb (ins_at w d).op StoreTopR) (eqb (ins_at w d).op LoadGlobalR) (passes_by (ins_at w d))
    where
      go : (s t l q : Bool)
          → Back p ≡ cond s (cond t (sent_back (pushed_back w d r)) (cond l (Tell (Some (ins_at w d).b)) (Tell None))) (cond q Pass (Tell None))
          → p < d
      go true true l q e = sent_falls (pushed_back w d r) refl e
      go true false true q e = no_tell p _ e
      go true false false q e = no_tell p _ e
      go false t l true e = no_pass p e
      go false t l false e = no_tell p _ e

module _ (w : List ℕ) (a : ℕ) where
  -- what stands at p and beyond is left out: the trace that starts again at p is the trace from p
  pub left_out : (d p : ℕ) → p ≤ d → traced_by w a d p ≡ traced w a p
  unfolding traced traced_by
  left_out zero p h = let z : p ≡ 0 = omega arith in rw z
  left_out (suc d) p h = ⊎_elim (λ q. rw q) (λ q. go (omega arith) (left_out d p (omega arith))) (eq-or-lt_of_le h)
    where
      go : p ≤ d → traced_by w a d p ≡ traced w a p → traced_by w a (suc d) p ≡ traced w a p
      go l i = rw (le-leb p d l) i

  -- the trace from d is what the instruction before d says, or goes on as it says
  pub by_step : (d : ℕ) → 0 < d → traced w a d ≡ heard (says_at w (d - 1) a) (d - 1) (traced_by w a (d - 1))
  unfolding traced traced_by
  by_step zero h = absurd (omega arith)
  by_step (suc d) h =
      let z : suc d - 1 ≡ d = omega arith in
      rw (z, lt-leb (suc d) d (omega arith))

-- a turn at d - 1, where what is traced from d is v
module _ (w : List ℕ) (a d : ℕ) (v : Callee) (h : 0 < d) (whole : traced w a d ≡ v) (s : Step) (e : s ≡ says_at w (d - 1) a) where
  pub passed : s ≡ Pass → traced w a (d - 1) ≡ v
  passed q = sym (left_out w a (d - 1) (d - 1) (omega arith)) ∙ rw (by_step w a d h, ← e, q) at whole

  pub told : (u : Callee) → s ≡ Tell u → u ≡ v
  told u q = rw (by_step w a d h, ← e, q) at whole

  module _ (p : ℕ) (q : s ≡ Back p) where
    pub falls : p < d
    falls = omega (arith, step_falls w (d - 1) a p (sym q ∙ e))

    pub sent : traced w a p ≡ v
    sent = sym (left_out w a (d - 1) p (omega (arith, falls))) ∙ rw (by_step w a d h, ← e, q) at whole

    pub again : (u : Callee) → u ≡ traced w a p → u ≡ v
    again u f = f ∙ sent

    pub within : (j : ℕ) → d ≤ j → p ≤ j
    within j b = omega (arith, falls)

pub nothing : (w : List ℕ) (a d : ℕ) (v : Callee) → d ≤ 0 → traced w a d ≡ v → None ≡ v
unfolding traced traced_by
nothing w a d v h e = let z : d ≡ 0 = omega arith in rw z at e

pub ruleset turn = (passed, told, falls, sent, again, within, nothing)
