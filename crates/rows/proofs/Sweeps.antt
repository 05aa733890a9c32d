-- The sweeps over lent code, step by step. Assumes nothing.
use mathlib.Core.Path.{◌≡◌, refl, sym, ◌∙◌}
use mathlib.Core.Bool.{Bool, true, false, ◌&&◌, ◌||◌}
use mathlib.Core.List.{List}
use Prim.Native.Nat.{ℕ, suc, ◌+◌, ◌-◌, ◌^◌, ◌≤◌, ◌<◌, zero-le}
use native.Mathlib.Omega.{arith}
use lib.ListN.{length, replicate, length-replicate}
use Rattle.laws.proofs.Walk.{first_le}
use Rattle.code.specs.Ins.{ins_at, count}
use Rattle.code.specs.Inner.{Valid}
use Rattle.code.specs.declared.Ins.{Ins}
use Rattle.code.proofs.Rules.{op_known_lem}
use Rattle.flow.specs.Flow.{row_at}
use Rattle.flow.specs.Sweep.{row, below, Found}
use Rattle.flow.specs.Inner.{Put}
use Rattle.flow.specs.Words.{rows_of}
use Rattle.flow.proofs.Tally.{below_zero}
use Rattle.flow.proofs.Buffer.{rows_zero}
use Rattle.flow.proofs.Loop.{Part, part_start, part_step, Going, togo, going_start, lost_first, lost_again, lost_less, full_few, full_found, full_again}
use Rattle.flow.proofs.Loop.{full_less}
use Rattle.steps.specs.Level.{is_level, first_level}
use Rattle.steps.specs.Code.{after_at, flow}
use Rattle.steps.specs.Inner.{StepAt, goes_before, step_flow, calm_of, calm_step}
use Rattle.steps.specs.declared.Step.{Step}
use Rattle.steps.proofs.Follows.{below_step}
use Rattle.steps.proofs.Told.{calm_step_lem}

-- the step's equation is the code's
row_same : (w : List ℕ) (regs k : ℕ) (s : Step) (R : ℕ → ℕ) → StepAt w k s → row_at (step_flow regs s) R k ≡ row_at (flow regs w) R k
unfolding row_at
row_same w regs k s R h = rw (h.used, h.given, h.after)

put_same : (w : List ℕ) (regs k : ℕ) (s : Step) (rows out : List ℕ) (changed : Bool) → StepAt w k s → Put (step_flow regs s) rows k out changed
    → Put (flow regs w) rows k out changed
put_same w regs k s rows out changed h p = record {
  stored = rw (row_same w regs k s (row rows) h) at p.stored;
  told = rw (row_same w regs k s (row rows) h) at p.told;
}

-- ---- the first level is at n at most

pub level_le : (w : List ℕ) → first_level w ≤ count w
unfolding first_level
level_le w = omega (arith, first_le (λ k. is_level (ins_at w k)) (count w) 0)

-- ---- what a route knows between two sweeps, and in one that has come down to k

pub record Between (w : List ℕ) (regs from start full lost : ℕ) (rows : List ℕ) : Type 0 where
  pub few : count w ≤ 65535
  pub going : Going (flow regs w) from start full lost rows

pub record Turn (w : List ℕ) (regs from start full lost lost₀ : ℕ) (rows₀ rows : List ℕ) (changed back : Bool) (k : ℕ) : Type 0 where
  pub few : count w ≤ 65535
  pub going : Going (flow regs w) from start full lost rows₀
  pub part : Part (flow regs w) start rows₀ rows changed back k
  pub same : lost ≡ lost₀

-- what falls from sweep to sweep
pub to_go : List ℕ → ℕ → ℕ → ℕ → ℕ → ℕ
to_go w regs from full lost = togo (flow regs w) from full lost

pub word_starts : (w : List ℕ) (regs start len : ℕ) (rows : List ℕ) → Valid w → start ≡ first_level w → rows ≡ replicate len 0 → len ≡ suc (count w)
    → Between w regs (first_level w) start 0 0 rows
word_starts w regs start len rows v e h l = record { few = v.few; going = rw (e, h, l) (going_start (flow regs w) (first_level w) (level_le w)) }

pub wide_starts : (w : List ℕ) (bits regs words len : ℕ) (rows : List ℕ) → 0 < bits → Valid w → rows ≡ replicate len 0 → Between w regs 0 0 0 0
    (rows_of bits words (suc (count w)) rows)
wide_starts w bits regs words len rows wide v h = record {
  few = v.few;
  going = rw (h, rows_zero bits words wide (suc (count w)) len)
      (going_start (flow regs w) 0 zero-le);
}

pub cleared : (len m : ℕ) (rows : List ℕ) → rows ≡ replicate len 0 → len ≡ m → length rows ≡ m
cleared len m rows e h = rw (e, ← h) (length-replicate {A = ℕ} len 0)

pub sweep_starts : (w : List ℕ) (regs from start full lost : ℕ) (rows : List ℕ) → Between w regs from start full lost rows → Turn w regs from start full lost
    lost rows rows false false (count w)
sweep_starts w regs from start full lost rows b = record {
  few = b.few;
  going = b.going;
  part = part_start (flow regs w) from start full lost rows
      b.going;
  same = refl;
}

module _ {w : List ℕ} {regs from start full lost lost₀ : ℕ} {rows₀ rows : List ℕ} {changed back : Bool} {k : ℕ}
    (p : Turn w regs from start full lost lost₀ rows₀ rows changed back k) where
  g : Going (flow regs w) from start full lost rows₀
  g = p.going

  q : Part (flow regs w) start rows₀ rows changed back k
  q = p.part

  -- a step
  module _ {s : Step} (h : StepAt w (k - 1) s) (l : start < k) where
    go_on : {out : List ℕ} {changed' back' : Bool} → below start (after_at w (k - 1)) ≡ false → Put (step_flow regs s) rows (k - 1) out changed'
        → back' ≡ goes_before s k → Turn w regs from start full lost lost₀ rows₀ out (changed' || changed) (back' || back) (k - 1)
    go_on {out} {changed'} {back'} inside put e = record {
      few = p.few;
      going = g;
      part = part_step (flow regs w) start rows₀ rows changed back k q out changed' back' l inside (put_same w regs (k - 1) s rows out changed' h put)
          (e ∙ below_step w (k - 1) s k h (omega arith));
      same = p.same;
    }

    module _ {t : Bool} (e : t ≡ goes_before s start) where
      inside : {u : Bool} → t ≡ u → below start (after_at w (k - 1)) ≡ u
      inside z = sym (below_step w (k - 1) s start h (omega arith)) ∙ sym e ∙ z

      pub word_step : {out : List ℕ} {changed' back' : Bool} → t ≡ false → Put (step_flow regs s) rows (k - 1) out changed'
          → back' ≡ goes_before s k → Turn w regs from start full lost lost₀ rows₀ out (changed' || changed) (back' || back) (k - 1)
      word_step z put b = go_on (inside z) put b

      -- left from inside
      module _ (z : t ≡ true) where
        pub left_few : lost + 1 < 2 ^ 32
        left_few = omega (arith, lost_first (flow regs w) from start full lost rows₀ g rows changed back k q l (inside z))

        pub left_again : {out : List ℕ} → out ≡ replicate (length rows) 0 → Between w regs from 0 full (lost + 1) out
        left_again e' = record {
          few = p.few;
          going = rw (e', q.long) (lost_again (flow regs w) from start full lost rows₀ g rows changed back k q l
              (inside z));
        }

        pub left_less : to_go w regs from full (lost + 1) < to_go w regs from full lost₀
        unfolding to_go
        left_less = rw (← p.same) (lost_less (flow regs w) from start full lost rows₀ g rows changed back k q l (inside z))

  -- whole
  module _ (l : k ≤ start) where
    pub whole_few : full + 1 < 2 ^ 32
    whole_few = omega (arith, full_few (flow regs w) from start full lost rows₀ g rows changed back k q l, p.few)

    pub whole_found : changed && back ≡ false → Found (flow regs w) from rows (full + 1) lost
    whole_found e = full_found (flow regs w) from start full lost rows₀ g rows changed back k q l e

    module _ (e : changed && back ≡ true) where
      pub whole_again : Between w regs from start (full + 1) lost rows
      whole_again = record {
        few = p.few;
        going = full_again (flow regs w) from start full lost rows₀ g rows changed back k q l e;
      }

      pub whole_less : to_go w regs from (full + 1) lost < to_go w regs from full lost₀
      unfolding to_go
      whole_less = rw (← p.same) (full_less (flow regs w) from start full lost rows₀ g rows changed back k q l e)

-- the opcode of accepted code is known
pub known : {w : List ℕ} {regs from start full lost lost₀ : ℕ} {rows₀ rows : List ℕ} {changed back : Bool} {k : ℕ} → Turn w regs from start full lost lost₀
    rows₀ rows changed back k
    → Valid w → k - 1 < count w → {i : Ins} → i ≡ ins_at w (k - 1) → i.op ≤ 190
known {w} {k = k} p v l e = rw e (op_known_lem (ins_at w (k - 1)) (k - 1) (ins_at w (k - 1 + 1)).op (v.kept (k - 1) l))

-- a step that its opcode tells goes nowhere
pub calm_turn : {w : List ℕ} {regs from start full lost lost₀ : ℕ} {rows₀ rows : List ℕ} {changed back : Bool} {k : ℕ} → Turn w regs from start full lost lost₀
    rows₀ rows changed back k
    → {i : Ins} {m : ℕ} → i ≡ ins_at w (k - 1) → m ≡ calm_of i.op → start < k → m < 16 → {out : List ℕ} {changed' : Bool} → Put (step_flow regs (calm_step i m))
    rows (k - 1) out changed'
    → Turn w regs from start full lost lost₀ rows₀ out (changed' || changed) back (k - 1)
calm_turn {w} {k = k} p {i} {m} place told l few put = word_step p (calm_step_lem w (k - 1) m i place told few) l {t = false} refl refl put refl

pub wide_step : {w : List ℕ} {regs full : ℕ} {rows₀ rows : List ℕ} {changed back : Bool} {k : ℕ} → Turn w regs 0 0 full 0 0 rows₀ rows changed back k
    → {s : Step} → StepAt w (k - 1) s → 0 < k → {out : List ℕ} {changed' back' : Bool} → Put (step_flow regs s) rows (k - 1) out changed'
    → back' ≡ goes_before s k → Turn w regs 0 0 full 0 0 rows₀ out (changed' || changed) (back' || back) (k - 1)
wide_step {w} {k = k} p h l put e = go_on p h l (below_zero (after_at w (k - 1))) put e

-- a sweep counts k down before its step
pub back_from : (s : Step) (k : ℕ) (b : Bool) → b ≡ goes_before s (k - 1 + 1) → 0 < k → b ≡ goes_before s k
back_from s k b e l = rw up at e
  where
    up : k - 1 + 1 ≡ k
    up = omega arith
