-- What an answer of the clearing call says of the buffers, and that a refusal leaves them as they were. Assumes nothing.
use Prim.Native.Nat.{ℕ}
use native.Mathlib.Omega.{arith}
use mathlib.Core.Path.{◌≡◌, refl, sym, ap, ◌∙◌}
use Rattle.refusals.specs.declared.Refusal.{Refusal}
use Rattle.refusals.specs.Stages.{Checked}
use Rattle.std.specs.declared.result.Result.TheVariants.{Ok, Err}
use Rattle.named.specs.Unused.{constant_named, before, pooled, recoded, numbered}
use Rattle.clear.specs.Clear.{Is, No, PoolBuffers, ClearOutcome, clear_outcome, cleared, clear_ready_of, clear_call}

-- the four buffers and the count, from those lent
pub record Answered (b : PoolBuffers) (m r : ℕ) (a : PoolBuffers) : Type 0 where
  pub count : r ≡ before b.code m
  pub code : a.code ≡ recoded (before b.code) m b.code
  pub kinds : a.kinds ≡ pooled (constant_named b.code) m b.kinds
  pub words : a.words ≡ pooled (constant_named b.code) m b.words
  pub scratch : a.scratch ≡ numbered (before b.code) m b.scratch

module _ (b : PoolBuffers) (m : ℕ) where
  pub refused_call : (q : Refusal) → clear_ready_of b m ≡ Err q → clear_call b m ≡ clear_outcome (No q) b
  unfolding clear_call
  refused_call q e = rw e

  pub answered_call : (n : ℕ) → clear_ready_of b m ≡ Ok n → clear_call b m ≡ clear_outcome (Is (before b.code m)) (cleared b m).after
  unfolding clear_call cleared
  answered_call n e = rw e

  answered_by : Answered b m (before b.code m) (cleared b m).after
  unfolding cleared
  answered_by = record { count = refl; code = refl; kinds = refl; words = refl; scratch = refl }

  pub answered : (r : ℕ) (a : PoolBuffers) → clear_call b m ≡ clear_outcome (Is r) a → Answered b m r a
  answered r a e = go (clear_ready_of b m) refl
    where
      go : (v : Checked) → clear_ready_of b m ≡ v → Answered b m r a
      go (Err q) f =
          let y : No q ≡ Is r = ap (λ (x : ClearOutcome). x.answer) (sym (refused_call q f) ∙ e) in
          absurd (let z : ◌≡◌ {A = ℕ} 0 1 = cc in omega arith)
      go (Ok n) f =
          let h : clear_outcome (Is (before b.code m)) (cleared b m).after ≡ clear_outcome (Is r) a = sym (answered_call n f) ∙ e in
          let y : Is (before b.code m) ≡ Is r = ap (λ (x : ClearOutcome). x.answer) h in
          let i : before b.code m ≡ r = cc in
          let j : (cleared b m).after ≡ a = ap (λ (x : ClearOutcome). x.after) h in
          rw (← i, ← j) answered_by

  pub refusal_keeps : (q : Refusal) (a : PoolBuffers) → clear_call b m ≡ clear_outcome (No q) a → a ≡ b
  refusal_keeps q a e = go (clear_ready_of b m) refl
    where
      go : (v : Checked) → clear_ready_of b m ≡ v → a ≡ b
      go (Err r) f = ap (λ (x : ClearOutcome). x.after) (sym e ∙ refused_call r f)
      go (Ok n) f =
          let y : Is (before b.code m) ≡ No q = ap (λ (x : ClearOutcome). x.answer) (sym (answered_call n f) ∙ e) in
          absurd (let z : ◌≡◌ {A = ℕ} 0 1 = cc in omega arith)
