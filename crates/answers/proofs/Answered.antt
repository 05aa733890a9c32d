-- What refusal 0 tells of an exported call: the call inside answered. Assumes nothing.
use mathlib.Core.Path.{◌≡◌, sym, ap, ◌∙◌}
use mathlib.Core.Logic.{◌≢◌}
use mathlib.Core.Bool.{Bool}
use mathlib.Core.List.{List}
use Prim.Native.Nat.{ℕ}
use native.Mathlib.Omega.{arith}
use Rattle.refusals.specs.Answers.{refused_of}
use Rattle.refusals.specs.declared.Answer.{Answer}
use Rattle.refusals.specs.declared.Refusal.{Refusal}
use Rattle.refusals.specs.declared.Refusal.TheVariants as refusal
use Rattle.kept.specs.Answers.{Outcome}
use Rattle.kept.specs.declared.KeptAnswer.{KeptAnswer}
use Rattle.kept.specs.declared.KeptAnswer.TheVariants.{Is, No}
use Rattle.answers.specs.Answers.{kept_told, KeptTold}

-- a refusal's number is not 0
pub never_0 : (q : Refusal) → (refused_of q).refusal ≢ 0
never_0 (refusal.Length n) h = omega arith
never_0 (refusal.Record k) h = omega arith
never_0 (refusal.Registers n) h = omega arith
never_0 (refusal.Try i) h = omega arith
never_0 (refusal.Short b n) h = omega arith
never_0 (refusal.Position k) h = omega arith
never_0 (refusal.Table t) h = omega arith

-- an exported kept call with refusal 0 is an answer of the call inside
pub kept_answered : (bits : ℕ) (w : List ℕ) (regs : ℕ) (tries : List ℕ) (wide : Bool) (rows offsets list new o l : List ℕ) (r : Answer)
    → KeptTold bits w regs tries wide rows offsets list new o l r → r.refusal ≡ 0
    → (t : ℕ) × (f : ℕ) × (g : ℕ) × Outcome bits w regs tries wide rows offsets list new o l (Is t f g)
kept_answered bits w regs tries wide rows offsets list new o l r told h = go told.told told.allowed (ap (λ (a : Answer). a.refusal) (sym told.is) ∙ h)
  where
    go : (v : KeptAnswer) → Outcome bits w regs tries wide rows offsets list new o l v → (kept_told v).refusal ≡ 0
        → (t : ℕ) × (f : ℕ) × (g : ℕ) × Outcome bits w regs tries wide rows offsets list new o l (Is t f g)
    go (Is t f g) out z = (t, f, g, out)
    go (No q) out z = absurd (never_0 q z)
