-- The call's statement settles its answer and every lent word: any two outcomes are the same. Assumes nothing.
use mathlib.Core.Path.{◌≡◌, sym, ap, ap₂, ◌∙◌}
use mathlib.Core.List.{List}
use Prim.Native.Nat.{ℕ}
use lib.ListN.{length}
use Rattle.laws.specs.Table.{filled_to}
use Rattle.refusals.specs.Stages.{Checked}
use Rattle.std.specs.declared.result.Result.TheVariants.{Ok, Err}
use Rattle.blocks.specs.Blocks.{steps_of}
use Rattle.trace.specs.Trace.{Verdict, verdict_of}
use Rattle.day.specs.Count.{reads_in, levels_in}
use Rattle.day.specs.Day.{DayAnswer, replay_stages, Day, refused, wrong, told}
use Rattle.day.specs.declared.DayRefusal.TheVariants.{Call, Trace}

module _ (w : List ℕ) (regs : ℕ) (tries t old : List ℕ) where
  left : Checked → Verdict → List ℕ
  left (Err r) v = old
  left (Ok n) (Err x) = old
  left (Ok n) (Ok u) = filled_to (reads_in w t (steps_of t)) regs old

  answer : Checked → Verdict → DayAnswer
  answer (Err r) v = Err (Call r)
  answer (Ok n) (Err x) = Err (Trace x)
  answer (Ok n) (Ok u) = Ok (steps_of t, levels_in w t (steps_of t))

  settled : {new : List ℕ} {r : DayAnswer} → Day w regs tries t old new r
      → (new ≡ left (replay_stages w regs tries (length old)) (verdict_of w tries t)) × (r ≡ answer (replay_stages w regs tries (length old))
      (verdict_of w tries t))
  unfolding left answer
  settled (refused {r = r} e) = (sym (ap (λ (c : Checked). left c (verdict_of w tries t)) e), sym (ap (λ (c : Checked). answer c (verdict_of w tries t)) e))
  settled (wrong e f) = (sym (ap₂ left e f), sym (ap₂ answer e f))
  settled (told e f) = (sym (ap₂ left e f), sym (ap₂ answer e f))

  pub one_day : {a b : List ℕ} {r s : DayAnswer} → Day w regs tries t old a r → Day w regs tries t old b s → (a ≡ b) × (r ≡ s)
  one_day p q = ((settled p).0 ∙ sym (settled q).0, (settled p).1 ∙ sym (settled q).1)
