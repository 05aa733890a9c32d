-- The promises of the replay at the exported call, each in a sentence. Assumes nothing.
use mathlib.Core.Path.{◌≡◌, refl, sym, ap, ◌∙◌, subst}
use mathlib.Core.Logic.{◌≢◌}
use mathlib.Core.Bool.{true}
use mathlib.Core.List.{List}
use Prim.Native.Nat.{ℕ, suc, ◌+◌, ◌≤◌, ◌<◌}
use native.Mathlib.Omega.{arith}
use lib.ListN.{length}
use Rattle.laws.specs.Page.{among}
use Rattle.laws.specs.Table.{filled_to}
use Rattle.code.specs.Ins.{count}
use Rattle.refusals.specs.Answers.{answer_of}
use Rattle.refusals.specs.declared.Answer.{Answer}
use Rattle.std.specs.declared.result.Result.TheVariants.{Ok}
use Rattle.steps.specs.Code.{after_at, flow}
use Rattle.blocks.specs.Blocks.{slot_at, steps_of}
use Rattle.trace.specs.Trace.{Fine as found, verdict_of, Recorded}
use Rattle.day.specs.Count.{reads_in, levels_in}
use Rattle.day.specs.Day.{DayAnswer, replay_stages, Day, refused, wrong, told}
use Rattle.day.specs.Answers.{day_refused, day_told}
use Rattle.day.specs.declared.DayRefusal.TheVariants.{Trace}
use Rattle.trace.specs.declared.Wrong.{Wrong}
use Rattle.trace.specs.declared.Wrong.TheVariants.{Check, Filler, Move}
use Rattle.trace.proofs.Runs.{fine_recorded, recorded_fine}
use Rattle.day.proofs.Days.{steps_below}
use Rattle.answers.specs.Answers.{ReplayTold}
use Rattle.answers.proofs.Answered.{never_0}
use Rattle.replays.specs.Positions.{slots_from, visited}
use Rattle.replays.proofs.Stretch.{stretch}

module _ (w : List ℕ) (regs : ℕ) (tries t old : List ℕ) where
  -- what an answer is
  record Fine (new : List ℕ) (r : Answer) : Type 0 where
    passed : replay_stages w regs tries (length old) ≡ Ok (count w)
    fine : verdict_of w tries t ≡ found
    reads : new ≡ filled_to (reads_in w t (steps_of t)) regs old
    told : r ≡ answer_of (steps_of t) (levels_in w t (steps_of t)) 0 0

  fine_of : {new : List ℕ} {v : DayAnswer} → Day w regs tries t old new v → (day_told v).refusal ≡ 0 → Fine new (day_told v)
  fine_of (refused {r = q} p) h = absurd (never_0 q h)
  fine_of (wrong {x = x} p q) h = absurd (never x h)
    where
      never : (x : Wrong) → (day_refused (Trace x)).refusal ≡ 0 → ⊥
      never (Check b) h = omega arith
      never (Filler b) h = omega arith
      never (Move s) h = omega arith
  fine_of (told p q) h = record { passed = p; fine = q; reads = refl; told = refl }

  lent_of : {new : List ℕ} {v : DayAnswer} → Day w regs tries t old new v → (day_told v).refusal ≢ 0 → new ≡ old
  lent_of (refused p) h = refl
  lent_of (wrong p q) h = refl
  lent_of (told p q) h = absurd (h refl)

  zero_of : {new : List ℕ} {v : DayAnswer} → Day w regs tries t old new v → replay_stages w regs tries (length old) ≡ Ok (count w)
      → verdict_of w tries t ≡ found
      → (day_told v).refusal ≡ 0
  zero_of (refused p) s f = let z : ◌≡◌ {A = ℕ} 0 1 = cc in absurd (omega arith)
  zero_of (wrong p q) s f = let z : ◌≡◌ {A = ℕ} 0 1 = cc in absurd (omega arith)
  zero_of (told p q) s f = refl

  module _ (new : List ℕ) (r : Answer) (x : ReplayTold w regs tries t old new r) where
    -- A refused trace has no report: the reads are as lent.
    pub no_report : r.refusal ≢ 0 → new ≡ old
    no_report h = lent_of x.allowed (λ z. h (ap (λ (a : Answer). a.refusal) x.is ∙ z))

    -- A recorded run is answered, where code, registers, tries and reads are not refused.
    pub recorded_answered : replay_stages w regs tries (length old) ≡ Ok (count w) → Recorded w tries t → r.refusal ≡ 0
    recorded_answered s f = ap (λ (a : Answer). a.refusal) x.is ∙ zero_of x.allowed s (recorded_fine w tries t f)

    module _ (zeroed : r.refusal ≡ 0) where
      f : Fine new r
      f = subst (Fine new) (sym x.is) (fine_of x.allowed (sym (ap (λ (a : Answer). a.refusal) x.is) ∙ zeroed))

      -- An answered trace is a recorded run: whole blocks, right checks, fillers at the end alone, every move allowed.
      pub answered_recorded : Recorded w tries t
      answered_recorded = fine_recorded w tries t f.fine

      -- The answer has its steps and the levels that it met.
      pub report : r ≡ answer_of (steps_of t) (levels_in w t (steps_of t)) 0 0
      report = f.told

      -- The reads of each register are the steps that use it; words past the registers are as lent.
      pub counts : new ≡ filled_to (reads_in w t (steps_of t)) regs old
      counts = f.reads

      -- Where "after" names every move, there are choices by which demand 3's machine visits exactly the recorded positions, whatever is written.
      -- Between two moves to a handler or a store it does from the position gone to, s, for m steps.
      pub as_run : (s m : ℕ) → s + m ≤ steps_of t → ((j : ℕ) → s ≤ j → suc j < s + m → among (slot_at t (suc j)) (after_at w (slot_at t j)) ≡ true)
          → (choices : List ℕ) × ((news : List (List ℕ)) (file : List ℕ) → visited (flow regs w) choices news (slot_at t s) file ≡ slots_from t s m)
      as_run s m h moves = stretch w t regs m s (λ j a b. steps_below w tries t answered_recorded j (omega arith)) moves
