-- The call: its tests, and what each way out leaves. Assumes nothing.
use mathlib.Core.Path.{◌≡◌, refl, sym, ap, ◌∙◌}
use mathlib.Core.Bool.{Bool, true, false, cond}
use mathlib.Core.List.{List}
use Prim.Native.Nat.{ℕ, zero, suc, ◌*◌, ◌/◌, ◌≤◌, ◌<◌, zero-le}
use native.Mathlib.Decide.{ℕ_discrete}
use native.Mathlib.Omega.{arith}
use lib.ListN.{length}
use Rattle.laws.proofs.Walk.{first_le}
use Rattle.laws.specs.Walk.{first}
use Rattle.code.specs.Ins.{count}
use Rattle.code.specs.Check.{check_of}
use Rattle.refusals.specs.Stages.{registers_of, tried_of, room_of}
use Rattle.code.specs.Inner.{Valid, Whole}
use Rattle.refusals.specs.Stages.{Checked}
use Rattle.std.specs.declared.result.Result.TheVariants.{Ok, Err}
use Rattle.refusals.specs.declared.Refusal.{Refusal}
use Rattle.code.proofs.Checks.{counted, checked}
use Rattle.refusals.proofs.Stages.{regs_before, tries_before, room_before, room_there}
use Rattle.blocks.specs.Blocks.{slot_at, filler_at, steps_of}
use Rattle.trace.specs.Trace.{Verdict, Fine, verdict_of, Recorded}
use Rattle.day.specs.Inner.{Tallied, Walkable}
use Rattle.day.specs.Day.{replay_stages, Day, refused, wrong, told}
use Rattle.trace.specs.declared.Wrong.{Wrong}
use Rattle.day.specs.declared.DayRefusal.TheVariants.{Call, Trace}
use Rattle.trace.proofs.Runs.{fine_recorded}

-- ---- the first filler

before_first : (f : ℕ → Bool) (m k j : ℕ) → k ≤ j → j < first f k m → f j ≡ false
unfolding first
before_first f zero k j lo hi = absurd (omega arith)
before_first f (suc m) k j lo hi = go (f k) refl hi (λ a b. before_first f m (suc k) j a b)
  where
    go : (t : Bool) → f k ≡ t → j < cond t k (first f (suc k) m) → (suc k ≤ j → j < first f (suc k) m → f j ≡ false) → f j ≡ false
    go true e h rec = absurd (omega arith)
    go false e h rec = at (ℕ_discrete k j)
      where
        at : Dec (k ≡ j) → f j ≡ false
        at (yes p) = ap f (sym p) ∙ e
        at (no n) = rec (omega arith) h

-- ---- the tests

module _ (w : List ℕ) (regs : ℕ) (tries : List ℕ) (a n : ℕ) (h : replay_stages w regs tries a ≡ Ok n) where
  all : Ok n ≡ room_of (tried_of (registers_of (check_of w) regs) tries) 1 a regs
  unfolding replay_stages
  all = sym h

  four : tried_of (registers_of (check_of w) regs) tries ≡ Ok n
  four = room_before n (tried_of (registers_of (check_of w) regs) tries) 1 a regs all

  one : check_of w ≡ Ok n
  one = regs_before n (check_of w) regs (sym (tries_before n (registers_of (check_of w) regs) tries (sym four)))

  pub day_room : regs ≤ a
  day_room = room_there n (tried_of (registers_of (check_of w) regs) tries) 1 a regs all

  pub day_valid : Valid w
  day_valid = checked w n (sym one)

  pub day_count : replay_stages w regs tries a ≡ Ok (count w)
  day_count = h ∙ ap Ok (counted w n (sym one))

module _ (w : List ℕ) (regs : ℕ) (tries : List ℕ) (a n : ℕ) (ok : ◌≡◌ {A = Checked} (Ok n) (replay_stages w regs tries a)) where
  pub day_whole : Whole w
  day_whole = (day_valid w regs tries a n (sym ok)).whole

  pub day_fits : regs ≤ a
  day_fits = day_room w regs tries a n (sym ok)

module _ (w : List ℕ) (regs : ℕ) (tries t old : List ℕ) where
  pub day_no : (r : Refusal) → ◌≡◌ {A = Checked} (Err r) (replay_stages w regs tries (length old)) → Day w regs tries t old old (Err (Call r))
  day_no r h = refused (sym h)

  module _ (n : ℕ) (ok : ◌≡◌ {A = Checked} (Ok n) (replay_stages w regs tries (length old))) where
    pub day_wrong : (x : Wrong) → ◌≡◌ {A = Verdict} (Err x) (verdict_of w tries t) → Day w regs tries t old old (Err (Trace x))
    day_wrong x h = wrong (day_count w regs tries (length old) n (sym ok)) (sym h)

    module _ (h : ◌≡◌ {A = Verdict} Fine (verdict_of w tries t)) (m : ℕ) (p : m ≡ steps_of t) where
      pub day_told_lem : (new : List ℕ) (levels : ℕ) → Tallied w t regs old m new levels → Day w regs tries t old new (Ok (m, levels))
      day_told_lem new levels d = rw (d.reads, d.met, p) (told (day_count w regs tries (length old) n (sym ok)) (sym h))

-- every step of a recorded run is a position of the code
pub steps_below : (w tries t : List ℕ) → Recorded w tries t → (s : ℕ) → s < steps_of t → slot_at t s < count w
unfolding steps_of
steps_below w tries t r s l = r.below s (omega (arith, first_le (filler_at t) (127 * (length t / 512)) 0))
    (before_first (filler_at t) (127 * (length t / 512)) 0 s zero-le (omega arith))

module _ (w : List ℕ) (regs : ℕ) (tries t : List ℕ) (a n : ℕ) (ok : ◌≡◌ {A = Checked} (Ok n) (replay_stages w regs tries a)) where
  pub day_walk : ◌≡◌ {A = Verdict} Fine (verdict_of w tries t) → (m : ℕ) → m ≡ steps_of t → length t < 18446744073709551616 → Walkable w t m
  unfolding steps_of
  day_walk h m p short = record {
    whole = day_whole w regs tries a n ok;
    long = long;
    few = omega (arith, long);
    below = λ s l. steps_below w tries t (fine_recorded w tries t (sym h)) s (omega arith);
  }
    where
      long : m ≤ 127 * (length t / 512)
      long = omega (arith, first_le (filler_at t) (127 * (length t / 512)) 0)

pub ruleset days = (day_no, day_whole, day_fits, day_wrong, day_told_lem, day_walk)
