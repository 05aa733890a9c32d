-- Where the tests of lent code end in a count, the code is valid, and that is its count. Assumes nothing.
use mathlib.Core.Path.{◌≡◌, refl, sym, ◌∙◌}
use mathlib.Core.List.{List}
use Prim.Native.Nat.{ℕ, ◌/◌, ◌<◌}
use native.Mathlib.Omega.{arith}
use lib.ListN.{length}
use Rattle.refusals.specs.Stages.{registers_of, tried_of, inside_of, room_of}
use Rattle.refusals.specs.Stages.{Checked}
use Rattle.std.specs.declared.result.Result.TheVariants.{Ok, Err}
use Rattle.std.specs.declared.result.Result.{Result}
use Rattle.refusals.specs.declared.Refusal.{Refusal}
use Rattle.refusals.specs.Answers.{asked}
use Rattle.code.specs.Ins.{ins_at}
use Rattle.code.specs.declared.Ins.{Ins}
use Rattle.refusals.proofs.Stages.{regs_before, tries_before, at_before, at_inside, room_before}
use Rattle.code.specs.Check.{check_of, instruction_of}
use Rattle.code.specs.Inner.{Whole, Valid}
use Rattle.code.proofs.Checks.{count_of, valid_of, counted, checked}

-- where the tests of the code w end in a count, w is valid, and that is its count
pub record Passed (w : List ℕ) (v : Checked) : Type 0 where
  pub count : (n : ℕ) → v ≡ Ok n → n ≡ length w / 6
  pub valid : (n : ℕ) → v ≡ Ok n → Valid w

module _ (w : List ℕ) (v : Checked) where
  pub by_check : v ≡ check_of w → Passed w v
  by_check e = record { count = λ n h. count_of w n v e h; valid = λ n h. valid_of w n v e h }

  later : (u : Checked) → Passed w v → ((n : ℕ) → u ≡ Ok n → v ≡ Ok n) → Passed w u
  later u p f = record { count = λ n h. p.count n (f n h); valid = λ n h. p.valid n (f n h) }

  module _ (u : Checked) (p : Passed w v) where
    pub by_registers : (regs : ℕ) → u ≡ registers_of v regs → Passed w u
    by_registers regs e = later u p (λ n h. regs_before n v regs (sym h ∙ e))

    pub by_tried : (t : List ℕ) → u ≡ tried_of v t → Passed w u
    by_tried t e = later u p (λ n h. tries_before n v t (sym h ∙ e))

    pub by_inside : (k : ℕ) → u ≡ inside_of v k → Passed w u
    by_inside k e = later u p (λ n h. at_before n v k (sym h ∙ e))

    pub by_room : (b have needed : ℕ) → u ≡ room_of v b have needed → Passed w u
    by_room b have needed e = later u p (λ n h. room_before n v b have needed (sym h ∙ e))

  module _ (p : Passed w v) (n : ℕ) (h : v ≡ Ok n) where
    pub whole_by : Whole w
    whole_by = (p.valid n h).whole

    pub valid_by : Valid w
    valid_by = p.valid n h

    pub count_by : n ≡ length w / 6
    count_by = p.count n h

-- for `search` at a public call
pub ruleset passing = (by_check, by_registers, by_tried, by_inside, by_room, whole_by, valid_by, count_by)

-- what a call learns of `instruction`
module _ (w : List ℕ) (k : ℕ) (i : Ins) (e : ◌≡◌ {A = Result Ins Refusal} (Ok i) (instruction_of w k)) where
  tests : (n : ℕ) × (inside_of (check_of w) k ≡ Ok n)
  tests = go (inside_of (check_of w) k) refl e
    where
      go : (v : Checked) → inside_of (check_of w) k ≡ v → ◌≡◌ {A = Result Ins Refusal} (Ok i) (asked v Err (Ok (ins_at w k))) → (n : ℕ) × (inside_of (check_of w) k ≡ Ok n)
      go (Err r) h z = cc
      go (Ok n) h z = (n, h)

  pub whole_at : Whole w
  whole_at = (checked w tests.0 (sym (at_before tests.0 (check_of w) k (sym tests.1)))).whole

  pub near_at : k < length w / 6
  near_at = omega (arith, at_inside tests.0 (check_of w) k (sym tests.1), counted w tests.0 (sym (at_before tests.0 (check_of w) k (sym tests.1))))

  pub found_at : i ≡ ins_at w k
  found_at = go (inside_of (check_of w) k) e
    where
      go : (v : Checked) → ◌≡◌ {A = Result Ins Refusal} (Ok i) (asked v Err (Ok (ins_at w k))) → i ≡ ins_at w k
      go (Err r) z = cc
      go (Ok n) z = cc

pub ruleset finding = (whole_at, near_at, found_at)
