-- Laws of `check_of`: what it says in each case, and what an accepted code keeps. Assumes nothing.
use mathlib.Core.Path.{◌≡◌, refl, sym, ◌∙◌}
use mathlib.Core.Bool.{Bool, true, false, not}
use mathlib.Core.List.{List}
use Prim.Native.Nat.{ℕ, ◌%◌, ◌/◌, ◌<◌, ◌≤◌}
use native.Mathlib.Omega.{arith}
use lib.ListN.{length}
use lib.Dec.{ltb, eqb}
use borrow.Author.Tests.{lt-ltb, le-ltb, ltb-false, eqb-true, not-false}
use Rattle.code.specs.Ins.{count}
use Rattle.code.specs.Rules.{rule_at}
use Rattle.code.specs.Check.{uneven, first_bad, check_of}
use Rattle.code.specs.Inner.{Valid}
use Rattle.refusals.specs.declared.Refusal.TheVariants.{Length, Record}
use Rattle.refusals.specs.Stages.{Checked}
use Rattle.std.specs.declared.result.Result.TheVariants.{Ok, Err}
use Rattle.laws.proofs.Branch.{or_false}
use Rattle.laws.proofs.Walk.{none_passed}

module _ (w : List ℕ) (even : uneven w ≡ false) where
  pub whole : length w % 6 ≡ 0
  whole = eqb-true _ _ (not-false _ (or_false _ _ even).0)

  pub few : length w / 6 ≤ 65535
  few = ltb-false _ _ (or_false (not (eqb (length w % 6) 0)) _ even).1

module _ (w : List ℕ) (k : ℕ) (found : k ≡ first_bad w) (even : uneven w ≡ false) where
  pub bad_record : k < count w → Err (Record k) ≡ check_of w
  unfolding check_of
  bad_record h = rw (even, ← found, lt-ltb k (count w) h)

  pub accepted : count w ≤ k → Ok (count w) ≡ check_of w
  unfolding check_of
  accepted h = rw (even, ← found, le-ltb k (count w) h)

  pub valid : count w ≤ k → Valid w
  valid h = record {
    whole = whole w even;
    few = few w even;
    kept = λ j l. not-false _ (none_passed (λ i. not (rule_at w i)) j (count w) 0
        (rw (← found) (omega arith)) (omega arith) (omega arith));
  }

-- what a caller learns of `check`
module _ (w : List ℕ) (n : ℕ) where
  cases : (u : Bool) → uneven w ≡ u → (b : Bool) → ltb (first_bad w) (count w) ≡ b → Ok n ≡ check_of w → (n ≡ count w) × Valid w
  unfolding check_of
  cases true e b f h =
      let z : Ok n ≡ Err (Length (length w)) = rw e at h in
      let y : ◌≡◌ {A = ℕ} 0 1 = cc in
      absurd (omega arith)
  cases false e true f h =
      let z : Ok n ≡ Err (Record (first_bad w)) = rw (e, f) at h in
      let y : ◌≡◌ {A = ℕ} 0 1 = cc in
      absurd (omega arith)
  cases false e false f h =
      let z : Ok n ≡ Ok (count w) = rw (e, f) at h in
      (cc, valid w (first_bad w) refl e (ltb-false _ _ f))

  pub counted : Ok n ≡ check_of w → n ≡ count w
  counted h = (cases (uneven w) refl (ltb (first_bad w) (count w)) refl h).0

  pub checked : Ok n ≡ check_of w → Valid w
  checked h = (cases (uneven w) refl (ltb (first_bad w) (count w)) refl h).1

-- the same at a `match` on what `check` answered, v
module _ (w : List ℕ) (n : ℕ) (v : Checked) (e : v ≡ check_of w) (t : v ≡ Ok n) where
  pub whole_of : length w % 6 ≡ 0
  whole_of = (checked w n (sym t ∙ e)).whole

  pub count_of : n ≡ count w
  count_of = counted w n (sym t ∙ e)

  pub valid_of : Valid w
  valid_of = checked w n (sym t ∙ e)
