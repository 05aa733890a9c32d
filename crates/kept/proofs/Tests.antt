-- The tests of the call's input, and what they leave to rely on. Assumes nothing.
use mathlib.Core.Path.{◌≡◌, sym, ap, ◌∙◌}
use mathlib.Core.List.{List}
use Prim.Native.Nat.{ℕ, suc, ◌+◌, ◌*◌, ◌≤◌, ◌<◌}
use native.Mathlib.Nat.{zero-lt-suc}
use native.Mathlib.Numerals.{add-one}
use native.Mathlib.Omega.{arith}
use borrow.Author.Rules.{Fits-under}
use mir.Syntax.{w64}
use mir.Val.{Fits}
use Rattle.code.specs.Ins.{count}
use Rattle.code.specs.Check.{check_of}
use Rattle.refusals.specs.Stages.{registers_of, tried_of, room_of}
use Rattle.code.specs.Inner.{Valid}
use Rattle.refusals.specs.declared.Refusal.{Refusal}
use Rattle.refusals.specs.Stages.{Checked}
use Rattle.std.specs.declared.result.Result.TheVariants.{Ok, Err}
use Rattle.code.proofs.Checks.{counted, checked}
use Rattle.refusals.proofs.Stages.{regs_before, regs_few, tries_before, room_before, room_there}
use Rattle.rows.specs.Route.{words_for}
use Rattle.rows.proofs.Routes.{words_few}
use Rattle.kept.specs.Answers.{scratch_for, stages_of}
use Rattle.lists.proofs.Less.{scaled}

-- what is known once refusals 1 to 4 are past
module _ (w : List ℕ) (regs : ℕ) (tries : List ℕ) (n : ℕ) (h : tried_of (registers_of (check_of w) regs) tries ≡ Ok n) where
  third : registers_of (check_of w) regs ≡ Ok n
  third = tries_before n (registers_of (check_of w) regs) tries (sym h)

  first : check_of w ≡ Ok n
  first = regs_before n (check_of w) regs (sym third)

  pub past_few : regs ≤ 1024
  past_few = regs_few n (check_of w) regs (sym third)

  pub past_count : n ≡ count w
  past_count = counted w n (sym first)

  pub past_valid : Valid w
  past_valid = checked w n (sym first)

-- ---- the tests one by one

module _ (w : List ℕ) (regs : ℕ) (tries : List ℕ) (v u t : Checked) (e : v ≡ check_of w) (f : u ≡ registers_of v regs) (g : t ≡ tried_of u tries) where
  chain : tried_of (registers_of (check_of w) regs) tries ≡ t
  chain = sym (g ∙ ap (λ (x : Checked). tried_of x tries) (f ∙ ap (λ (x : Checked). registers_of x regs) e))

  pub stage_no : (bits : ℕ) (r : Refusal) → t ≡ Err r → (a b : ℕ) → Err r ≡ stages_of bits w regs tries a b
  unfolding stages_of
  stage_no bits r h a b = sym (ap (λ (x : Checked). room_of (room_of x 1 a (scratch_for bits regs w)) 2 b (suc (count w))) (chain ∙ h))

  module _ (n : ℕ) (h : t ≡ Ok n) where
    pub stage_few : regs ≤ 1024
    stage_few = past_few w regs tries n (chain ∙ h)

    pub stage_add : Fits w64 (n + 1)
    stage_add = Fits-under w64 (n + 1) 65537 (omega (arith, past_count w regs tries n (chain ∙ h), (past_valid w regs tries n (chain ∙ h)).few)) tt

    far : {bits : ℕ} → 0 < bits → regs ≤ 1024 → regs ≤ 1024 * bits
    far {bits} wide few = omega arith

    module _ (bits m : ℕ) (q : m ≡ words_for bits regs) where
      pub stage_mul : 0 < bits → Fits w64 ((n + 1) * m)
      stage_mul wide = scaled (n + 1) m (omega (arith, past_count w regs tries n (chain ∙ h), (past_valid w regs tries n (chain ∙ h)).few))
          (words_few bits regs m q 1024 wide (zero-lt-suc 1023) (far wide stage_few))

      pub stage_yes : (x y : Checked) (a b : ℕ) → x ≡ room_of (Ok n) 1 a ((n + 1) * m) → y ≡ room_of x 2 b (n + 1) → y ≡ stages_of bits w regs tries a b
      unfolding stages_of
      stage_yes x y a b p z =
          z ∙ ap (λ (s : Checked). room_of s 2 b (n + 1)) p
          ∙ ap (λ (s : ℕ). room_of (room_of (Ok n) 1 a (s * m)) 2 b s) (add-one n ∙ ap suc (past_count w regs tries n (chain ∙ h)))
          ∙ ap (λ (s : ℕ). room_of (room_of (Ok n) 1 a (suc (count w) * s)) 2 b (suc (count w))) q
          ∙ ap (λ (s : Checked). room_of (room_of s 1 a (scratch_for bits regs w)) 2 b (suc (count w))) (sym (chain ∙ h))

pub ruleset tests = (stage_no, stage_few, stage_add, stage_mul, stage_yes)

-- ---- what an accepted input keeps

module _ (bits : ℕ) (w : List ℕ) (regs : ℕ) (tries : List ℕ) (a b n : ℕ) (h : stages_of bits w regs tries a b ≡ Ok n) where
  whole : Ok n ≡ room_of (room_of (tried_of (registers_of (check_of w) regs) tries) 1 a (scratch_for bits regs w)) 2 b (suc (count w))
  unfolding stages_of
  whole = sym h

  one : room_of (tried_of (registers_of (check_of w) regs) tries) 1 a (scratch_for bits regs w) ≡ Ok n
  one = room_before n (room_of (tried_of (registers_of (check_of w) regs) tries) 1 a (scratch_for bits regs w)) 2 b (suc (count w)) whole

  past : tried_of (registers_of (check_of w) regs) tries ≡ Ok n
  past = room_before n (tried_of (registers_of (check_of w) regs) tries) 1 a (scratch_for bits regs w) (sym one)

  pub accepted_offsets : count w < b
  accepted_offsets = room_there n (room_of (tried_of (registers_of (check_of w) regs) tries) 1 a (scratch_for bits regs w)) 2 b (suc (count w)) whole

  pub accepted_scratch : scratch_for bits regs w ≤ a
  accepted_scratch = room_there n (tried_of (registers_of (check_of w) regs) tries) 1 a (scratch_for bits regs w) (sym one)

  pub accepted_few : regs ≤ 1024
  accepted_few = past_few w regs tries n past

  pub accepted_valid : Valid w
  accepted_valid = past_valid w regs tries n past

  pub accepted_count : stages_of bits w regs tries a b ≡ Ok (count w)
  accepted_count = h ∙ ap Ok (past_count w regs tries n past)
