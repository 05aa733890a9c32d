-- Laws of the tests that follow the first: each says what a Ok has passed. Assumes nothing.
use mathlib.Core.Path.{◌≡◌, refl, sym}
use mathlib.Core.Bool.{Bool, true, false, cond}
use mathlib.Core.List.{List}
use Prim.Native.Nat.{ℕ, ◌<◌, ◌≤◌}
use native.Mathlib.Omega.{arith}
use lib.Dec.{ltb}
use borrow.Author.Tests.{ltb-true, ltb-false}
use Rattle.refusals.specs.Stages.{and_then, pairs, first_bad_try, registers_of, tried_of, inside_of, room_of}
use Rattle.refusals.specs.declared.Refusal.{Refusal}
use Rattle.refusals.specs.Stages.{Checked}
use Rattle.std.specs.declared.result.Result.TheVariants.{Ok, Err}

-- a refusal is no count
never : {A : Type 0} (n : ℕ) (r : Refusal) → ◌≡◌ {A = Checked} (Ok n) (Err r) → A
never n r e = let z : ◌≡◌ {A = ℕ} 0 1 = cc in absurd (omega arith)

-- a test that refuses where it is true has been false, and one that refuses where it is false has been true
kept : (b : Bool) (n m : ℕ) (r : Refusal) → ◌≡◌ {A = Checked} (Ok n) (cond b (Err r) (Ok m)) → (b ≡ false) × (◌≡◌ {A = Checked} (Ok n) (Ok m))
kept true n m r e = never n r e
kept false n m r e = (refl, e)

met : (b : Bool) (n m : ℕ) (r : Refusal) → ◌≡◌ {A = Checked} (Ok n) (cond b (Ok m) (Err r)) → (b ≡ true) × (◌≡◌ {A = Checked} (Ok n) (Ok m))
met true n m r e = (refl, e)
met false n m r e = never n r e

module _ (n : ℕ) where
  pub regs_before : (v : Checked) (regs : ℕ) → Ok n ≡ registers_of v regs → v ≡ Ok n
  regs_before (Err r) regs e = never n r e
  regs_before (Ok m) regs e = sym (kept (ltb 1024 regs) n m _ e).1

  pub regs_few : (v : Checked) (regs : ℕ) → Ok n ≡ registers_of v regs → regs ≤ 1024
  regs_few (Err r) regs e = never n r e
  regs_few (Ok m) regs e = ltb-false _ _ (kept (ltb 1024 regs) n m _ e).0

  pub tries_before : (v : Checked) (t : List ℕ) → Ok n ≡ tried_of v t → v ≡ Ok n
  tries_before (Err r) t e = never n r e
  tries_before (Ok m) t e = sym (kept (ltb (first_bad_try t m) (pairs t)) n m _ e).1

  pub at_before : (v : Checked) (k : ℕ) → Ok n ≡ inside_of v k → v ≡ Ok n
  at_before (Err r) k e = never n r e
  at_before (Ok m) k e = sym (met (ltb k m) n m _ e).1

  pub at_inside : (v : Checked) (k : ℕ) → Ok n ≡ inside_of v k → k < n
  at_inside (Err r) k e = never n r e
  at_inside (Ok m) k e =
      let q = met (ltb k m) n m _ e in
      let s : n ≡ m = same m q.1 in
      rw s (ltb-true _ _ q.0)
    where
      same : (m : ℕ) → ◌≡◌ {A = Checked} (Ok n) (Ok m) → n ≡ m
      same m e = cc

  pub room_before : (v : Checked) (b have needed : ℕ) → Ok n ≡ room_of v b have needed → v ≡ Ok n
  room_before (Err r) b have needed e = never n r e
  room_before (Ok m) b have needed e = sym (kept (ltb have needed) n m _ e).1

  pub room_there : (v : Checked) (b have needed : ℕ) → Ok n ≡ room_of v b have needed → needed ≤ have
  room_there (Err r) b have needed e = never n r e
  room_there (Ok m) b have needed e = ltb-false _ _ (kept (ltb have needed) n m _ e).0

-- the test's own code: a refusal is passed on, a count is tested
module _ (v : Checked) (f : ℕ → Checked) where
  pub passed_on : (r : Refusal) → v ≡ Err r → Err r ≡ and_then v f
  passed_on r e = rw e

  pub tested : (n : ℕ) (t : Checked) → v ≡ Ok n → t ≡ f n → t ≡ and_then v f
  tested n t e h = rw e h

pub ruleset stage = (passed_on, tested)

-- a later test of the same input
module _ (v s u : Checked) (e : v ≡ s) where
  pub on_registers : (regs : ℕ) → u ≡ registers_of v regs → u ≡ registers_of s regs
  on_registers regs h = rw (← e) h

  pub on_tried : (t : List ℕ) → u ≡ tried_of v t → u ≡ tried_of s t
  on_tried t h = rw (← e) h

  pub on_inside : (k : ℕ) → u ≡ inside_of v k → u ≡ inside_of s k
  on_inside k h = rw (← e) h

  pub on_room : (b have needed : ℕ) → u ≡ room_of v b have needed → u ≡ room_of s b have needed
  on_room b have needed h = rw (← e) h

pub ruleset onward = (on_registers, on_tried, on_inside, on_room)
