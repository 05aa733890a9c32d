-- A public call answers by what its tests found: `refused` at the arm of a refusal, `told` at the other. Assumes nothing.
use mathlib.Core.Path.{◌≡◌, refl}
use Prim.Native.Nat.{ℕ}
use Rattle.refusals.specs.Answers.{asked, refused_of, answered}
use Rattle.refusals.specs.declared.Answer.{Answer}
use Rattle.refusals.specs.declared.Refusal.{Refusal}
use Rattle.refusals.specs.Stages.{Checked}
use Rattle.std.specs.declared.result.Result.{Result}
use Rattle.std.specs.declared.result.Result.TheVariants.{Ok, Err}

module _ {A : Type 0} (v s : Checked) (e : v ≡ s) (refuse : Refusal → A) (value : A) where
  pub refused : (r : Refusal) (t : A) → v ≡ Err r → t ≡ refuse r → t ≡ asked s refuse value
  refused r t h z = let q : s ≡ Err r = cc in rw q z

  pub told : (n : ℕ) (t : A) → v ≡ Ok n → t ≡ value → t ≡ asked s refuse value
  told n t h z = let q : s ≡ Ok n = cc in rw q z

-- a call that passes the refusal of its tests on, and else tells
module _ (v s : Checked) (e : v ≡ s) (value : Answer) where
  pub told_refusal : (r : Refusal) → v ≡ Err r → answered (Err r) ≡ asked s refused_of value
  told_refusal r h = refused v s e refused_of value r (refused_of r) h refl

  pub told_value : (n : ℕ) (t : Answer) → v ≡ Ok n → t ≡ value → answered (Ok t) ≡ asked s refused_of value
  told_value n t h z = told v s e refused_of value n t h z

pub ruleset telling = (told_refusal, told_value)

-- a call that passes the refusal of its tests on, and else has the value
module _ {A : Type 0} (v s : Checked) (e : v ≡ s) (value : A) where
  pub passed_refusal : (r : Refusal) → v ≡ Err r → ◌≡◌ {A = Result A Refusal} (Err r) (asked s Err (Ok value))
  passed_refusal r h = refused v s e Err (Ok value) r (Err r) h refl

  pub passed_value : (n : ℕ) (t : A) → v ≡ Ok n → t ≡ value → ◌≡◌ {A = Result A Refusal} (Ok t) (asked s Err (Ok value))
  passed_value n t h z = told v s e Err (Ok value) n (Ok t) h (rw z)

pub ruleset passed = (passed_refusal, passed_value)

-- a call that goes on with what a test of several parts found, or passes its refusal on
module _ {A : Type 0} (s : Checked) (found : A) where
  pub asked_refusal : (r : Refusal) (value : Answer) → ◌≡◌ {A = Result A Refusal} (Err r) (asked s Err (Ok found)) → answered (Err r) ≡ asked s refused_of value
  asked_refusal r value e = go s e
    where
      go : (s : Checked) → ◌≡◌ {A = Result A Refusal} (Err r) (asked s Err (Ok found)) → refused_of r ≡ asked s refused_of value
      go (Err q) e = cc
      go (Ok n) e = cc

  pub asked_value : (x : A) (t value : Answer) → ◌≡◌ {A = Result A Refusal} (Ok x) (asked s Err (Ok found)) → (x ≡ found → t ≡ value) → answered (Ok t) ≡ asked s refused_of value
  asked_value x t value e f = go s e
    where
      go : (s : Checked) → ◌≡◌ {A = Result A Refusal} (Ok x) (asked s Err (Ok found)) → t ≡ asked s refused_of value
      go (Err q) e = cc
      go (Ok n) e = f (cc)

pub ruleset asking = (asked_refusal, asked_value)

-- the answer of the case x that r is known to be
pub refused_as : (r x : Refusal) (a : Answer) → r ≡ x → a ≡ refused_of x → a ≡ refused_of r
refused_as r x a e z = rw e z
