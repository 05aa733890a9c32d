-- What a public call answers, and refusals by the numbers of document 01. Assumes nothing.
use Rattle.std.specs.Prelude.{ℕ, IfOk, ◌≡◌}
use Rattle.refusals.specs.declared.Answer.{Answer}
use Rattle.refusals.specs.Stages.{Checked}
use Rattle.std.specs.declared.result.Result.{Result}
use Rattle.std.specs.declared.result.Result.TheVariants.{Ok, Err}
use Rattle.refusals.specs.declared.Refusal.{Refusal}
use Rattle.refusals.specs.declared.Refusal.TheVariants.{Length, Record, Registers, Try, Short, Position, Table}

-- the refusal that the tests found, else the value
module _ {A : Type 0} where
  -- what the tests found: a refusal goes to `refuse`, and without one the value is the answer
  abbrev pub asked : Checked → (Refusal → A) → A → A
  asked (Err r) refuse value = refuse r
  asked (Ok n) refuse value = value

-- 0 and four values
abbrev pub answer_of : ℕ → ℕ → ℕ → ℕ → Answer
answer_of a b c d = record { refusal = 0; first = a; second = b; third = c; fourth = d }

-- a number and two values
abbrev pub refusal_of : ℕ → ℕ → ℕ → Answer
refusal_of r a b = record { refusal = r; first = a; second = b; third = 0; fourth = 0 }

-- the number, and what it also returns
abbrev pub refused_of : Refusal → Answer
refused_of (Length n) = refusal_of 1 n 0
refused_of (Record k) = refusal_of 2 k 0
refused_of (Registers n) = refusal_of 3 n 0
refused_of (Try i) = refusal_of 4 i 0
refused_of (Short b n) = refusal_of 5 b n
refused_of (Position k) = refusal_of 6 k 0
refused_of (Table t) = refusal_of 7 t 0

-- what a call tells, or its refusal
abbrev pub answered : Result Answer Refusal → Answer
answered (Ok a) = a
answered (Err r) = refused_of r

-- a refusal comes as one: what is told as an answer has the number 0
abbrev pub Straight : Result Answer Refusal → Type 0
Straight v = IfOk v (λ a. a.refusal ≡ 0)
