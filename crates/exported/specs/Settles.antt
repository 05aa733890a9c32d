-- What is promised of every exported call, whatever it answers: one result, refusals that leave what is lent, and words past a need that stay. Assumes nothing.
use Rattle.std.specs.Prelude.{◌≡◌}
use Rattle.refusals.specs.declared.Answer.{Answer}

-- a call that only reads: any two answers that its statement allows are equal
abbrev pub One : (Answer → Type 0) → Type 0
One S = (r r' : Answer) → S r → S r' → r ≡ r'

-- a refusal has a number that is not 0
abbrev pub Refusal : Answer → Type 0
Refusal r = r.refusal ≡ 0 → ⊥

-- a call that also writes: S says of what is lent which answer it may give, and what may then stand in the buffers
pub record Settles {B : Type 0} (S : B → Answer → B → Type 0) (Beyond : B → B → Type 0) : Type 0 where
  -- any two results that the statement allows are equal, lent words included
  pub one : (b : B) (r r' : Answer) (a a' : B) → S b r a → S b r' a' → (r ≡ r') × (a ≡ a')
  -- a refusal leaves every buffer as lent
  pub refusal : (b : B) (r : Answer) (a : B) → S b r a → Refusal r → a ≡ b
  -- every buffer keeps its length, and words past a needed length are never touched
  pub beyond : (b : B) (r : Answer) (a : B) → S b r a → Beyond b a
