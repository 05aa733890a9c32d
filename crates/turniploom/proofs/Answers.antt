-- A wrapper's answer: what the definition f gives for the case x that the call's answer v is known to be. Assumes nothing.
use mathlib.Core.Path.{◌≡◌}
use Rattle.refusals.specs.declared.Answer.{Answer}

-- a teller's answer: what f gives for the case x that its argument v is known to be
pub of_case : {A : Type 0} (f : A → Answer) (v x : A) (a : Answer) → v ≡ x → a ≡ f x → a ≡ f v
of_case f v x a h z = rw h z
