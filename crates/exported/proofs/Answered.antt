-- From an exported answer to the call's own: a refusal's number is not 0, and with refusal 0 the call was answered. Assumes nothing.
use mathlib.Core.Path.{◌≡◌, sym, ◌∙◌}
use native.Mathlib.Omega.{arith}
use Rattle.refusals.specs.Answers.{refused_of}
use Rattle.refusals.specs.declared.Answer.{Answer}
use Rattle.refusals.specs.declared.Refusal.{Refusal}
use Rattle.refusals.specs.declared.Refusal.TheVariants.{Length, Record, Registers, Try, Short, Position, Table}
use Rattle.exported.specs.Settles.{One}

-- a refusal's number is not 0
pub refused_not : (q : Refusal) → (refused_of q).refusal ≡ 0 → ⊥
refused_not (Length n) e = absurd (omega arith)
refused_not (Record n) e = absurd (omega arith)
refused_not (Registers n) e = absurd (omega arith)
refused_not (Try n) e = absurd (omega arith)
refused_not (Short b n) e = absurd (omega arith)
refused_not (Position n) e = absurd (omega arith)
refused_not (Table n) e = absurd (omega arith)

-- where the statement is an equation there is one answer
pub one : (x : Answer) → One (λ r. r ≡ x)
one x r r' p q = p ∙ sym q
