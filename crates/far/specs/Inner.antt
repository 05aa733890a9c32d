-- What only the inside of `far` needs: contracts of inner functions and proofs cite it, no promise does. Assumes nothing.
use Rattle.std.specs.Prelude.{◌≡◌, ℕ, Bool, ◌||◌, List, []}
use Rattle.code.specs.declared.Ins.{Ins}
use Rattle.flow.specs.Flow.{Flow}
use Rattle.steps.specs.Code.{set_of}
use Rattle.steps.specs.Inner.{used_of, given_of, after_of}
use Rattle.steps.specs.declared.Step.{Step}
use Rattle.steps.specs.Level.{is_level}
use Rattle.nested.specs.Raising.{stranded, leaving}

-- the row equation of a step by itself; what may raise may leave for the handlers around it, and what is stranded for the next position
abbrev pub raising_step : Bool → Bool → ℕ → ℕ → List ℕ → Step → Flow
raising_step may past n regs tries s = record {
  size = 0;
  regs = regs;
  used = λ k. set_of regs (used_of s);
  given_up = λ k. set_of regs (given_of s);
  after = after_of s;
  raises = λ k. leaving may past n k tries;
}

-- wherever i stands, nothing leaves from it: not for a handler, nor for the next position
abbrev pub Quiet : Bool → Ins → List ℕ → Type 0
Quiet all i tries = (n k : ℕ) → leaving (all || is_level i) (stranded i) n k tries ≡ []
