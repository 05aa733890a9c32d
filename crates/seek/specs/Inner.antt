-- What only the inside of `seek` needs: contracts of inner functions and proofs cite it, no promise does. Assumes nothing.
use Rattle.std.specs.Prelude.{ℕ, ◌+◌, ◌≤◌, Bool, ◌&&◌, List, ltb, length}
use Rattle.laws.specs.Page.{among}
use Rattle.code.specs.Ins.{count}
use Rattle.code.specs.Inner.{Valid}
use Rattle.steps.specs.Code.{used_at, given_at}
use Rattle.steps.specs.declared.Step.{Step}
use Rattle.paths.specs.Search.{Reach}
use Rattle.seek.specs.Asked.{seek_next}

-- position j uses r, gives r up
unfoldable pub uses_at : List ℕ → ℕ → ℕ → Bool
uses_at w r j = among r (used_at w j)

-- position j gives r up
unfoldable pub gives_at : List ℕ → ℕ → ℕ → Bool
gives_at w r j = among r (given_at w j)

-- the step at j goes on to an instruction, and over to one
abbrev pub on_to : Step → ℕ → ℕ → Bool
on_to s j n = s.on && ltb (j + 1) n

-- the step jumps to an instruction, not to n
abbrev pub over_to : Step → ℕ → Bool
over_to s n = s.to && ltb s.target n

-- some path from k uses r before it gives it up
abbrev pub Asked : List ℕ → ℕ → ℕ → Type 0
Asked w r k = Reach (count w) (uses_at w r) (gives_at w r) (seek_next w) k

-- accepted code, and buffers for a search of it
pub record AskedRoom (w seen todo : List ℕ) : Type 0 where
  pub valid : Valid w
  pub marks : count w + 1 ≤ length seen
  pub waiting : count w + 1 ≤ length todo
