-- What folding keeps of a chunk's runs: document 02, wish 14. Assumes nothing.
use Rattle.std.specs.Prelude.{ℕ, List, []}
use Rattle.runs.specs.Machine.{End, Run, ins}

-- a run from an empty stack over n instructions ends so
abbrev pub RunEnds : (code kinds words : List ℕ) → ℕ → End → Type 0
RunEnds code kinds words n e = Run (ins code kinds words) n 0 [] e

-- both end alike, or neither ends
pub record Same (code kinds words : List ℕ) (n : ℕ) (code' kinds' words' : List ℕ) (n' : ℕ) : Type 0 where
  pub ends : (e : End) → RunEnds code kinds words n e → RunEnds code' kinds' words' n' e
  pub back : (e : End) → RunEnds code' kinds' words' n' e → RunEnds code kinds words n e
