-- What only the inside of `runs` needs: contracts of inner functions and proofs cite it, no promise does. Assumes nothing.
use Rattle.std.specs.Prelude.{ℕ, ◌*◌, ◌<◌, ◌≡◌, false, List, length, get_or}
use Rattle.chunk.specs.Chunk.{stride}
use Rattle.landings.specs.Landings.{lands_any}
use Rattle.fold.specs.Plan.{Chunk}
use Rattle.fold.specs.Pass.{Bars}
use Rattle.fold.specs.Inner.{PassRoom}
use Rattle.runs.specs.Machine.{Plain}
use Rattle.runs.specs.Rule.{Ruled}
use Rattle.runs.specs.Kept.{Same}

-- and the second is n' instructions as the wish has them, over so many constants
pub record RunsAs (code kinds words : List ℕ) (n : ℕ) (code' kinds' words' : List ℕ) (constants' n' : ℕ) : Type 0 where
  pub same : Same code kinds words n code' kinds' words' n'
  pub rule : Ruled code' constants' n'

-- no fold over a jump's landing
abbrev pub Strict : Bars → Type 0
Strict bars = (w : List ℕ) (i p : ℕ) → bars w i p ≡ false → lands_any w p i ≡ false

-- a chunk as it comes to the pass: whole, nothing dead, room for what folds push, and each instruction plain
pub record Fresh (s : Chunk) : Type 0 where
  pub whole : length s.code ≡ stride * length s.dead
  pub blank : (k : ℕ) → get_or s.dead k 0 ≡ 0
  pub lent : PassRoom s
  pub each : (k : ℕ) → k < length s.dead → Plain s.code s.constants k
