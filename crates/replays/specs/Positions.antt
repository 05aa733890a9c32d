-- The positions that a trace records, and those that a run visits. Assumes nothing.
use Rattle.std.specs.Prelude.{ℕ, zero, suc, List, [], ◌∷◌, map}
use Rattle.flow.specs.Flow.{Flow}
use Rattle.flow.specs.Run.{run}
use Rattle.blocks.specs.Blocks.{slot_at}

-- m slots from slot s on
unfoldable pub slots_from : List ℕ → ℕ → ℕ → List ℕ
slots_from t s zero = []
slots_from t s (suc m) = slot_at t s ∷ slots_from t (suc s) m

-- the positions that a run of demand 3's machine visits
abbrev pub visited : Flow → List ℕ → List (List ℕ) → ℕ → List ℕ → List ℕ
visited f choices news k file = map (λ (x : ℕ × List ℕ). x.0) (run f choices news k file)
