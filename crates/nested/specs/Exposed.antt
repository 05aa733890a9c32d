-- The registers by which the two answers differ. Assumes nothing.
use Rattle.std.specs.Prelude.{ℕ, ◌<◌, ◌≡◌, ◌≢◌, cond, List, [], ◌∷◌}
use Rattle.laws.specs.Page.{among}
use Rattle.flow.specs.Set.{bit}
use Rattle.nested.specs.Machine.{Frame, Event, nested, undisturbed, Spares}

-- those of a list that another has not, in order
unfoldable pub exposed : List ℕ → List ℕ → List ℕ
exposed plain [] = []
exposed plain (r ∷ l) = cond (among r plain) (exposed plain l) (r ∷ exposed plain l)

-- A run that tells: only r is overwritten, only at k, and no register of the other lists.
pub record ToldApart (c : Frame) (plain : ℕ → List ℕ) (k r : ℕ) : Type 0 where
  pub lost : ℕ → ℕ
  pub only : (j q : ℕ) → 0 < bit (lost j) q → (j ≡ k) × (q ≡ r)
  pub spares : Spares c plain lost
  pub events : List Event
  pub file : List ℕ
  pub apart : nested c lost events k file ≢ nested c undisturbed events k file
