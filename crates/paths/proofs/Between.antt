-- A search between two clearings of its marks: buffers that are ready for it, and what is left after it. Assumes nothing.
use mathlib.Core.Path.{◌≡◌, ap, ◌∙◌}
use mathlib.Core.Bool.{Bool}
use mathlib.Core.List.{List, ◌++◌}
use Prim.Native.Nat.{ℕ, ◌+◌, ◌<◌}
use native.Mathlib.Omega.{arith}
use lib.ListN.{get_or, replicate}
use Rattle.laws.specs.Table.{cleared_to}
use Rattle.laws.proofs.Table.{cleared_tail, cleared_at}
use Rattle.paths.specs.Search.{Says, SearchSettles}
use Rattle.paths.specs.Inner.{Searched}

pub none : (n : ℕ) (seen seen₁ : List ℕ) → seen₁ ≡ cleared_to (n + 1) seen → (j : ℕ) → j < n → get_or seen₁ j 0 ≡ 0
none n seen seen₁ c j h = rw c (cleared_at (n + 1) seen j (omega arith))

-- what the search says is answered as b, with both buffers cleared
pub settles : (P Q : Type 0) (n : ℕ) (seen seen₁ seen₂ seen₃ todo todo₁ todo₂ : List ℕ) (found b : Bool)
    → seen₁ ≡ cleared_to (n + 1) seen
    → Searched P n seen₁ todo found seen₂ todo₁
    → seen₃ ≡ cleared_to (n + 1) seen₂
    → todo₂ ≡ cleared_to (n + 1) todo₁
    → (Says P found → Says Q b)
    → SearchSettles Q (n + 1) seen todo b seen₃ todo₂
settles P Q n seen seen₁ seen₂ seen₃ todo todo₁ todo₂ found b c s d e f = record {
  says = f s.answer;
  marks = d ∙ ap (λ (l : List ℕ). replicate (n + 1) 0 ++ l) (s.marks.tail ∙ rw c (cleared_tail (n + 1) seen));
  waiting = e ∙ ap (λ (l : List ℕ). replicate (n + 1) 0 ++ l) s.waiting.tail;
}
