-- A lent list whose first m words are written: one by one, or all 0. The words past them stay. Assumes nothing.
use Rattle.std.specs.Prelude.{ℕ, zero, suc, ◌≡◌, List, [], ◌∷◌, ◌++◌, length, drop, replicate}

-- f 0, f 1, .., m of them
unfoldable pub table : (ℕ → ℕ) → ℕ → List ℕ
table f zero = []
table f (suc m) = table f m ++ (f m ∷ [])

-- the first m words are f 0, f 1 and so on, the words past them as they were
abbrev pub filled_to : (ℕ → ℕ) → ℕ → List ℕ → List ℕ
filled_to f m l = table f m ++ drop m l

-- the first m words are 0, the words past them as they were
abbrev pub cleared_to : ℕ → List ℕ → List ℕ
cleared_to m l = replicate m 0 ++ drop m l

-- only the first m words changed
pub record Held (m : ℕ) (l₀ l : List ℕ) : Type 0 where
  pub same : length l ≡ length l₀
  pub tail : drop m l ≡ drop m l₀
