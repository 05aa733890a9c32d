-- A search along paths, whatever is read, stops it and comes next. Assumes nothing.
use Rattle.std.specs.Prelude.{ℕ, suc, ◌+◌, ◌<◌, ◌≡◌, Bool, true, false, cond, length, get_or, set}
use mathlib.Core.List.{List, [], ◌∷◌, ◌++◌, Memᴰ}
use Rattle.laws.specs.Table.{cleared_to}

-- some path from j, over positions that do not stop it, comes to one that reads
pub data Reach (n : ℕ) (reads stops : ℕ → Bool) (leads : ℕ → List ℕ) : ℕ → Type 0 where
  here : {j : ℕ} → j < n → reads j ≡ true → Reach n reads stops leads j
  later : {j t : ℕ} → j < n → stops j ≡ false → Memᴰ t (leads j) → Reach n reads stops leads t → Reach n reads stops leads j

-- where a position leads: to s, if `on`, and to t, if `to`
abbrev pub ways : Bool → ℕ → Bool → ℕ → List ℕ
ways on s to t = cond on (s ∷ []) [] ++ cond to (t ∷ []) []

-- b says whether P holds
abbrev pub Says : Type 0 → Bool → Type 0
Says P true = P
Says P false = P → ⊥

-- b says whether P holds, and the first m words of both buffers are 0
pub record SearchSettles (P : Type 0) (m : ℕ) (seen todo : List ℕ) (b : Bool) (seen' todo' : List ℕ) : Type 0 where
  pub says : Says P b
  pub marks : seen' ≡ cleared_to m seen
  pub waiting : todo' ≡ cleared_to m todo

-- One turn of a search, by its marks and by how many wait: one is taken off and left out; or it had no mark and gets one, and what it leads to may wait.
pub data Turn (n : ℕ) (leads : ℕ → List ℕ) (seen : List ℕ) (top : ℕ) : List ℕ → ℕ → Type 0 where
  left : {top' : ℕ} → top' < top → Turn n leads seen top seen top'
  taken : {j top' : ℕ} → 0 < top → j < n → j < length seen → get_or seen j 0 ≡ 0 → top' < top + length (leads j) → Turn n leads seen top (set seen j 1) top'

-- so many turns from these marks on, with so many waiting
pub data Turns (n : ℕ) (leads : ℕ → List ℕ) (seen₀ : List ℕ) (top₀ : ℕ) : ℕ → List ℕ → ℕ → Type 0 where
  none : Turns n leads seen₀ top₀ 0 seen₀ top₀
  more : {k top top' : ℕ} {seen seen' : List ℕ} → Turns n leads seen₀ top₀ k seen top → Turn n leads seen top seen' top'
      → Turns n leads seen₀ top₀ (suc k) seen' top'
