-- What only the inside of `paths` needs: contracts of inner functions and proofs cite it, no promise does. Assumes nothing.
use Rattle.std.specs.Prelude.{ℕ, zero, suc, ◌+◌, ◌≤◌, Bool, cond, List, eqb, length, get_or, set}
use Rattle.laws.specs.Table.{Held}
use Rattle.paths.specs.Search.{Says}

-- t waits on top of the stack, if y
unfoldable pub pushed : List ℕ → ℕ → ℕ → Bool → List ℕ
pushed todo top t y = cond y (set todo top t) todo

-- buffers for a search of n positions
pub record SearchRoom (n : ℕ) (seen todo : List ℕ) : Type 0 where
  pub few : n ≤ 65535
  pub marks : n + 1 ≤ length seen
  pub waiting : n + 1 ≤ length todo

-- a search with all marks clear at entry says whether P holds, within the n + 1 words of both buffers
pub record Searched (P : Type 0) (n : ℕ) (seen todo : List ℕ) (found : Bool) (seen' todo' : List ℕ) : Type 0 where
  pub answer : Says P found
  pub marks : Held (n + 1) seen seen'
  pub waiting : Held (n + 1) todo todo'

-- the ways out of positions with no mark
unfoldable pub owed : (ℕ → List ℕ) → List ℕ → ℕ → ℕ
owed leads seen zero = 0
owed leads seen (suc m) = owed leads seen m + cond (eqb (get_or seen m 0) 0) (length (leads m)) 0
