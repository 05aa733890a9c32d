-- The last landing so far: what the table is asked for. Assumes nothing.
use Rattle.std.specs.Prelude.{ℕ, zero, suc, Bool, cond, not, ◌&&◌, List, eqb, get_or}

-- the last place below k that passes f, else 0
unfoldable pub latest : (ℕ → Bool) → ℕ → ℕ
latest f zero = 0
latest f (suc k) = cond (f k) k (latest f k)

-- strict mode asks whether something lands on t, plain mode never
abbrev pub is_landing : Bool → List ℕ → ℕ → Bool
is_landing strict l t = strict && not (eqb (get_or l t 0) 0)
