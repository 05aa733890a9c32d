-- The sweeps that find the rows, where they begin, when they begin again, and how many there are. Assumes nothing.
use Rattle.std.specs.Prelude.{◌≡◌, ◌≢◌, List, [], ◌∷◌, Bool, false, cond, ◌||◌, ℕ, zero, suc, ◌+◌, ◌-◌, ◌<◌, ltb, get_or, set, replicate}
use Rattle.flow.specs.Flow.{Flow, reach, row_at}

-- row k of a list of rows
abbrev pub row : List ℕ → ℕ → ℕ
row rows k = get_or rows k 0

-- rows start empty: n + 1 of them
abbrev pub empty : Flow → List ℕ
empty f = replicate (suc f.size) 0

-- rows start + d - 1 down to start, each found anew from the rows as they then are
unfoldable pub sweep : Flow → ℕ → ℕ → List ℕ → List ℕ
sweep f start zero rows = rows
sweep f start (suc d) rows = sweep f start d (set rows (start + d) (row_at f (row rows) (start + d)))

-- a full sweep: from the end down to the start
abbrev pub swept : Flow → ℕ → List ℕ → List ℕ
swept f start rows = sweep f start (f.size - start) rows

-- some position of ss is below b
unfoldable pub below : ℕ → List ℕ → Bool
below b [] = false
below b (s ∷ ss) = ltb s b || below b ss

-- how many of the positions from start to start + d - 1 pass a test
unfoldable pub tally : (ℕ → Bool) → ℕ → ℕ → ℕ
tally p start zero = 0
tally p start (suc d) = tally p start d + cond (p (start + d)) 1 0

-- the jumps at or past the start that go to their own position or back
abbrev pub backs : Flow → ℕ → ℕ
backs f start = tally (λ k. below (suc k) (reach f k)) start (f.size - start)

-- the jumps at or past the start that go to before it
abbrev pub strays : Flow → ℕ → ℕ
strays f start = tally (λ k. below start (reach f k)) start (f.size - start)

-- a sweep that changed something repeats only if a jump it swept goes to its own position or back
abbrev pub Again : Flow → ℕ → List ℕ → Type 0
Again f start rows = (swept f start rows ≢ rows) × (0 < backs f start)

-- so many full sweeps, begun at these rows, end with out
pub data Sweeps (f : Flow) (start : ℕ) : List ℕ → ℕ → List ℕ → Type 0 where
  done : {rows : List ℕ} → ¬ Again f start rows → Sweeps f start rows 1 (swept f start rows)
  more : {rows out : List ℕ} {full : ℕ} → Again f start rows → Sweeps f start (swept f start rows) full out → Sweeps f start rows (suc full) out

-- Sweeps begin at `first`. A jump at or past it to before it abandons the sweep, and all begins at 0, where no jump goes before.
abbrev pub start_of : Flow → ℕ → ℕ
start_of f first = cond (ltb 0 (strays f first)) 0 first

-- how many sweeps are abandoned: one if a jump at or past `first` goes to before it, else none
abbrev pub abandoned_of : Flow → ℕ → ℕ
abandoned_of f first = cond (ltb 0 (strays f first)) 1 0

-- What a route that begins at `first` leaves: the rows, and the counts of full and of abandoned sweeps.
pub record Found (f : Flow) (first : ℕ) (rows : List ℕ) (full abandoned : ℕ) : Type 0 where
  pub sweeps : Sweeps f (start_of f first) (empty f) full rows
  pub left : abandoned ≡ abandoned_of f first
