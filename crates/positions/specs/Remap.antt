-- Where positions go when instructions die: document 01, 'Folding'. Assumes nothing.
use Rattle.std.specs.Prelude.{ℕ, ◌+◌, Bool, cond, List, [], ◌∷◌, eqb, leb, length, get_or}
use Rattle.laws.specs.All.{many}
use Rattle.laws.specs.Each.{each}

-- dead marks are 1 at each position that died, else 0
abbrev pub alive : List ℕ → ℕ → Bool
alive dead i = eqb (get_or dead i 0) 0

-- remap(i) is the number of live instructions before i
abbrev pub live : List ℕ → ℕ → ℕ
live dead i = many (alive dead) i

-- remap(0) to remap(n)
unfoldable pub remap_of : List ℕ → List ℕ
remap_of dead = each (λ i. live dead i ∷ []) (length dead + 1)

-- positions map up to n; above n they stay
unfoldable pub mapped : List ℕ → ℕ → ℕ
mapped dead v = cond (leb v (length dead)) (live dead v) v
