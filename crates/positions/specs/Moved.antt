-- What the tables of positions become: document 01, 'Folding'. Assumes nothing.
use Rattle.std.specs.Prelude.{ℕ, ◌+◌, ◌*◌, ◌/◌, List, [], ◌∷◌, length, get_or}
use Rattle.laws.specs.Each.{each}
use Rattle.positions.specs.Remap.{mapped}

-- the first word of each position pair maps
abbrev pub pair_at : List ℕ → List ℕ → ℕ → List ℕ
pair_at dead t k = mapped dead (get_or t (2 * k) 0) ∷ get_or t (2 * k + 1) 0 ∷ []

-- a table of position pairs once instructions died: the first word of each pair maps, the second stays
unfoldable pub placed : List ℕ → List ℕ → List ℕ
placed dead t = each (pair_at dead t) (length t / 2)

-- every word of each pair maps: tries are remapped like jump operands
unfoldable pub moved_all : List ℕ → List ℕ → List ℕ
moved_all dead t = each (λ k. mapped dead (get_or t k 0) ∷ []) (length t)
