-- The Phis of a chunk w, by the entries of phi_map and the words of phi_sources: document 01, 'Folding'. Assumes nothing.
use Rattle.std.specs.Prelude.{ℕ, ◌+◌, ◌*◌, ◌/◌, Bool, cond, ◌&&◌, List, [], ◌∷◌, eqb, ltb, length, get_or}
use Rattle.laws.specs.All.{many}
use Rattle.laws.specs.Each.{each}
use Rattle.chunk.specs.Chunk.{chunk_count, operand_at, is_phi}
use Rattle.positions.specs.Remap.{alive}

-- the Phi at i has a pair: phi_map is not empty, and its index is not past phi_sources
unfoldable pub paired : List ℕ → List ℕ → List ℕ → ℕ → Bool
paired w map sources i = is_phi w i && (ltb i (length map) && ltb (get_or map i 0) (length sources / 2))

-- its sources, found through phi_map
abbrev pub left_source : List ℕ → List ℕ → ℕ → ℕ
left_source map sources i = get_or sources (2 * get_or map i 0) 0

-- the second source of the Phi at i
abbrev pub right_source : List ℕ → List ℕ → ℕ → ℕ
right_source map sources i = get_or sources (2 * get_or map i 0 + 1) 0

-- both equal its operand
unfoldable pub noop : List ℕ → List ℕ → List ℕ → ℕ → Bool
unfolding paired
noop w map sources i = paired w map sources i && (eqb (left_source map sources i) (operand_at w i) && eqb (right_source map sources i) (operand_at w i))

-- then it dies
unfoldable pub phi_mark_at : List ℕ → List ℕ → List ℕ → List ℕ → ℕ → ℕ
unfolding noop
phi_mark_at w map sources dead i = cond (alive dead i) (cond (noop w map sources i) 1 0) (get_or dead i 0)

-- all the dead marks after the pass: those that were there, and one for each Phi that dies
unfoldable pub marked : List ℕ → List ℕ → List ℕ → List ℕ → List ℕ
unfolding phi_mark_at
marked w map sources dead = each (λ i. phi_mark_at w map sources dead i ∷ []) (length dead)

-- the pair of the Phi at i, if it lives
abbrev pub pair_left : List ℕ → List ℕ → List ℕ → List ℕ → ℕ → List ℕ
pair_left w map sources dead i = cond (alive dead i && paired w map sources i) (left_source map sources i ∷ right_source map sources i ∷ []) []

-- the surviving pairs, in order
unfoldable pub pairs_left : List ℕ → List ℕ → List ℕ → List ℕ → List ℕ
unfolding paired
pairs_left w map sources dead = each (pair_left w map sources dead) (length dead)

-- a Phi's entry is the number of Phis before it, any other entry 0
abbrev pub phi_entry : Bool → ℕ → ℕ
phi_entry phi next = cond phi next 0

-- phi_map indexed anew, for all of the code
unfoldable pub indexed : List ℕ → List ℕ
indexed w = each (λ i. phi_entry (is_phi w i) (many (is_phi w) i) ∷ []) (chunk_count w)
