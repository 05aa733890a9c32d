-- What is left of a pool when the constants that nobody names go: document 02, wish 1. Assumes nothing.
use Rattle.std.specs.Prelude.{ℕ, ◌-◌, ◌≤◌, ◌<◌, ◌≡◌, ◌⊎◌, Bool, true, cond, ◌&&◌, List, [], ◌∷◌, ◌++◌, eqb, ltb, get_or, drop, replicate}
use Rattle.laws.specs.All.{many}
use Rattle.laws.specs.Some.{some}
use Rattle.laws.specs.Each.{each}
use Rattle.chunk.specs.Chunk.{chunk_count, op_at, mark_at, operand_at, origin_at, names}

-- instruction k has the mark, and its operand is i
abbrev pub names_it : List ℕ → ℕ → ℕ → Bool
names_it w i k = names w k && eqb (operand_at w k) i

-- constant i is named by some instruction with the mark
unfoldable pub constant_named : List ℕ → ℕ → Bool
constant_named w i = some (names_it w i) (chunk_count w)

-- its new number is how many named ones stand before it
abbrev pub before : List ℕ → ℕ → ℕ
before w i = many (constant_named w) i

-- entry i if it passes f, as a list of one
abbrev pub packed_at : (ℕ → Bool) → List ℕ → ℕ → List ℕ
packed_at f l i = cond (f i) (get_or l i 0 ∷ []) []

-- of the first m entries those that pass f, in their order
unfoldable pub packed_list : (ℕ → Bool) → ℕ → List ℕ → List ℕ
packed_list f m l = each (packed_at f l) m

-- freed entries become 0; those past the old count m stay
unfoldable pub pooled : (ℕ → Bool) → ℕ → List ℕ → List ℕ
unfolding packed_list
pooled f m l = packed_list f m l ++ (replicate (m - many f m) 0 ++ drop m l)

-- an operand below the old count is renumbered; one at or past it stays
unfoldable pub renumbered : (ℕ → ℕ) → ℕ → ℕ → ℕ
renumbered number m v = cond (ltb v m) (number v) v

-- only an instruction with the mark has such an operand
unfoldable pub renamed_operand : (ℕ → ℕ) → ℕ → List ℕ → ℕ → ℕ
unfolding renumbered
renamed_operand number m w k = cond (names w k) (renumbered number m (operand_at w k)) (operand_at w k)

-- the words of an instruction: its operand alone changes
abbrev pub ins_of : (ℕ → ℕ) → ℕ → List ℕ → ℕ → List ℕ
ins_of number m w k = op_at w k ∷ mark_at w k ∷ renamed_operand number m w k ∷ origin_at w k ∷ []

-- the code with its operands renumbered
unfoldable pub recoded : (ℕ → ℕ) → ℕ → List ℕ → List ℕ
unfolding renamed_operand
recoded number m w = each (ins_of number m w) (chunk_count w)

-- the first m words of scratch are told, the rest stays
unfoldable pub numbered : (ℕ → ℕ) → ℕ → List ℕ → List ℕ
numbered number m l = each (λ i. number i ∷ []) m ++ drop m l

-- what an operand v loads of m entries: the one at v, and nothing at or past m
unfoldable pub loaded : List ℕ → ℕ → ℕ → List ℕ
loaded l m v = cond (ltb v m) (get_or l v 0 ∷ []) []

-- every operand of an instruction with the mark names one of the m constants that are there, or is at or past the limit
abbrev pub AllNear : List ℕ → ℕ → ℕ → Type 0
AllNear w m limit = (k : ℕ) → k < chunk_count w → names w k ≡ true → (operand_at w k < m) ⊎ (limit ≤ operand_at w k)
