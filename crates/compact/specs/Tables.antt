-- What the code becomes, and the position tables with it: document 01, 'Folding'. Assumes nothing.
use Rattle.std.specs.Prelude.{ℕ, ◌-◌, cond, List, [], ◌∷◌, ◌++◌, length, replicate}
use Rattle.laws.specs.Each.{each}
use Rattle.chunk.specs.Chunk.{op_at, mark_at, operand_at, origin_at, marks_jump}
use Rattle.positions.specs.Remap.{alive, mapped}

-- a jump operand maps
unfoldable pub moved_operand : List ℕ → List ℕ → ℕ → ℕ
moved_operand dead w i = cond (marks_jump w i) (mapped dead (operand_at w i)) (operand_at w i)

-- the words of instruction i as it survives: its origin with it
abbrev pub words_of : List ℕ → List ℕ → ℕ → List ℕ
words_of dead w i = op_at w i ∷ mark_at w i ∷ moved_operand dead w i ∷ origin_at w i ∷ []

-- what is left of instruction i: nothing of a dead one
abbrev pub left_at : List ℕ → List ℕ → ℕ → List ℕ
left_at dead w i = cond (alive dead i) (words_of dead w i) []

-- the live instructions, in order
unfoldable pub left : List ℕ → List ℕ → List ℕ
left dead w = each (left_at dead w) (length dead)

-- words past the new count are 0
unfoldable pub compacted : List ℕ → List ℕ → List ℕ
compacted dead w = left dead w ++ replicate (length w - length (left dead w)) 0
