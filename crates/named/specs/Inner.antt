-- What only the inside of `named` needs: contracts of inner functions and proofs cite it, no promise does. Assumes nothing.
use Rattle.std.specs.Prelude.{ℕ, ◌≤◌, ◌<◌, ◌≡◌, Bool, cond, not, ◌&&◌, List, eqb, ltb, length, get_or, set}
use mir.Val.{bool_byte}
use Rattle.laws.specs.Table.{Held}
use Rattle.chunk.specs.Chunk.{operand_at, names}
use Rattle.named.specs.Unused.{constant_named}

-- scratch with a mark for the constant that instruction k names
unfoldable pub noted : List ℕ → ℕ → ℕ → List ℕ → List ℕ
noted w m k s = cond (names w k && ltb (operand_at w k) m) (set s (operand_at w k) 1) s

-- 1 for each named constant, 0 for the others
pub record NamedMarks (w : List ℕ) (m : ℕ) (old s : List ℕ) : Type 0 where
  pub held : Held m old s
  pub at : (i : ℕ) → i < m → get_or s i 0 ≡ bool_byte (constant_named w i)

-- the scratch has a mark for constant i
abbrev pub marked_in : List ℕ → ℕ → Bool
marked_in s i = not (eqb (get_or s i 0) 0)

-- no number is above its place
pub record LowNumbers (m : ℕ) (s : List ℕ) : Type 0 where
  pub there : m ≤ length s
  pub few : m ≤ 65536
  pub at : (i : ℕ) → i < m → get_or s i 0 ≤ i

-- the new number that the scratch has for constant i
abbrev pub number_in : List ℕ → ℕ → ℕ
number_in s i = get_or s i 0
