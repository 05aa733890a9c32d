-- Which lists of registers the frame saver takes (document 02, wish 4: refusal 14). Assumes nothing.
use Rattle.std.specs.Prelude.{ℕ, Bool, ◌||◌, List, leb, eqb, length, get_or}
use Rattle.laws.specs.Walk.{first}
use Rattle.laws.specs.Some.{some}

-- 14: at place i of the list stands a register that is not in the file, or that stands before i too
abbrev pub strange : ℕ → List ℕ → ℕ → Bool
strange regs l i = leb regs (get_or l i 0) || some (λ j. eqb (get_or l j 0) (get_or l i 0)) i

-- the first such place, else the list's length
unfoldable pub first_strange : ℕ → List ℕ → ℕ
first_strange regs l = first (strange regs l) 0 (length l)
