-- The registers of a set, ascending, and how a list is written. Assumes nothing.
use Rattle.std.specs.Prelude.{List, [], ◌∷◌, ℕ, zero, suc, ◌/◌, ◌%◌}

-- p before the rest, if the bit is set
abbrev pub keep : ℕ → ℕ → List ℕ → List ℕ
keep zero p rest = rest
keep (suc b) p rest = p ∷ rest

-- those of the d lowest registers of x that are in it, ascending, counted from p
unfoldable pub listed : ℕ → ℕ → ℕ → List ℕ
listed zero p x = []
listed (suc d) p x = keep (x % 2) p (listed d (suc p) (x / 2))
