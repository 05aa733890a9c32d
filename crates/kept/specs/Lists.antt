-- One flat list and n + 1 offsets. Assumes nothing.
use Rattle.std.specs.Prelude.{ℕ, zero, suc, ◌+◌, ◌-◌, List, [], ◌∷◌, ◌++◌, length, get_or, take, drop}
use Rattle.kept.specs.Level.{kept_at}

-- the kept lists of the first m positions, one after the other
unfoldable pub lists_to : ℕ → List ℕ → List ℕ → List ℕ → ℕ → List ℕ
lists_to regs w tries rows zero = []
lists_to regs w tries rows (suc m) = lists_to regs w tries rows m ++ kept_at regs w tries rows m

-- the first m offsets: where each position's list begins
unfoldable pub offsets_to : ℕ → List ℕ → List ℕ → List ℕ → ℕ → List ℕ
offsets_to regs w tries rows zero = []
offsets_to regs w tries rows (suc m) = offsets_to regs w tries rows m ++ (length (lists_to regs w tries rows m) ∷ [])

-- a lent buffer that begins with a list; words past it as lent
abbrev pub over : List ℕ → List ℕ → List ℕ
over l old = l ++ drop (length l) old

-- the list of position k, as it stands in the lent list: from offset k to offset k + 1
abbrev pub part_at : List ℕ → List ℕ → ℕ → List ℕ
part_at offsets list k = take (get_or offsets (k + 1) 0 - get_or offsets k 0) (drop (get_or offsets k 0) list)
