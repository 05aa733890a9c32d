-- Sets and rows in words of w bits, for any width and word count. Assumes nothing.
use Rattle.std.specs.Prelude.{List, [], ◌∷◌, ℕ, zero, suc, ◌+◌, ◌*◌, ◌^◌, ◌<◌, get_or, take, drop}

-- the set that some words hold, the lowest registers first
unfoldable pub value : ℕ → List ℕ → ℕ
value w [] = 0
value w (x ∷ xs) = value w xs * 2 ^ w + x

-- the first m rows of a buffer
unfoldable pub rows_of : ℕ → ℕ → ℕ → List ℕ → List ℕ
rows_of w words zero buf = []
rows_of w words (suc m) buf = value w (take words buf) ∷ rows_of w words m (drop words buf)

-- each word has w bits
abbrev pub Small : ℕ → List ℕ → Type 0
Small w s = (j : ℕ) → get_or s j 0 < 2 ^ w
