-- The two routes, over the width of a word: where each begins, and what both leave. Assumes nothing.
use Rattle.std.specs.Prelude.{ℕ, suc, ◌+◌, ◌-◌, ◌/◌, max, Bool, cond, ◌||◌, List, ltb}
use Rattle.code.specs.Ins.{count}
use Rattle.flow.specs.Words.{rows_of}
use Rattle.steps.specs.Level.{first_level}

-- words of a row, with `bits` bits each: registers / bits rounded up, at least 1
abbrev pub words_for : ℕ → ℕ → ℕ
words_for bits regs = max 1 ((regs + (bits - 1)) / bits)

-- registers that one word holds take the word route, which begins at the first level; more take the wide route from 0, and so does any count if forced
unfoldable pub route_start : ℕ → Bool → ℕ → List ℕ → ℕ
route_start bits wide regs w = cond (wide || ltb bits regs) 0 (first_level w)

-- the rows that the words of a buffer hold
abbrev pub rows_in : ℕ → ℕ → List ℕ → List ℕ → List ℕ
rows_in bits regs w buf = rows_of bits (words_for bits regs) (suc (count w)) buf
