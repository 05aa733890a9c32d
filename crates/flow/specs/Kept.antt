-- The kept list of a level. Assumes nothing.
use Rattle.std.specs.Prelude.{List, [], ◌∷◌, ◌++◌, cond, ◌&&◌, ℕ, min, ltb}
use Rattle.std.specs.Int.Bits.{bit_or}
use Rattle.flow.specs.Set.{minus}
use Rattle.flow.specs.Listed.{listed}

-- Where a level goes on: at its resume point, with the result in a register (a set of one) or in none, or in a handler around it.
pub record Level : Type 0 where
  pub resume : ℕ
  pub result : ℕ
  pub handlers : List ℕ

-- of tries in order, pairs (s, h), those with s < k < h: their rows min(h, n)
unfoldable pub handlers_of : ℕ → ℕ → List ℕ → List ℕ
handlers_of n k [] = []
handlers_of n k (s ∷ []) = []
handlers_of n k (s ∷ (h ∷ tries)) = cond (ltb s k && ltb k h) (min h n ∷ handlers_of n k tries) (handlers_of n k tries)

-- what each handler's row adds to the registers seen, ascending
unfoldable pub added : ℕ → (ℕ → ℕ) → ℕ → List ℕ → List ℕ
added regs R seen [] = []
added regs R seen (h ∷ hs) = listed regs 0 (minus (R h) seen) ++ added regs R (bit_or seen (R h)) hs

-- the resume row less the result register
abbrev pub resumed : (ℕ → ℕ) → Level → ℕ
resumed R v = minus (R v.resume) v.result

-- the kept list: the resume row ascending, less the result register; then what each handler's row adds, ascending
abbrev pub kept : ℕ → (ℕ → ℕ) → Level → List ℕ
kept regs R v = listed regs 0 (resumed R v) ++ added regs R (resumed R v) v.handlers
