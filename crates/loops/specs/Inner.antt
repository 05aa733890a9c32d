-- What only the inside of `loops` needs: contracts of inner functions and proofs cite it, no promise does. Assumes nothing.
use Rattle.std.specs.Prelude.{ℕ, ◌+◌, ◌/◌, ◌<◌, ◌≤◌, ◌≡◌, ◌&&◌, List, ltb, leb, length, get_or}
use mir.Val.{bool_byte}
use Rattle.laws.specs.Table.{Held}
use Rattle.code.specs.Inner.{Whole}
use Rattle.loops.specs.Loops.{depth}

-- one more at each p from a on, below b, and nothing else changed
pub record Added (m a b : ℕ) (out out' : List ℕ) : Type 0 where
  pub each : (p : ℕ) → p < m → get_or out' p 0 ≡ get_or out p 0 + bool_byte (leb a p && ltb p b)
  pub held : Held m out out'

-- entries that can grow
pub record CanGrow (m a b : ℕ) (out : List ℕ) : Type 0 where
  pub inside : b ≤ m
  pub fits : m ≤ length out
  pub small : (p : ℕ) → p < m → get_or out p 0 ≤ 65535

-- accepted code, with room for its entries
pub record Space (w out : List ℕ) : Type 0 where
  pub whole : Whole w
  pub few : length w / 6 ≤ 65535
  pub fits : length w / 6 + 1 ≤ length out

-- and all of them 0
pub record Zeroed (w out : List ℕ) : Type 0 where
  pub space : Space w out
  pub zero : (p : ℕ) → p < length w / 6 + 1 → get_or out p 0 ≡ 0

-- each entry holds its count, and nothing else changed
pub record Counted (w out out' : List ℕ) : Type 0 where
  pub each : (p : ℕ) → p < length w / 6 + 1 → get_or out' p 0 ≡ depth w p
  pub held : Held (length w / 6 + 1) out out'
