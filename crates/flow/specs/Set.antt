-- Sets of registers. A set is a number, as rows are printed: register r is in it where bit r is 1. Assumes nothing.
use Rattle.std.specs.Prelude.{cond, ℕ, ◌/◌, ◌%◌, ◌^◌, ◌≤◌, ltb}
use Rattle.std.specs.Int.Bits.{bit_and, bit_xor}

-- 1 where r is in s, else 0
unfoldable pub bit : ℕ → ℕ → ℕ
bit s r = s / 2 ^ r % 2

-- s without t
unfoldable pub minus : ℕ → ℕ → ℕ
minus s t = bit_xor s (bit_and s t)

-- register r alone; a register not below the register count never appears
abbrev pub alone : ℕ → ℕ → ℕ
alone regs r = cond (ltb r regs) (2 ^ r) 0

infixl 20 ◌⊑◌
-- each register of s is in t
abbrev pub ◌⊑◌ : ℕ → ℕ → Type 0
s ⊑ t = (r : ℕ) → bit s r ≤ bit t r
