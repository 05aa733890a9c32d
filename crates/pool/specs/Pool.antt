-- Constants: document 01, 'What is lent' (a kind byte, 0 other, 1 int, 2 float, 3 bool, and a u64 word each) and 'Folding'.
use Rattle.std.specs.Prelude.{ℕ, ◌+◌, Bool, not, cond, ◌&&◌, List, ltb, eqb, get_or, set}
use Rattle.std.specs.Float.{binary64}
use Rattle.std.specs.Float.Ieee.{of_bits, to_bits}
use Rattle.std.specs.Int.{w64}
use Rattle.std.proofs.Common.{to_z, of_z}
use Rattle.laws.specs.Walk.{first}
use Rattle.values.specs.Folds.{in_range}
use Rattle.values.specs.declared.Val.{Val}
use Rattle.values.specs.declared.Val.TheVariants.{Int, Float as Real, Bool as Truth}
use Rattle.std.specs.declared.option.Option.{Option}
use Rattle.std.specs.declared.option.Option.TheVariants.{Some, None}

-- what a constant is as an operand: an int is its word in two's complement, where it is in range, and a float its word's, every NaN the single one
unfoldable pub to_val : ℕ → ℕ → Option Val
to_val k w =
    cond (eqb k 1) (in_range (to_z w64 w))
    (cond (eqb k 2) (Some (Real (of_bits binary64 w)))
    (cond (eqb k 3) (Some (Truth (not (eqb w 0))))
    None))

-- one past the count is no operand
unfoldable pub const_to_val : List ℕ → List ℕ → ℕ → ℕ → Option Val
const_to_val kinds words count i = cond (ltb i count) (to_val (get_or kinds i 0) (get_or words i 0)) None

-- constants are equal by kind and word: ints by number, floats by bits, kinds never equal
abbrev pub equals : List ℕ → List ℕ → ℕ → ℕ → ℕ → Bool
equals kinds words k w i = eqb (get_or kinds i 0) k && eqb (get_or words i 0) w

-- the first equal constant, else the count
abbrev pub position : List ℕ → List ℕ → ℕ → ℕ → ℕ → ℕ
position kinds words count k w = first (equals kinds words k w) 0 count

-- where a result is kept with the new count, or no room, and the pool with it
pub record Stored : Type 0 where
  pub kept : Option (ℕ × ℕ)
  pub kinds : List ℕ
  pub words : List ℕ

-- a result kept so, with the pool's kinds and words after it
abbrev pub stored : Option (ℕ × ℕ) → List ℕ → List ℕ → Stored
stored r kinds words = record { kept = r; kinds = kinds; words = words }

-- the first equal constant; otherwise it is pushed, unless the pool already has 65,535 or more
unfoldable pub find_or_push : List ℕ → List ℕ → ℕ → ℕ → ℕ → Stored
find_or_push kinds words count k w =
    cond (ltb (position kinds words count k w) count) (stored (Some (position kinds words count k w, count)) kinds words)
    (cond (ltb count 65535) (stored (Some (count, count + 1)) (set kinds count k) (set words count w))
    (stored None kinds words))

-- an int's word is its two's complement, and a float's its bits, the single NaN's 0x7FF8_0000_0000_0000; a bool is never kept
unfoldable pub find_or_push_const : List ℕ → List ℕ → ℕ → Val → Stored
unfolding find_or_push
find_or_push_const kinds words count (Int z) = find_or_push kinds words count 1 (of_z w64 z)
find_or_push_const kinds words count (Real x) = find_or_push kinds words count 2 (to_bits binary64 x)
find_or_push_const kinds words count (Truth b) = stored None kinds words
