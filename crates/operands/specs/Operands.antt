-- The operands of an attempt, and what keeps them from folding: document 01, 'Folding'. Assumes nothing.
use Rattle.std.specs.Prelude.{ℕ, zero, suc, ◌-◌, Bool, cond, ◌&&◌, ◌||◌, List, ltb, eqb, get_or}
use Rattle.ops.specs.Op.{LoadConst}
use Rattle.chunk.specs.Chunk.{op_at, operand_at, lands}
use Rattle.std.specs.declared.option.Option.{Option}
use Rattle.values.specs.declared.Val.{Val}
use Rattle.std.specs.declared.option.Option.TheVariants.{Some, None}
use Rattle.pool.specs.Pool.{const_to_val}

-- the nearest undead instruction before i
unfoldable pub prev_live : List ℕ → ℕ → Option ℕ
prev_live dead zero = None
prev_live dead (suc i) = cond (eqb (get_or dead i 0) 0) (Some i) (prev_live dead i)

-- an operand must be a LoadConst, of a constant that is one
unfoldable pub operand_of : (code kinds words : List ℕ) → ℕ → ℕ → Option Val
operand_of code kinds words constants p = cond (eqb (op_at code p) LoadConst) (const_to_val kinds words constants (operand_at code p)) None

-- no fold if the instruction just before the first operand is a jump into (first operand, operator]
unfoldable pub skips_into : List ℕ → ℕ → ℕ → Bool
unfolding lands
skips_into w p i = ltb 0 p && lands w p i (p - 1)

-- and none if a landing bars the first operand p: strict mode
unfoldable pub blocked : (ℕ → Bool) → List ℕ → ℕ → ℕ → Bool
unfolding skips_into
blocked bars w p i = skips_into w p i || bars p

-- the last landing bars every operand before it
abbrev pub after : ℕ → ℕ → Bool
after last p = ltb p last
