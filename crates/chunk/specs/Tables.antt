-- The table rules: counts as lent and none past its buffer's end, pairs whole, bool word 0 or 1, kind 0 to 3. Assumes nothing.
use Rattle.std.specs.Prelude.{ℕ, ◌%◌, Bool, not, cond, ◌&&◌, ◌||◌, List, eqb, leb, get_or, length}
use Rattle.laws.specs.All.{every}
use Rattle.refusals.specs.Stages.{and_then}
use Rattle.refusals.specs.declared.Refusal.TheVariants.{Table}
use Rattle.refusals.specs.Stages.{Checked}
use Rattle.std.specs.declared.result.Result.TheVariants.{Ok, Err}

-- kind 0 to 3, a bool's word 0 or 1
abbrev pub constant_kept : List ℕ → List ℕ → ℕ → Bool
constant_kept kinds words i = leb (get_or kinds i 0) 3 && (not (eqb (get_or kinds i 0) 3) || leb (get_or words i 0) 1)

-- at most 65,536 constants, none past its buffers' ends
abbrev pub within : ℕ → ℕ → ℕ → Bool
within k kinds words = leb k 65536 && leb k kinds && leb k words

-- 1: the constants
abbrev pub constants_kept : List ℕ → List ℕ → ℕ → Bool
constants_kept kinds words k = within k (length kinds) (length words) && every (constant_kept kinds words) k

-- 2: phi_map has 0 or n entries
abbrev pub map_kept : ℕ → ℕ → ℕ → Bool
map_kept n entries len = (eqb entries 0 || eqb entries n) && leb entries len

-- 3, 4, 5: whole pairs, counted in words
abbrev pub pairs_kept : ℕ → ℕ → Bool
pairs_kept words len = eqb (words % 2) 0 && leb words len

-- 7: a chunk table breaks its rule
abbrev pub table_of : Checked → ℕ → Bool → Checked
table_of v number kept = and_then v (λ n. cond kept (Ok n) (Err (Table number)))
