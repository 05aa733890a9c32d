-- A search for one register of lent code. Assumes nothing.
use Rattle.std.specs.Prelude.{ℕ, cond, List, [], ◌∷◌, ltb}
use Rattle.laws.specs.All.{many}
use Rattle.code.specs.Ins.{ins_at, count}
use Rattle.roles.specs.Kinds.{is_jump}
use Rattle.steps.specs.Code.{after_at}

-- those of some positions that are below n
unfoldable pub seek_within : ℕ → List ℕ → List ℕ
seek_within n [] = []
seek_within n (x ∷ l) = cond (ltb x n) (x ∷ seek_within n l) (seek_within n l)

-- the instructions that come after j: n is none
unfoldable pub seek_next : List ℕ → ℕ → List ℕ
seek_next w j = seek_within (count w) (after_at w j)

-- the jumps of all the code
abbrev pub jumps_in : List ℕ → ℕ
jumps_in w = many (λ j. is_jump (ins_at w j)) (count w)
