-- `passed` of block.rs: parameters, a bit each. Assumes nothing.
use Rattle.std.specs.Prelude.{ℕ, ◌+◌, min, Bool, ◌&&◌, List, [], ◌∷◌, eqb, ltb, get_or}
use mir.Val.{bool_byte}
use Rattle.laws.specs.Mask.{mask}
use Rattle.ops.specs.Op.{CallMethodR}
use Rattle.code.specs.Ins.{ins_at, wide}
use Rattle.code.specs.declared.Ins.{Ins}

-- how many arguments the call c has, a method's receiver too
unfoldable pub arguments : Ins → ℕ
arguments c = c.x + bool_byte (eqb c.op CallMethodR)

-- the registers of its first five: two in the call, the others in `rest`
abbrev pub places : Ins → Ins → List ℕ
places c rest = c.b ∷ c.c ∷ rest.a ∷ rest.b ∷ rest.c ∷ []

-- of the first n arguments, q is passed on as it is: it stands in register q
unfoldable pub keeps : ℕ → ℕ → ℕ → Bool
keeps n q r = ltb q n && eqb r q

-- so for argument q of the call c with so many parameters
unfoldable pub keeps_at : Ins → Ins → ℕ → ℕ → Bool
keeps_at c rest arity q = keeps (min (arguments c) arity) q (get_or (places c rest) q 0)

-- a bit for each of the five
unfoldable pub passed_in : Ins → Ins → ℕ → ℕ
passed_in c rest arity = mask (keeps_at c rest arity) 5

-- `passed`: the call at j; `rest` is the ArgsR of a wide call, else the call itself
unfoldable pub passed_at : List ℕ → ℕ → ℕ → ℕ
passed_at w j arity = passed_in (ins_at w j) (ins_at w (j + bool_byte (wide (ins_at w j)))) arity
