-- What only the inside of `values` needs: contracts of inner functions and proofs cite it, no promise does. Assumes nothing.
use Rattle.values.specs.declared.Val.{Val}
use Rattle.values.specs.declared.Val.TheVariants.{Int, Float as Real, Bool as Truth}
use Rattle.values.specs.Folds.{SmallInt}

-- an operand's int is
abbrev pub SoundInt : Val → Type 0
SoundInt (Int z) = SmallInt z
SoundInt (Real x) = Unit {0}
SoundInt (Truth b) = Unit {0}
