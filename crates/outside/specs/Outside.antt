-- What `gen_pure` of block.rs asks beside: that no function is made, and that each return lies outside. Assumes nothing.
use Rattle.std.specs.Prelude.{ℕ, Bool, not, ◌&&◌, ◌||◌, List, eqb}
use Rattle.laws.specs.All.{every, many}
use Rattle.laws.specs.Some.{some}
use Rattle.ops.specs.Op.{MakeFunction, MakeCoroutine, SetupExcept, SetupFinally, PopExcept, WithExit, ReturnR, ReturnValue}
use Rattle.code.specs.Ins.{ins_at, count}
use Rattle.code.specs.declared.Ins.{Ins}
use Rattle.sections.specs.Returns.{returns_at}
use Rattle.sections.specs.There.{there}

-- i makes a function
unfoldable pub makes : Ins → Bool
makes i = eqb i.op MakeFunction || eqb i.op MakeCoroutine

-- some instruction makes one
unfoldable pub made : List ℕ → Bool
made w = some (there makes w) (count w)

-- i opens a `try` or a `with`
unfoldable pub opens : Ins → Bool
opens i = eqb i.op SetupExcept || eqb i.op SetupFinally

-- i closes one; a `with` that its body falls out of closes as it exits
unfoldable pub closes : Ins → Bool
closes i = eqb i.op PopExcept || eqb i.op WithExit && eqb i.x 2

-- i returns
unfoldable pub returns_from : Ins → Bool
returns_from i = eqb i.op ReturnR || eqb i.op ReturnValue

-- a return at k has as many closed as opened before it: more closed than opened is inside, too
unfoldable pub outside_at : List ℕ → ℕ → Bool
outside_at w k = not (not (eqb (many (there opens w) k) (many (there closes w) k)) && (returns_from (ins_at w k) || returns_at w k))

-- `returns_outside`: every return lies outside the `try`s and `with`s, read in the order they are laid
unfoldable pub returns_outside : List ℕ → Bool
returns_outside w = every (outside_at w) (count w)
