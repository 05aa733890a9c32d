-- `params_written` of block.rs: parameters, a bit each. Assumes nothing.
use Rattle.std.specs.Prelude.{ℕ, min, Bool, List}
use Rattle.laws.specs.Some.{some}
use Rattle.laws.specs.Mask.{mask}
use Rattle.code.specs.Ins.{ins_at, count}
use Rattle.roles.specs.Sets.{writes}

-- the instruction at k writes r
unfoldable pub writes_at : List ℕ → ℕ → ℕ → Bool
writes_at w r k = writes (ins_at w k) r

-- some instruction writes r
unfoldable pub written_in : List ℕ → ℕ → Bool
written_in w r = some (writes_at w r) (count w)

-- `params_written`: bit r, for r below min(arity, 64), is set where some instruction writes r
unfoldable pub params_written : List ℕ → ℕ → ℕ
params_written w arity = mask (written_in w) (min arity 64)
