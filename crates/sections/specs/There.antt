-- What is tested of the instruction at k. Assumes nothing.
use Rattle.std.specs.Prelude.{ℕ, Bool, List}
use Rattle.code.specs.Ins.{ins_at}
use Rattle.code.specs.declared.Ins.{Ins}

-- the instruction at k passes f
unfoldable pub there : (Ins → Bool) → List ℕ → ℕ → Bool
there f w k = f (ins_at w k)
