-- A loop's test of the instruction at k. Assumes nothing.
use mathlib.Core.Path.{◌≡◌, ◌∙◌}
use mathlib.Core.Bool.{Bool}
use mathlib.Core.List.{List}
use Prim.Native.Nat.{ℕ}
use Rattle.code.specs.Ins.{ins_at}
use Rattle.code.specs.declared.Ins.{Ins}
use Rattle.sections.specs.There.{there}

pub tested_there : (f : Ins → Bool) (w : List ℕ) (k : ℕ) (i : Ins) (b : Bool) → i ≡ ins_at w k → b ≡ f i → b ≡ there f w k
unfolding there
tested_there f w k i b e g = g ∙ rw e
