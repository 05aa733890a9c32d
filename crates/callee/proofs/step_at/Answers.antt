-- `callee::step_at` meets its contract. Assumes nothing.
use borrow.Author.Rules.{rules}
use mathlib.Core.Path.{◌≡◌}
use mathlib.Core.List.{List}
use Prim.Native.Nat.{ℕ, ◌<◌, ◌≤◌}
use native.Mathlib.Omega.{arith}
use Rattle.code.specs.Ins.{count}
use Rattle.code.specs.Inner.{Valid}
use Rattle.std.specs.declared.option.Option.TheVariants.{Some}
use Rattle.pushes.specs.Pushes.{Place, pushed_back}
use Rattle.pushes.proofs.Falling.{pushed_falls}
use Rattle.callee.proofs.step_at.Goals as goal

fits : (w : List ℕ) (d a p : ℕ) → Valid w → d < count w → ◌≡◌ {A = Place} (Some p) (pushed_back w d a) → p < 65536
fits w d a p k l g = let few : count w ≤ 65535 = k.few in omega (arith, pushed_falls w d a p g)

pub overflow_cast-result : goal.overflow_cast-result
overflow_cast-result c = search (rules, fits)
