-- `params::any_writes` meets its contract. Assumes nothing.
use borrow.Author.Rules.{rules}
use mathlib.Core.Path.{◌≡◌, ◌∙◌}
use mathlib.Core.Bool.{Bool}
use mathlib.Core.List.{List}
use Prim.Native.Nat.{ℕ}
use Rattle.laws.proofs.Some.{somewhere}
use Rattle.code.specs.Ins.{ins_at}
use Rattle.code.specs.declared.Ins.{Ins}
use Rattle.roles.specs.Sets.{writes}
use Rattle.params.specs.Masks.{writes_at, written_in}
use Rattle.params.proofs.any_writes.Goals as goal

at_k : (w : List ℕ) (r k : ℕ) (i : Ins) (b : Bool) → i ≡ ins_at w k → b ≡ writes i r → b ≡ writes_at w r k
unfolding writes_at
at_k w r k i b e f = f ∙ rw e

pub returns-then-writes_in : goal.returns-then-writes_in
unfolding written_in
returns-then-writes_in c = search (rules, somewhere, at_k)
