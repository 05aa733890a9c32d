-- `phi_paths::follow` meets its contract. Assumes nothing.
use mathlib.Core.Path.{◌≡◌}
use mathlib.Core.Bool.{Bool}
use mathlib.Core.List.{List}
use Prim.Native.Nat.{ℕ, ◌+◌}
use mir.Val.{bool_byte}
use Rattle.paths.specs.Inner.{pushed}
use Rattle.phi_paths.proofs.follow.Goals as goal

-- the jump's test is what it says
module _ (t j : Bool) (e : t ≡ j) where
  height : (h top : ℕ) → h ≡ top + bool_byte t → h ≡ top + bool_byte j
  height h top p = rw e at p

  stack : (todo' todo : List ℕ) (top a v : ℕ) → v ≡ a → todo' ≡ pushed todo top v t → todo' ≡ pushed todo top a j
  stack todo' todo top a v q p = rw (e, q) at p

pub returns : goal.returns
returns c = (search height, search stack)
