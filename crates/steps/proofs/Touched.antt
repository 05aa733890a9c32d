-- What is touched at a position: nothing where a pending value is pushed or restored, else what the instruction touches by itself. Assumes nothing.
use mathlib.Core.Path.{◌≡◌}
use mathlib.Core.Bool.{Bool, true, false}
use mathlib.Core.List.{List}
use Prim.Native.Nat.{ℕ}
use Rattle.code.specs.Ins.{ins_at}
use Rattle.code.specs.declared.Ins.{Ins}
use Rattle.touch.specs.Touch.{touch, touch_of}
use Rattle.touch.specs.Inner.{Touches}
use Rattle.touch.specs.declared.Touch.{Touch}
use Rattle.touch.proofs.Cases.{touches}
use Rattle.steps.specs.Code.{idle, used_at, given_at}
use Rattle.steps.specs.Inner.{TouchesAt}

module _ (w : List ℕ) (k : ℕ) (t : Bool) (e : t ≡ idle w k) where
  pub at_idle : t ≡ true → TouchesAt w k (touch 0 0 0 0)
  unfolding used_at given_at
  at_idle h = record { used = rw (← e, h); given = rw (← e, h) }

  pub at_work : (i : Ins) (f : Touch) → t ≡ false → i ≡ ins_at w k → Touches i f → TouchesAt w k f
  unfolding used_at given_at
  at_work i f h q z =
      let y : Touches (ins_at w k) f = rw (← q) z in
      record { used = rw (← e, h) y.used; given = rw (← e, h) y.given }

  pub as_touched : (i : Ins) (f : Touch) → t ≡ false → i ≡ ins_at w k → f ≡ touch_of i → TouchesAt w k f
  as_touched i f h q z = at_work i f h q (rw z (touches i))
