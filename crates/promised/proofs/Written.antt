-- The test of `writes` by the bits of a mask: a field that the mask names, or one of the run. Assumes nothing.
use mathlib.Core.Path.{◌≡◌, ◌∙◌}
use mathlib.Core.Bool.{Bool, ◌&&◌, ◌||◌}
use Prim.Native.Nat.{ℕ, ◌+◌}
use lib.Dec.{eqb, leb, ltb}
use Rattle.roles.specs.Sets.{writes}
use Rattle.roles.specs.Kinds.{a, b, c, has}
use Rattle.code.specs.declared.Ins.{Ins}
use Rattle.touch.specs.Touch.{touch_of}
use Rattle.touch.specs.declared.Touch.{Touch}
use Rattle.touch.proofs.Sets.{among_from}
use Rattle.touch.proofs.Written as touch
use Rattle.touch.proofs.Written.{among_named}

pub written_is : (i : Ins) (r : ℕ) (t : Touch) → t ≡ touch_of i → (x : Bool)
    → x ≡ has a t.written && eqb r i.a || has b t.written && eqb r i.b || has c t.written && eqb r i.c
    → x || leb i.b r && ltb r (i.b + t.run) ≡ writes i r
written_is i r t h x e =
    touch.written_is i r t x (leb i.b r && ltb r (i.b + t.run)) h (e ∙ among_named t.written r i.a i.b i.c) (among_from r i.b t.run)
