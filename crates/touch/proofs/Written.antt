-- A register among the fields that a mask names, and in a run. Assumes nothing.
use mathlib.Core.Path.{◌≡◌, refl, ap, ap₂, ◌∙◌}
use mathlib.Core.Bool.{Bool, true, false, ◌&&◌, ◌||◌}
use mathlib.Core.List.{List, [], ◌∷◌, ◌++◌}
use Prim.Native.Nat.{ℕ}
use lib.Dec.{eqb}
use Rattle.laws.specs.Page.{among}
use Rattle.roles.specs.Sets.{only, from, writes}
use Rattle.roles.specs.Kinds.{a, b, c, has}
use Rattle.touch.proofs.Sets.{among_only}
use Rattle.touch.proofs.Cases.{touches}
use Rattle.code.specs.declared.Ins.{Ins}
use Rattle.touch.specs.Touch.{named, touch_of, written_by}
use Rattle.touch.specs.declared.Touch.{Touch}

or_assoc : (p q s : Bool) → p || q || s ≡ p || (q || s)
or_assoc true q s = refl
or_assoc false q s = refl

pub among_append : (r : ℕ) (l m : List ℕ) → among r l || among r m ≡ among r (l ++ m)
among_append r [] m = refl
among_append r (x ∷ l) m = or_assoc (eqb r x) (among r l) (among r m) ∙ ap (λ (t : Bool). eqb r x || t) (among_append r l m)

pub among_named : (m r x y z : ℕ) → has a m && eqb r x || has b m && eqb r y || has c m && eqb r z ≡ among r (named m x y z)
among_named m r x y z =
    ap₂ (λ (p q : Bool). p || q)
    (ap₂ (λ (p q : Bool). p || q) (among_only (has a m) r x) (among_only (has b m) r y) ∙ among_append r (only (has a m) x) (only (has b m) y))
    (among_only (has c m) r z)
    ∙ among_append r (only (has a m) x ++ only (has b m) y) (only (has c m) z)

-- the test of `writes_of`: a field that the mask names, or one of the run
pub written_is : (i : Ins) (r : ℕ) (t : Touch) (x y : Bool) → t ≡ touch_of i → x ≡ among r (named t.written i.a i.b i.c) → y ≡ among r (from i.b t.run)
    → x || y ≡ writes i r
unfolding writes written_by
written_is i r t x y h e f =
    ap₂ (λ (p q : Bool). p || q) e f ∙ among_append r (named t.written i.a i.b i.c) (from i.b t.run)
    ∙ ap (λ (z : Touch). among r (named z.written i.a i.b i.c ++ from i.b z.run)) h ∙ ap (among r) (touches i).written
