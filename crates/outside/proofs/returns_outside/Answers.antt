-- `outside::returns_outside` meets its contract. Assumes nothing.
use borrow.Author.Rules.{rules}
use mathlib.Core.Path.{◌≡◌, refl}
use mathlib.Core.Bool.{Bool, true, false, not, ◌&&◌, ◌||◌}
use mathlib.Core.List.{List}
use Prim.Native.Nat.{ℕ, ◌+◌, ◌<◌, ◌≤◌}
use native.Mathlib.Omega.{arith}
use native.Mathlib.Numerals.{add-one}
use lib.Dec.{eqb}
use mir.Val.{bool_byte}
use Rattle.laws.specs.All.{every, many}
use Rattle.laws.proofs.Byte.{byte_small}
use Rattle.laws.proofs.Every.{one_more, one_fails, all}
use Rattle.code.specs.Ins.{ins_at}
use Rattle.code.specs.declared.Ins.{Ins}
use Rattle.sections.specs.Returns.{returns_at}
use Rattle.sections.specs.There.{there}
use Rattle.outside.specs.Outside.{opens, closes, returns_from, outside_at, returns_outside}
use Rattle.outside.proofs.returns_outside.Goals as goal

counted : (c k v : ℕ) (b : Bool) → v ≡ bool_byte b → c ≤ k → c + v ≤ k + 1
counted c k v b e h = omega (arith, byte_small b)

module _ (f : Ins → Bool) (w : List ℕ) where
  none_counted : 0 ≡ many (there f w) 0
  unfolding many
  none_counted = refl

  one_counted : (k v : ℕ) (i : Ins) (b : Bool) (c : ℕ) → i ≡ ins_at w k → b ≡ f i → v ≡ bool_byte b → c ≡ many (there f w) k → c + v ≡ many (there f w) (k + 1)
  unfolding many there
  one_counted k v i b c e g q h = rw (add-one, q, h, g, e)

module _ (w : List ℕ) (k o c : ℕ) (i : Ins) (l p : Bool) (e : i ≡ ins_at w k) (f : l ≡ returns_from i) (g : p ≡ returns_at w k) (h : o ≡ many (there opens w) k)
    (m : c ≡ many (there closes w) k) where
  at_k : not (not (eqb o c) && (l || p)) ≡ outside_at w k
  unfolding outside_at
  at_k = rw (f, g, h, m, e)

  stays : not (eqb o c) && (l || p) ≡ false → every (outside_at w) k ≡ true → every (outside_at w) (k + 1) ≡ true
  stays t x = one_more (outside_at w) k k (not (not (eqb o c) && (l || p))) at_k (rw t refl) x

  leaves_inside : (n : ℕ) → not (eqb o c) && (l || p) ≡ true → k < n → false ≡ every (outside_at w) n
  leaves_inside n t h = one_fails (outside_at w) k n (not (not (eqb o c) && (l || p))) at_k (rw t refl) h

pub returns-then-opened-closed : goal.returns-then-opened-closed
unfolding returns_outside
returns-then-opened-closed c = search leaves_inside

pub returns : goal.returns
unfolding returns_outside
returns c = search (rules, all)

pub loop-k-init : goal.loop-k-init
loop-k-init c = search (rules, none_counted, all)

pub loop-k-preserved : goal.loop-k-preserved
loop-k-preserved c = search (rules, counted, one_counted, stays)
