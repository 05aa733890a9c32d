-- `laid::stack_work` meets its contract: its arms are the even and the odd opcodes of the list. Assumes nothing.
use mathlib.Core.Path.{◌≡◌, refl, ◌∙◌}
use mathlib.Core.Bool.{Bool, true, false, cond, ◌||◌}
use mathlib.Core.List.{List, [], ◌∷◌}
use Prim.Native.Nat.{ℕ, ◌%◌}
use types.Run.{OneOf}
use lib.Dec.{eqb}
use Rattle.laws.specs.Page.{Row, ◌↝◌, among, look}
use Rattle.laws.proofs.Keys.{sorted, row, apart, named, unnamed, Rest}
use Rattle.laid.specs.Section.{stack_ops, stack_work}
use Rattle.laid.proofs.stack_work.Goals as goal

-- the even ones of a list, or the others
abbrev part : Bool → List ℕ → List ℕ
part even [] = []
part true (k ∷ ks) = cond (eqb (k % 2) 0) (k ∷ part true ks) (part true ks)
part false (k ∷ ks) = cond (eqb (k % 2) 0) (part false ks) (k ∷ part false ks)

abbrev arms : List (Row Bool)
arms = (part true stack_ops ↝ true) ∷ (part false stack_ops ↝ true) ∷ []

first : (p q r s : Bool) → cond p true (cond q true false) ≡ s → cond (r || p) true (cond q true false) ≡ r || s
first p q true s h = refl
first p q false s h = h

second : (p q r s : Bool) → cond p true (cond q true false) ≡ s → cond p true (cond (r || q) true false) ≡ r || s
second true q true s h = refl
second false q true s h = refl
second p q false s h = h

split : (o : ℕ) (ks : List ℕ) → look false o ((part true ks ↝ true) ∷ (part false ks ↝ true) ∷ []) ≡ among o ks
split o [] = refl
split o (k ∷ ks) = by (eqb (k % 2) 0) (split o ks)
  where
    by : (b : Bool) → look false o ((part true ks ↝ true) ∷ (part false ks ↝ true) ∷ []) ≡ among o ks
        → look false o ((cond b (k ∷ part true ks) (part true ks) ↝ true) ∷ (cond b (part false ks) (k ∷ part false ks) ↝ true) ∷ []) ≡ eqb o k || among o ks
    by true h = first (among o (part true ks)) (among o (part false ks)) (eqb o k) (among o ks) h
    by false h = second (among o (part true ks)) (among o (part false ks)) (eqb o k) (among o ks) h

arms_apart : apart false arms ≡ true
unfolding stack_ops
arms_apart = refl

whole : (o : ℕ) → look false o arms ≡ stack_work o
unfolding stack_work
whole o = split o stack_ops

arm : (j o : ℕ) → OneOf (sorted (row false arms j).ops) o → (row false arms j).rule ≡ stack_work o
arm j o h = named false arms arms_apart j o h ∙ whole o

rest : (o : ℕ) → Rest false o (Unit {0}) arms → false ≡ stack_work o
rest o h = unnamed false arms o h ∙ whole o

pub returns-in-6 : goal.returns-in-6
unfolding stack_ops
returns-in-6 c = arm 0 _ c.in-6.is

pub returns-in-1 : goal.returns-in-1
unfolding stack_ops
returns-in-1 c = arm 1 _ c.in-1.is

pub returns-in_default : goal.returns-in_default
unfolding stack_ops
returns-in_default c = rest _ c.in_default.in_default-own.rest
