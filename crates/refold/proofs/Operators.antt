-- The operators that room is counted for are the operators that are tried: both ways, computed from the two lists. Assumes nothing.
use Prim.Native.Nat.{ℕ}
use mathlib.Core.Path.{◌≡◌, refl, sym, ◌∙◌}
use mathlib.Core.Bool.{Bool, true, false, ◌||◌, false≢true}
use mathlib.Core.List.{List, [], ◌∷◌}
use Rattle.laws.proofs.Branch.{or_assoc}
use Rattle.laws.specs.Page.{among}
use Rattle.laws.proofs.Keys.{every}
use Rattle.ops.specs.Op.{Add, Sub, Mul, Div, Mod, FloorDiv, Eq, NotEq, Lt, Gt, LtEq, GtEq, BitAnd, BitOr, BitXor, Shl, Shr, Not, Minus}
use Rattle.chunk.specs.Chunk.{folds}
use Rattle.fold.specs.Plan.{operator_page, kind_of}
use Rattle.fold.specs.declared.Kind.{Kind}
use Rattle.fold.specs.declared.Kind.TheVariants as kind
use Rattle.fold.proofs.Planned.{named_folds}
use Rattle.refold.specs.Left.{tried}

-- the nineteen
abbrev operators : List ℕ
operators =
    Add ∷ Sub ∷ Mul ∷ Div ∷ Mod ∷ FloorDiv ∷ Eq ∷ NotEq ∷ Lt ∷ Gt ∷ LtEq ∷ GtEq ∷ BitAnd ∷ BitOr ∷ BitXor ∷ Shl ∷ Shr ∷ Not ∷ Minus ∷ []

or_none : (b : Bool) → b || false ≡ b
or_none true = refl
or_none false = refl

folds_among : (o : ℕ) → among o operators ≡ folds o
unfolding folds
folds_among o = simp (or_assoc, or_none)

folds_tried : (o : ℕ) → folds o ≡ true → tried (kind_of o) ≡ true
unfolding operator_page kind_of
folds_tried o e = every (λ p. tried (kind_of p)) operators o refl (folds_among o ∙ e)

-- what is tried is counted, and what is counted is tried
pub operators_same : (o : ℕ) → folds o ≡ tried (kind_of o)
operators_same o = go (folds o) refl (tried (kind_of o)) refl
  where
    other : (k : Kind) → kind_of o ≡ k → tried k ≡ true → kind_of o ≡ kind.Other → ⊥
    other k e t z = false≢true (sym (by k (sym e ∙ z)) ∙ t)
      where
        by : (k : Kind) → k ≡ kind.Other → tried k ≡ false
        by k e = rw e

    go : (a : Bool) → folds o ≡ a → (b : Bool) → tried (kind_of o) ≡ b → folds o ≡ tried (kind_of o)
    go true e b f = e ∙ sym (folds_tried o e)
    go false e false f = e ∙ sym f
    go false e true f = absurd (false≢true (sym e ∙ named_folds o (other (kind_of o) refl f)))
