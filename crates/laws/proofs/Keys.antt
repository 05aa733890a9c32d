-- A `match` on an opcode whose arms are the rows of a page, in their order: `named` at an arm, `unnamed` at `_`.
-- An arm's keys are sorted; two that are neighbours would become a range and no keys. Assumes nothing.
use mathlib.Core.Path.{◌≡◌, refl, sym, ◌∙◌}
use mathlib.Core.Logic.{inl, inr}
use mathlib.Core.Bool.{Bool, true, false, not, cond, ◌||◌, ◌&&◌, false≢true}
use mathlib.Core.List.{List, [], ◌∷◌}
use Prim.Native.Nat.{ℕ, zero, suc}
use lib.Dec.{eqb, leb}
use lib.ListN.{get_or}
use borrow.Author.Tests.{eq-eqb, ne_eqb, eqb-true, not-true}
use types.Run.{OneOf}
use Rattle.laws.specs.Page.{among, Row, look}
use Rattle.laws.proofs.Branch.{and-true}

or_true : (b : Bool) → b || true ≡ true
or_true true = refl
or_true false = refl

or_swap : (a b c : Bool) → a || (b || c) ≡ b || (a || c)
or_swap true true c = refl
or_swap true false c = refl
or_swap false true c = refl
or_swap false false c = refl

-- a key is among the keys, and what is no key is not
one_among : (ks : List ℕ) (o : ℕ) → OneOf ks o → among o ks ≡ true
one_among [] o e = absurd e
one_among (k ∷ []) o e = rw (eq-eqb o k e)
one_among (k ∷ (l ∷ ks)) o (inl e) = rw (eq-eqb o k e)
one_among (k ∷ (l ∷ ks)) o (inr e) = rw (one_among (l ∷ ks) o e) (or_true (eqb o k))

none_among : (ks : List ℕ) (o : ℕ) → (OneOf ks o → ⊥) → among o ks ≡ false
none_among [] o n = refl
none_among (k ∷ []) o n = rw (ne_eqb o k n)
none_among (k ∷ (l ∷ ks)) o n = rw (ne_eqb o k (λ e. n (inl e))) (none_among (l ∷ ks) o (λ e. n (inr e)))

-- sorting
abbrev insert : ℕ → List ℕ → List ℕ
insert k [] = k ∷ []
insert k (l ∷ ls) = cond (leb k l) (k ∷ (l ∷ ls)) (l ∷ insert k ls)

abbrev pub sorted : List ℕ → List ℕ
sorted [] = []
sorted (k ∷ ks) = insert k (sorted ks)

insert_cases : (o k l : ℕ) (ls : List ℕ) (b : Bool) → among o (insert k ls) ≡ eqb o k || among o ls
    → among o (cond b (k ∷ (l ∷ ls)) (l ∷ insert k ls)) ≡ eqb o k || (eqb o l || among o ls)
insert_cases o k l ls true h = refl
insert_cases o k l ls false h = rw h (or_swap (eqb o l) (eqb o k) (among o ls))

insert_among : (o k : ℕ) (ls : List ℕ) → among o (insert k ls) ≡ eqb o k || among o ls
insert_among o k [] = refl
insert_among o k (l ∷ ls) = insert_cases o k l ls (leb k l) (insert_among o k ls)

sorted_among : (o : ℕ) (ks : List ℕ) → among o (sorted ks) ≡ among o ks
sorted_among o [] = refl
sorted_among o (k ∷ ks) = rw (insert_among o k (sorted ks), sorted_among o ks)

-- what is tested of each key holds of one of them
abbrev pub all_of : (ℕ → Bool) → List ℕ → Bool
all_of f [] = true
all_of f (k ∷ ks) = f k && all_of f ks

every_cases : (f : ℕ → Bool) (k o : ℕ) (b c : Bool) → eqb o k ≡ b → f k ≡ true → b || c ≡ true → (c ≡ true → f o ≡ true) → f o ≡ true
every_cases f k o true c e t h g = rw (eqb-true o k e) t
every_cases f k o false c e t h g = g h

pub every : (f : ℕ → Bool) (ks : List ℕ) (o : ℕ) → all_of f ks ≡ true → among o ks ≡ true → f o ≡ true
every f [] o t e = absurd (false≢true e)
every f (k ∷ ks) o t e =
    let p = and-true (f k) (all_of f ks) t in
    every_cases f k o (eqb o k) (among o ks) refl p.0 e (every f ks o p.1)

module _ {R : Type 0} (d : R) where
  abbrev pub row : List (Row R) → ℕ → Row R
  row rs j = get_or rs j (record { ops = []; rule = d })

  -- no opcode stands in two rows
  abbrev pub clear : List ℕ → List (Row R) → Bool
  clear os [] = true
  clear os (s ∷ ss) = all_of (λ k. not (among k os)) s.ops && clear os ss

  abbrev pub apart : List (Row R) → Bool
  apart [] = true
  apart (r ∷ rs) = clear r.ops rs && apart rs

  later : (os : List ℕ) (rs : List (Row R)) (j o : ℕ) → clear os rs ≡ true → among o (row rs j).ops ≡ true → among o os ≡ false
  later os [] j o t e = absurd (false≢true e)
  later os (s ∷ ss) zero o t e =
      not-true _ (every (λ k. not (among k os)) s.ops o (and-true _ (clear os ss) t).0 e)
  later os (s ∷ ss) (suc j) o t e = later os ss j o (and-true (all_of (λ k. not (among k os)) s.ops) _ t).1 e

  found : (rs : List (Row R)) (j o : ℕ) → apart rs ≡ true → among o (row rs j).ops ≡ true → (row rs j).rule ≡ look d o rs
  found [] j o t e = absurd (false≢true e)
  found (r ∷ rs) zero o t e = rw e
  found (r ∷ rs) (suc j) o t e =
      let p = and-true (clear r.ops rs) (apart rs) t in
      rw (later r.ops rs j o p.0 e) (found rs j o p.1 e)

  pub named : (rs : List (Row R)) → apart rs ≡ true → (j o : ℕ) → OneOf (sorted (row rs j).ops) o → (row rs j).rule ≡ look d o rs
  named rs t j o e = found rs j o t (sym (sorted_among o (row rs j).ops) ∙ one_among (sorted (row rs j).ops) o e)

  -- what the last arm knows: o is a key of no row
  abbrev pub Rest : ℕ → Type 0 → List (Row R) → Type 0
  Rest o N [] = N
  Rest o N (r ∷ rs) = Rest o (N × (OneOf (sorted r.ops) o → ⊥)) rs

  out : (rs : List (Row R)) (o : ℕ) (N : Type 0) → Rest o N rs → N × (d ≡ look d o rs)
  out [] o N h = (h, refl)
  out (r ∷ rs) o N h =
      let q = out rs o (N × (OneOf (sorted r.ops) o → ⊥)) h in
      (q.0.0, rw (sym (sorted_among o r.ops) ∙ none_among (sorted r.ops) o q.0.1) q.1)

  pub unnamed : (rs : List (Row R)) (o : ℕ) → Rest o (Unit {0}) rs → d ≡ look d o rs
  unnamed rs o h = (out rs o (Unit {0}) h).1
