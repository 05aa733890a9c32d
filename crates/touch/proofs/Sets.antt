-- What stands in the registers of an instruction, as one test. Assumes nothing.
use mathlib.Core.Path.{◌≡◌, refl, sym, ◌∙◌}
use mathlib.Core.Bool.{Bool, true, false, ◌&&◌, ◌||◌}
use Prim.Native.Nat.{ℕ, zero, suc, ◌+◌, ◌<◌}
use native.Mathlib.Decide.{ℕ_discrete, dec_lt}
use native.Mathlib.Omega.{arith}
use lib.Dec.{eqb, leb, ltb}
use borrow.Author.Tests.{eq-eqb, ne_eqb, lt-ltb, le-ltb, lt-leb, le-leb}
use Rattle.laws.specs.Page.{among}
use Rattle.roles.specs.Sets.{only, from}

or_no : (b : Bool) → b || false ≡ b
or_no true = refl
or_no false = refl

pub among_only : (t : Bool) (r a : ℕ) → t && eqb r a ≡ among r (only t a)
among_only true r a = sym (or_no (eqb r a))
among_only false r a = refl

-- r is at b or past it, and below b + m
within : ℕ → ℕ → ℕ → Bool
within r b m = leb b r && ltb r (b + m)

below : (r b m : ℕ) → r < b → within r b m ≡ false
unfolding within
below r b m h = rw (lt-leb b r h)

within_next : (r b m : ℕ) → Dec (b < r) → (r ≡ b → ⊥) → within r b (suc m) ≡ within r (suc b) m
unfolding within
within_next r b m (yes h) e =
    let q : b + suc m ≡ suc b + m = omega arith in
    rw (le-leb b r (omega arith), le-leb (suc b) r h, q)
within_next r b m (no h) e = rw (lt-leb b r (omega arith), lt-leb (suc b) r (omega arith))

pub among_from : (r b m : ℕ) → leb b r && ltb r (b + m) ≡ among r (from b m)
unfolding within
among_from r b zero = none (dec_lt r b)
  where
    none : Dec (r < b) → within r b 0 ≡ false
    none (yes h) = below r b 0 h
    none (no h) = rw (le-leb b r (omega arith), le-ltb r (b + 0) (omega arith))
among_from r b (suc m) = go (ℕ_discrete r b) (among_from r (suc b) m)
  where
    go : Dec (r ≡ b) → within r (suc b) m ≡ among r (from (suc b) m) → within r b (suc m) ≡ eqb r b || among r (from (suc b) m)
    go (yes e) h = rw (eq-eqb r b e, le-leb b r (omega arith), lt-ltb r (b + suc m) (omega arith))
    go (no e) h = rw (ne_eqb r b e) (within_next r b m (dec_lt b r) e ∙ h)
