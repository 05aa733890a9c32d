-- Tests of positions, and how many pass one. Assumes nothing.
use mathlib.Core.Path.{◌≡◌, refl, sym, ap, ap₂, ◌∙◌}
use mathlib.Core.Logic.{⊎_elim}
use mathlib.Core.List.Memᴰ
use mathlib.Core.List.{List, [], ◌∷◌, Memᴰ}
use mathlib.Core.Bool.{Bool, true, false, cond, ◌||◌, true≢false}
use Prim.Native.Nat.{ℕ, zero, suc, ◌+◌, ◌-◌, ◌≤◌, ◌<◌, zero-le}
use native.Mathlib.Nat.{le_refl}
use native.Mathlib.Decide.{ℕ_discrete}
use native.Mathlib.Omega.{arith}
use borrow.Author.Tests.{ltb-false, le-ltb}
use lib.Dec.{ltb}
use Rattle.laws.proofs.Branch.{or_false}
use Rattle.flow.specs.Flow.{Flow, reach}
use Rattle.flow.specs.Sweep.{below, tally, strays}

-- ---- positions below a bound

pub below_none : (b : ℕ) (ss : List ℕ) → below b ss ≡ false → (s : ℕ) → Memᴰ s ss → b ≤ s
unfolding below
below_none b [] e s m = absurd (Memᴰ.not-nil m)
below_none b (t ∷ ss) e s m =
    let h = or_false (ltb t b) (below b ss) e in
    ⊎_elim (λ es. omega (arith, ltb-false t b h.0)) (λ m'. below_none b ss h.1 s m') (Memᴰ.cases_cons m)

pub below_some : (b : ℕ) (ss : List ℕ) (s : ℕ) → Memᴰ s ss → s < b → below b ss ≡ true
below_some b ss s m l = go (below b ss) refl
  where
    go : (t : Bool) → below b ss ≡ t → below b ss ≡ true
    go true e = e
    go false e = absurd (omega (arith, below_none b ss e s m))

pub below_zero : (ss : List ℕ) → below 0 ss ≡ false
unfolding below
below_zero [] = refl
below_zero (s ∷ ss) = ap₂ ◌||◌ (le-ltb s 0 zero-le) (below_zero ss)

-- ---- tallies: of none, of some, of all; of a test that another implies

off : (t : Bool) → ◌≡◌ {A = ℕ} (cond t 1 0) 0 → t ≡ false
off true e = absurd (omega arith)
off false e = refl

one : {s t : Bool} → s ≡ t → ◌≡◌ {A = ℕ} (cond s 1 0) (cond t 1 0)
one e = ap (λ (t : Bool). cond t 1 0) e

one_le : (t : Bool) → ◌≤◌ (cond t 1 0) 1
one_le true = le_refl 1
one_le false = zero-le

one_mono : (s t : Bool) → (s ≡ true → t ≡ true) → ◌≤◌ (cond s 1 0) (cond t 1 0)
one_mono true t h = omega (arith, one (h refl))
one_mono false t h = zero-le

module _ (p : ℕ → Bool) (start : ℕ) where
  pub tally_none : (d : ℕ) → tally p start d ≡ 0 → (k : ℕ) → start ≤ k → k < start + d → p k ≡ false
  unfolding tally
  tally_none zero e k lo hi = absurd (omega arith)
  tally_none (suc d) e k lo hi = go (ℕ_discrete k (start + d)) (λ ne. tally_none d (omega arith) k lo (omega arith))
    where
      go : Dec (k ≡ start + d) → ((k ≡ start + d → ⊥) → p k ≡ false) → p k ≡ false
      go (yes ek) rec = ap p ek ∙ off (p (start + d)) (omega arith)
      go (no ne) rec = rec ne

  pub tally_zero : (d : ℕ) → ((k : ℕ) → start ≤ k → k < start + d → p k ≡ false) → tally p start d ≡ 0
  unfolding tally
  tally_zero zero h = refl
  tally_zero (suc d) h = omega (arith, one (h (start + d) (omega arith) (omega arith)), tally_zero d (λ k lo hi. h k lo (omega arith)))

  pub tally_some : (d k : ℕ) → start ≤ k → k < start + d → p k ≡ true → 0 < tally p start d
  tally_some d k lo hi e = go (ℕ_discrete (tally p start d) 0)
    where
      go : Dec (tally p start d ≡ 0) → 0 < tally p start d
      go (yes z) = absurd (true≢false (sym e ∙ tally_none d z k lo hi))
      go (no n) = omega arith

  pub tally_le : (d : ℕ) → tally p start d ≤ d
  unfolding tally
  tally_le zero = le_refl 0
  tally_le (suc d) = omega (arith, tally_le d, one_le (p (start + d)))

module _ (p q : ℕ → Bool) (start : ℕ) (imp : (k : ℕ) → p k ≡ true → q k ≡ true) where
  pub tally_mono : (d : ℕ) → tally p start d ≤ tally q start d
  unfolding tally
  tally_mono zero = le_refl 0
  tally_mono (suc d) = omega (arith, tally_mono d, one_mono (p (start + d)) (q (start + d)) (imp (start + d)))

  pub tally_more : (d k : ℕ) → start ≤ k → k < start + d → p k ≡ false → q k ≡ true → tally p start d < tally q start d
  unfolding tally
  tally_more zero k lo hi np nq = absurd (omega arith)
  tally_more (suc d) k lo hi np nq = go (ℕ_discrete k (start + d)) (λ ne. tally_more d k lo (omega arith) np nq)
    where
      go : Dec (k ≡ start + d) → ((k ≡ start + d → ⊥) → tally p start d < tally q start d) → tally p start (suc d) < tally q start (suc d)
      go (yes e) rec = omega (arith, tally_mono d, one (ap p (sym e) ∙ np), one (ap q (sym e) ∙ nq))
      go (no ne) rec = omega (arith, rec ne, one_mono (p (start + d)) (q (start + d)) (imp (start + d)))

-- no jump goes before 0
pub strays_zero : (f : Flow) → strays f 0 ≡ 0
strays_zero f = tally_zero (λ k. below 0 (reach f k)) 0 (f.size - 0) (λ k lo hi. below_zero (reach f k))
