-- Demand 3 for every level that goes on at or past the start, and what is lost with any register of its list. Assumes nothing.
use mathlib.Core.Path.{◌≡◌, sym, ap, ◌∙◌}
use mathlib.Core.Logic.{⊎_elim, inl, inr, ◌≢◌}
use mathlib.Core.List.{List}
use Prim.Native.Nat.{ℕ, ◌≤◌, ◌<◌}
use native.Mathlib.Decide.{dec_lt}
use native.Mathlib.Omega.{arith}
use lib.ListN.{length, get_or, set, replicate, length-set, length-replicate, get_or-replicate}
use lib.Seq.{get_or-set_same, get_or-set_other}
use Rattle.flow.specs.Set.{bit}
use Rattle.flow.specs.Flow.{Flow, Least, Closed}
use Rattle.flow.specs.Kept.{Level, kept}
use Rattle.flow.specs.Demand.{Agree, AgreeOn, TellsApart, Entry, Keeps, Lost}
use Rattle.flow.proofs.Rows.{In}
use Rattle.flow.proofs.Agree.{alike}
use Rattle.flow.proofs.Needed.{needed}
use Rattle.flow.proofs.Kept.{kept_resume, kept_handler, kept_only}

module _ (f : Flow) (start : ℕ) (closed : Closed f start) (R : ℕ → ℕ) (least : Least f start R) (v : Level) (resumes : start ≤ v.resume)
    (handles : (h : ℕ) → In h v.handlers → start ≤ h) where
  -- demand 3
  pub keeps : Keeps f (kept f.regs R v) v
  keeps = record {
    below = λ r m. (kept_only f.regs R v r m).2;
    resumed = λ a b e e' choices news. alike f start closed R least.solves choices news v.resume a b resumes
        (λ r l h. at a b e e' r l h (dec_lt 0 (bit v.result r)));
    handled = λ a b e h m choices news. alike f start closed R least.solves choices news h a b (handles h m)
        (λ r l p. e r (kept_handler f.regs R v h r m l p));
    read = λ r m.
        let (k, e, l, b) = kept_only f.regs R v r m in
        let (choices, len, tells) = needed f r l start R least k (place r k e) b in
        (k, choices, e, len, tells);
  }
    where
      at : (a b : List ℕ) → Agree (kept f.regs R v) a b → AgreeOn v.result a b → (r : ℕ) → r < f.regs → 0 < bit (R v.resume) r
          → Dec (0 < bit v.result r) → get_or a r 0 ≡ get_or b r 0
      at a b e e' r l h (yes p) = e' r p
      at a b e e' r l h (no n) = e r (kept_resume f.regs R v r l h (omega arith))

      place : (r k : ℕ) → Entry v r k → start ≤ k
      place r k e = ⊎_elim (λ p. omega (arith, p.0, resumes)) (λ m. handles k m) e

-- drop any register from any kept list, and what is left is not enough
pub none_spare : (f : Flow) (l : List ℕ) (v : Level) → Keeps f l v → (r : ℕ) → In r l → Lost f l v r
none_spare f l v keep r m = record {
  a = zeros;
  b = other;
  files = (length-replicate {A = ℕ} f.regs 0, length-set zeros r 1 ∙ length-replicate {A = ℕ} f.regs 0);
  agree = λ q i ne. same q ne;
  k = w.0;
  entry = ⊎_elim (λ p. inl (p.0, λ q h. same q (λ e. omega (arith, p.1, h, ap (bit v.result) e)))) (λ i. inr i) w.2;
  choices = w.1;
  apart = λ news. w.4 news zeros other differ;
}
  where
    w : (k : ℕ) × (choices : List ℕ) × Entry v r k × (length choices ≤ f.size) × TellsApart f r k choices
    w = keep.read r m

    zeros : List ℕ
    zeros = replicate f.regs 0

    other : List ℕ
    other = set zeros r 1

    same : (q : ℕ) → q ≢ r → get_or zeros q 0 ≡ get_or other q 0
    same q ne = sym (get_or-set_other zeros r q 1 0 ne)

    differ : get_or zeros r 0 ≢ get_or other r 0
    differ e = omega (
      arith,
      e,
      get_or-replicate {A = ℕ} f.regs r 0 0 (keep.below r m),
      get_or-set_same zeros r 1 0
          (omega (arith, keep.below r m, length-replicate {A = ℕ} f.regs 0)),
    )
