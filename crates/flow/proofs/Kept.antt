-- The kept list holds just what is needed where the level may go on, each register once. Assumes nothing.
use mathlib.Core.Path.{◌≡◌, refl, subst}
use mathlib.Core.Logic.{⊎_elim, inl, inr}
use mathlib.Core.List.Memᴰ
use mathlib.Core.List.{List, [], ◌∷◌}
use Prim.Native.Nat.{ℕ, ◌<◌}
use native.Mathlib.Decide.{dec_lt}
use native.Mathlib.Omega.{arith}
use lib.Bits.{bit_or}
use Rattle.flow.specs.Set.{bit, minus}
use Rattle.flow.specs.Listed.{listed}
use Rattle.flow.specs.Kept.{Level, added, resumed, kept}
use Rattle.flow.specs.Demand.{Entry, Once}
use Rattle.flow.proofs.Bits.{bit_lt, or_bit, minus_bit}
use Rattle.flow.proofs.Rows.{In}
use Rattle.flow.proofs.Members.{listed_in, listed_only, listed_once, once_append}

module _ (regs : ℕ) (R : ℕ → ℕ) where
  -- what a handler's row has and is not seen is added
  added_has : (hs : List ℕ) (seen h r : ℕ) → In h hs → r < regs → 0 < bit (R h) r → bit seen r ≡ 0 → In r (added regs R seen hs)
  unfolding added
  added_has [] seen h r m l b z = absurd (Memᴰ.not-nil m)
  added_has (g ∷ hs) seen h r m l b z = go (dec_lt 0 (bit (R g) r)) (λ n. ⊎_elim
      (λ e. absurd (n (subst (λ (x : ℕ). 0 < bit (R x) r) e b)))
      (λ m'. added_has hs (bit_or seen (R g)) h r m' l b (omega (arith, or_bit seen (R g) r))) (Memᴰ.cases_cons m))
    where
      go : Dec (0 < bit (R g) r) → ((0 < bit (R g) r → ⊥) → In r (added regs R (bit_or seen (R g)) hs)) → In r (added regs R seen (g ∷ hs))
      go (yes p) rec = Memᴰ.append_left (added regs R (bit_or seen (R g)) hs) (listed_in regs (minus (R g) seen) r l (omega (arith, minus_bit (R g) seen r)))
      go (no n) rec = Memᴰ.append_right (listed regs 0 (minus (R g) seen)) (rec n)

  -- what is added is in a handler's row and was not seen
  added_only : (hs : List ℕ) (seen r : ℕ) → In r (added regs R seen hs) → (h : ℕ) × In h hs × (r < regs) × (0 < bit (R h) r) × (bit seen r ≡ 0)
  unfolding added
  added_only [] seen r m = absurd (Memᴰ.not-nil m)
  added_only (g ∷ hs) seen r m = ⊎_elim
      (λ a. let w = listed_only regs (minus (R g) seen) r a in
      (g, Memᴰ.head refl, w.0, omega (arith, w.1, minus_bit (R g) seen r), omega (arith, w.1, minus_bit (R g) seen r, bit_lt (R g) r)))
      (λ a. let (h, m', l, b, z) = added_only hs (bit_or seen (R g)) r a in (h, Memᴰ.tail m', l, b, omega (arith, or_bit seen (R g) r)))
      (Memᴰ.append_cases (listed regs 0 (minus (R g) seen)) m)

  added_once : (hs : List ℕ) (seen : ℕ) → Once (added regs R seen hs)
  unfolding added
  added_once [] seen = tt
  added_once (g ∷ hs) seen = once_append (listed regs 0 (minus (R g) seen)) (added regs R (bit_or seen (R g)) hs) (listed_once regs (minus (R g) seen))
      (added_once hs (bit_or seen (R g)))
      (λ r a b. omega (arith, (listed_only regs (minus (R g) seen) r a).1, minus_bit (R g) seen r, (added_only hs (bit_or seen (R g)) r b).4, or_bit seen (R g) r))

  module _ (v : Level) where
    -- a register of the resume row is kept, unless it is the result register
    pub kept_resume : (r : ℕ) → r < regs → 0 < bit (R v.resume) r → bit v.result r ≡ 0 → In r (kept regs R v)
    kept_resume r l b z = Memᴰ.append_left (added regs R (resumed R v) v.handlers)
        (listed_in regs (resumed R v) r l (omega (arith, minus_bit (R v.resume) v.result r)))

    -- a register of a handler's row is kept
    pub kept_handler : (h r : ℕ) → In h v.handlers → r < regs → 0 < bit (R h) r → In r (kept regs R v)
    kept_handler h r m l b = go (dec_lt 0 (bit (resumed R v) r))
      where
        go : Dec (0 < bit (resumed R v) r) → In r (kept regs R v)
        go (yes p) = Memᴰ.append_left (added regs R (resumed R v) v.handlers) (listed_in regs (resumed R v) r l p)
        go (no n) = Memᴰ.append_right (listed regs 0 (resumed R v)) (added_has v.handlers (resumed R v) h r m l b (omega arith))

    -- a kept register is below the count, and in the row of a place where the level may go on
    pub kept_only : (r : ℕ) → In r (kept regs R v) → (k : ℕ) × Entry v r k × (r < regs) × (0 < bit (R k) r)
    kept_only r m = ⊎_elim
        (λ a. let w = listed_only regs (resumed R v) r a in (
          v.resume,
          inl (refl, omega (arith, w.1, minus_bit (R v.resume) v.result r, bit_lt (R v.resume) r)),
          w.0,
          omega
              (arith, w.1, minus_bit (R v.resume) v.result r),
        ))
        (λ a. let (h, m', l, b, z) = added_only v.handlers (resumed R v) r a in (h, inr m', l, b))
        (Memᴰ.append_cases (listed regs 0 (resumed R v)) m)

    -- no register is kept twice
    pub kept_once : Once (kept regs R v)
    kept_once = once_append (listed regs 0 (resumed R v)) (added regs R (resumed R v) v.handlers) (listed_once regs (resumed R v))
        (added_once v.handlers (resumed R v))
        (λ r a b. omega (arith, (listed_only regs (resumed R v) r a).1, (added_only v.handlers (resumed R v) r b).4))
