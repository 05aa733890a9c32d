-- What the search says is the bit in the finished rows from start 0. Assumes nothing.
use mathlib.Core.Path.{◌≡◌, refl, sym, ap, ◌∙◌, subst}
use mathlib.Core.Bool.{Bool, true, false, cond, ◌||◌}
use mathlib.Core.List.{List, [], ◌∷◌}
use Prim.Native.Nat.{ℕ, ◌^◌, ◌≤◌, ◌<◌, max, zero-le}
use native.Mathlib.Decide.{ℕ_discrete, dec_lt}
use native.Mathlib.Omega.{arith}
use borrow.Author.Tests.{eq-eqb, ne_eqb, lt-ltb, le-ltb}
use lib.Dec.{eqb, ltb}
use Rattle.laws.specs.Page.{among}
use Rattle.code.specs.Ins.{count}
use Rattle.flow.specs.Set.{bit, alone}
use Rattle.flow.specs.Flow.{Flow, joined, Least}
use Rattle.flow.specs.Sweep.{row, strays, Found}
use Rattle.flow.proofs.Bits.{bit_lt, bit_zero, or_bit, pow_here, pow_other}
use Rattle.flow.proofs.Answer.{found_least}
use Rattle.steps.specs.Code.{used_at, given_at, set_of, flow}
use Rattle.needed.specs.Path.{Needs}
use Rattle.needed.specs.Path as path
use Rattle.paths.specs.Search.{here, later, Says}
use Rattle.seek.specs.Inner.{uses_at, gives_at, Asked}
use Rattle.seek.proofs.Within.{next_after, after_next}
use Rattle.needed.proofs.Rows.{row_needs, needs_row}

-- ---- a register in a set

module _ (regs r : ℕ) where
  alone_bit : (x : ℕ) → r < regs → bit (alone regs x) r ≡ cond (eqb r x) 1 0
  alone_bit x l = go (ℕ_discrete r x)
    where
      go : Dec (r ≡ x) → bit (cond (ltb x regs) (2 ^ x) 0) r ≡ cond (eqb r x) 1 0
      go (yes e) = rw (eq-eqb r x e, ← e, lt-ltb r regs l) (pow_here r)
      go (no n) = at (dec_lt x regs)
        where
          at : Dec (x < regs) → bit (cond (ltb x regs) (2 ^ x) 0) r ≡ cond (eqb r x) 1 0
          at (yes h) = rw (ne_eqb r x n, lt-ltb x regs h) (pow_other x r (λ e. n (sym e)))
          at (no h) = rw (ne_eqb r x n, le-ltb x regs (omega arith)) (bit_zero r)

  -- a register below the count is in a set just if it is listed
  set_bit : (l : List ℕ) → r < regs → bit (set_of regs l) r ≡ cond (among r l) 1 0
  unfolding joined
  set_bit [] h = bit_zero r
  set_bit (x ∷ l) h = or_bit (alone regs x) (set_of regs l) r ∙ go (eqb r x) (among r l) (alone_bit x h) (set_bit l h)
    where
      go : (s t : Bool) → bit (alone regs x) r ≡ cond s 1 0 → bit (set_of regs l) r ≡ cond t 1 0 → max (bit (alone regs x) r) (bit (set_of regs l) r) ≡ cond
          (s || t) 1 0
      go true true p q = rw (p, q)
      go true false p q = rw (p, q)
      go false true p q = rw (p, q)
      go false false p q = rw (p, q)

  -- and no other is
  set_past : (l : List ℕ) → regs ≤ r → bit (set_of regs l) r ≡ 0
  unfolding joined
  set_past [] h = bit_zero r
  set_past (x ∷ l) h = or_bit (alone regs x) (set_of regs l) r ∙ rw (set_past l h, one)
    where
      one : bit (alone regs x) r ≡ 0
      one = at (dec_lt x regs)
        where
          at : Dec (x < regs) → bit (cond (ltb x regs) (2 ^ x) 0) r ≡ 0
          at (yes g) = rw (lt-ltb x regs g) (pow_other x r (omega arith))
          at (no g) = rw (le-ltb x regs (omega arith)) (bit_zero r)

module _ (w : List ℕ) (regs r : ℕ) where
  -- what the search asks is what is needed by paths
  module _ (l : r < regs) where
    used_bit : (j : ℕ) → bit (set_of regs (used_at w j)) r ≡ cond (uses_at w r j) 1 0
    unfolding uses_at
    used_bit j = set_bit regs r (used_at w j) l

    given_bit : (j : ℕ) → bit (set_of regs (given_at w j)) r ≡ cond (gives_at w r j) 1 0
    unfolding gives_at
    given_bit j = set_bit regs r (given_at w j) l

    pub asked_needs : {k : ℕ} → Asked w r k → Needs (flow regs w) r k
    asked_needs {k} (here h e) = path.here h (omega (arith, used_bit k, ap (λ (t : Bool). cond {A = ℕ} t 1 0) e))
    asked_needs {k} (later {t = s} h e m x) =
        path.later h (given_bit k ∙ ap (λ (t : Bool). cond {A = ℕ} t 1 0) e) (next_after w k s m) (asked_needs x)

    needs_in : {k : ℕ} → Needs (flow regs w) r k → k < count w
    needs_in (path.here h u) = h
    needs_in (path.later h g m x) = h

    pub needs_asked : {k : ℕ} → Needs (flow regs w) r k → Asked w r k
    needs_asked {k} (path.here h u) = here h (go (uses_at w r k) refl)
      where
        go : (t : Bool) → uses_at w r k ≡ t → uses_at w r k ≡ true
        go true e = e
        go false e = absurd (omega (arith, used_bit k, ap (λ (t : Bool). cond {A = ℕ} t 1 0) e, u))
    needs_asked {k} (path.later {s = s} h g m x) = later h (go (gives_at w r k) refl) (after_next w k s (needs_in x) m) (needs_asked x)
      where
        go : (t : Bool) → gives_at w r k ≡ t → gives_at w r k ≡ false
        go false e = e
        go true e = absurd (omega (arith, given_bit k, ap (λ (t : Bool). cond {A = ℕ} t 1 0) e, g))

  -- registers not below the count are never needed, and none is at n
  pub never_past : regs ≤ r → {k : ℕ} → Needs (flow regs w) r k → ⊥
  never_past h {k} (path.here l u) = omega (arith, u, set_past regs r (used_at w k) h)
  never_past h (path.later l g m x) = never_past h x

  pub never_end : Needs (flow regs w) r (count w) → ⊥
  never_end (path.here l u) = omega arith
  never_end (path.later l g m x) = omega arith

-- rows that were swept from 0 are the least solution from 0
least_zero : (f : Flow) (rows : List ℕ) (full lost : ℕ) → Found f 0 rows full lost → Least f 0 (row rows)
least_zero f rows full lost found = subst (λ (x : ℕ). Least f x (row rows)) (same (ltb 0 (strays f 0))) (found_least f 0 zero-le rows full lost found)
  where
    same : (t : Bool) → cond {A = ℕ} t 0 0 ≡ 0
    same true = refl
    same false = refl

-- The answer equals the bit in the finished rows from start 0.
pub needs_bit : (f : Flow) → ((k : ℕ) → f.raises k ≡ []) → (rows : List ℕ) (full lost : ℕ) → Found f 0 rows full lost → (r k : ℕ) (b : Bool)
    → Says (Needs f r k) b → bit (row rows k) r ≡ cond b 1 0
needs_bit f calm rows full lost found r k true s = omega (arith, needs_row f r (row rows) (least_zero f rows full lost found) s, bit_lt (row rows k) r)
needs_bit f calm rows full lost found r k false s = at (dec_lt 0 (bit (row rows k) r))
  where
    at : Dec (0 < bit (row rows k) r) → bit (row rows k) r ≡ 0
    at (yes h) = absurd (s (row_needs f r (row rows) (least_zero f rows full lost found) calm k h))
    at (no n) = omega arith
