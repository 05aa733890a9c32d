-- What the handlers around a position add to a set, try by try: how many registers, and which. Assumes nothing.
use mathlib.Core.Path.{◌≡◌, refl, sym, ap, ap₂, ◌∙◌}
use mathlib.Core.Bool.{Bool, true, false, cond, ◌&&◌}
use mathlib.Core.List.{List, [], ◌∷◌, ◌++◌, append-nil, append_assoc}
use Prim.Native.Nat.{ℕ, zero, suc, ◌+◌, ◌*◌, ◌/◌, ◌%◌, ◌^◌, ◌≤◌, ◌<◌, min, zero-le}
use native.Mathlib.Nat.{mod-lt, zero-lt-suc}
use native.Mathlib.Numerals.{add-one}
use native.Mathlib.Omega.{arith}
use lib.Bits.{bit_or, or_zero_r}
use lib.Dec.{ltb}
use lib.Seq.{drop-cons}
use lib.ListN.{length, get_or, drop, length-append, length-drop}
use Rattle.flow.specs.Set.{minus}
use Rattle.flow.specs.Flow.{joined}
use Rattle.flow.specs.Sweep.{row}
use Rattle.flow.specs.Listed.{listed, keep}
use Rattle.flow.specs.Inner.{Listing, Holds}
use Rattle.flow.specs.Words.{value, rows_of, Small}
use Rattle.flow.specs.Kept.{Level, handlers_of, added, kept}
use Rattle.flow.proofs.Bits.{bit_ext, bit_lt, or_bit, minus_bit, low_bit, half_bit, minus_lt}
use Rattle.flow.proofs.Listed.{listed_wide}
use Rattle.flow.proofs.Tries.{added_none, added_next, handlers_none}
use Rattle.flow.proofs.Written.{Written, written_start, written_as, written_long, written_room, written_more, written_end}
use Rattle.sets.proofs.Sets.{or_assoc, joined_append}
use Rattle.lists.proofs.Tries.{join_out, list_out}

-- ---- as many as the registers of all its rows together

listed_step : (d p x : ℕ) → length (listed (suc d) p x) ≡ x % 2 + length (listed d (suc p) (x / 2))
unfolding listed
listed_step d p x = go (x % 2) (mod-lt x (zero-lt-suc 1))
  where
    go : (b : ℕ) → b < 2 → length (keep b p (listed d (suc p) (x / 2))) ≡ b + length (listed d (suc p) (x / 2))
    go zero h = omega arith
    go (suc zero) h = omega arith
    go (suc (suc b)) h = absurd (omega arith)

listed_or : (d p s x : ℕ) → length (listed d p (bit_or s x)) ≡ length (listed d p s) + length (listed d p (minus x s))
unfolding listed
listed_or zero p s x = refl
listed_or (suc d) p s x =
    let low : bit_or s x % 2 ≡ s % 2 + minus x s % 2 = omega (
      arith,
      low_bit (bit_or s x),
      low_bit s,
      low_bit x,
      low_bit (minus x s),
      or_bit s x 0,
      minus_bit x s
          0,
      bit_lt s 0,
      bit_lt x 0,
    ) in
    omega (
      arith,
      low,
      listed_step d p (bit_or s x),
      listed_step d p s,
      listed_step d p (minus x s),
      ap (λ (y : ℕ). length (listed d (suc p) y)) half_or,
      ap (λ (y : ℕ). length (listed d (suc p) y)) half_minus,
      listed_or d (suc p) (s / 2) (x / 2),
    )
  where
    half_or : bit_or s x / 2 ≡ bit_or (s / 2) (x / 2)
    half_or = bit_ext (bit_or s x / 2) (bit_or (s / 2) (x / 2)) (λ r. omega (
      arith,
      half_bit (bit_or s x) r,
      or_bit s x (suc r),
      or_bit (s / 2) (x / 2) r,
      half_bit
          s r,
      half_bit x r,
    ))

    half_minus : minus x s / 2 ≡ minus (x / 2) (s / 2)
    half_minus = bit_ext (minus x s / 2) (minus (x / 2) (s / 2)) (λ r. omega (
      arith,
      half_bit (minus x s) r,
      minus_bit x s (suc r),
      minus_bit (x / 2)
          (s / 2) r,
      half_bit s r,
      half_bit x r,
    ))

module _ (d : ℕ) (R : ℕ → ℕ) where
  -- the resumed set and what the handlers add: the registers of the union
  pub union_count : (hs : List ℕ) (s : ℕ) → length (listed d 0 s ++ added d R s hs) ≡ length (listed d 0 (bit_or s (joined R hs)))
  unfolding joined
  union_count [] s = ap length (ap (λ (l : List ℕ). listed d 0 s ++ l) (added_none d R s) ∙ append-nil (listed d 0 s)) ∙ ap (λ (x : ℕ). length (listed d 0 x))
      (sym (or_zero_r s))
  union_count (h ∷ hs) s = omega (
    arith,
    length-append (listed d 0 s) (added d R s (h ∷ hs)),
    ap length (added_next d R s h hs),
    length-append (listed d 0 (minus (R h) s)) (added d R (bit_or s (R h)) hs),
    listed_or d 0 s (R h),
    length-append (listed d 0 (bit_or s (R h))) (added d R (bit_or s (R h)) hs),
    union_count hs (bit_or s (R h)),
    ap (λ (x : ℕ). length (listed d 0 x)) (or_assoc s (R h) (joined R hs)),
  )

-- registers past the highest of all rows list nothing
module _ (d e : ℕ) (R : ℕ → ℕ) (le : d ≤ e) (lt : (k : ℕ) → R k < 2 ^ d) where
  added_wide : (hs : List ℕ) (s : ℕ) → added e R s hs ≡ added d R s hs
  unfolding added
  added_wide [] s = refl
  added_wide (h ∷ hs) s = ap₂ ◌++◌ (listed_wide d e 0 (minus (R h) s) (minus_lt d (R h) s (lt h)) le) (added_wide hs (bit_or s (R h)))

  pub kept_wide : (v : Level) → kept e R v ≡ kept d R v
  kept_wide v = ap₂ ◌++◌ (listed_wide d e 0 (minus (R v.resume) v.result) (minus_lt d (R v.resume) v.result (lt v.resume)) le)
      (added_wide v.handlers (minus (R v.resume) v.result))

-- ---- the tries, pair by pair

pair_first : (n k s h : ℕ) (ts : List ℕ) → handlers_of n k (s ∷ h ∷ ts) ≡ handlers_of n k (s ∷ h ∷ []) ++ handlers_of n k ts
unfolding handlers_of
pair_first n k s h ts = go (ltb s k && ltb k h)
  where
    go : (t : Bool) → cond t (min h n ∷ handlers_of n k ts) (handlers_of n k ts) ≡ cond t (min h n ∷ []) [] ++ handlers_of n k ts
    go true = refl
    go false = refl

module _ (n k : ℕ) (tries : List ℕ) (i : ℕ) (l : i + 1 < length tries) (a b : ℕ) (p : a ≡ get_or tries i 0) (q : b ≡ get_or tries (i + 1) 0) where
  pub handlers_split : handlers_of n k (drop i tries) ≡ handlers_of n k (a ∷ b ∷ []) ++ handlers_of n k (drop (i + 2) tries)
  handlers_split = ap (handlers_of n k) pair ∙ pair_first n k a b (drop (i + 2) tries)
    where
      pair : drop i tries ≡ a ∷ b ∷ drop (i + 2) tries
      pair =
          drop-cons tries i 0 (omega arith)
          ∙ ap (λ (x : ℕ). get_or tries i 0 ∷ drop x tries) (sym (add-one i))
          ∙ ap (λ (x : List ℕ). get_or tries i 0 ∷ x) (drop-cons tries (i + 1) 0 l ∙ ap (λ (x : ℕ). get_or tries (i + 1) 0 ∷ drop x tries) two)
          ∙ ap₂ (λ (x y : ℕ). x ∷ y ∷ drop (i + 2) tries) (sym p) (sym q)
        where
          two : suc (i + 1) ≡ i + 2
          two = omega arith

added_append : (d : ℕ) (R : ℕ → ℕ) (hs gs : List ℕ) (s : ℕ) → added d R s (hs ++ gs) ≡ added d R s hs ++ added d R (bit_or s (joined R hs)) gs
unfolding added joined
added_append d R [] gs s = ap (λ (x : ℕ). added d R x gs) (sym (or_zero_r s))
added_append d R (h ∷ hs) gs s =
    ap (λ (l : List ℕ). listed d 0 (minus (R h) s) ++ l) (added_append d R hs gs (bit_or s (R h)) ∙ ap (λ (x : ℕ). added d R (bit_or s (R h)) hs
    ++ added d R x gs) (or_assoc s (R h) (joined R hs)))
    ∙ sym (append_assoc (listed d 0 (minus (R h) s)) (added d R (bit_or s (R h)) hs) (added d R (bit_or s (joined R (h ∷ hs))) gs))

module _ (bits n k words : ℕ) (rows tries : List ℕ) where
  abbrev R : ℕ → ℕ
  R = row (rows_of bits words (suc n) rows)

  -- the set seen, with the rows of the handlers that are left, is the whole
  pub record Holding (s seen : List ℕ) (i : ℕ) : Type 0 where
    pub le : i ≤ length tries
    pub small : Small bits seen
    pub all : bit_or (value bits seen) (joined R (handlers_of n k (drop i tries))) ≡ bit_or (value bits s) (joined R (handlers_of n k tries))

  pub holding_start : (s : List ℕ) → Small bits s → Holding s s 0
  holding_start s h = record { le = zero-le; small = h; all = refl }

  module _ (s seen : List ℕ) (i : ℕ) (h : Holding s seen i) where
    pub holding_more : i + 1 < length tries → (a b : ℕ) → a ≡ get_or tries i 0 → b ≡ get_or tries (i + 1) 0 → (next : List ℕ)
        → Holds bits next (bit_or (value bits seen) (joined (row (rows_of bits words (suc n) rows)) (handlers_of n k (a ∷ b ∷ [])))) → Holding s next (i + 2)
    holding_more l a b p q next g = record {
      le = omega arith;
      small = g.small;
      all = ap (λ (x : ℕ). bit_or x (joined R (handlers_of n k (drop (i + 2) tries)))) g.is
          ∙ or_assoc (value bits seen) (joined R (handlers_of n k (a ∷ b ∷ []))) (joined R (handlers_of n k (drop (i + 2) tries)))
          ∙ ap (bit_or (value bits seen)) (sym (joined_append R (handlers_of n k (a ∷ b ∷ [])) (handlers_of n k (drop (i + 2) tries)))
          ∙ ap (joined R) (sym (handlers_split n k tries i l a b p q)))
          ∙ h.all;
    }

    -- a try that is not around k adds nothing
    pub holding_skip : i + 1 < length tries → (a b : ℕ) → a ≡ get_or tries i 0 → b ≡ get_or tries (i + 1) 0 → (t : Bool) → t ≡ ltb a k && ltb k b → t ≡ false
        → Holding s seen (i + 2)
    holding_skip l a b p q t e out = holding_more l a b p q seen (join_out n k a b t e out R bits seen h.small)

    pub holding_end : length tries ≤ i + 1 → Holds bits seen (bit_or (value bits s) (joined (row (rows_of bits words (suc n) rows)) (handlers_of n k tries)))
    unfolding joined
    holding_end end = record {
      small = h.small;
      is = sym (ap (λ (l : List ℕ). bit_or (value bits seen) (joined R l)) (handlers_none n k (drop i tries) (omega (arith, length-drop i tries)))
          ∙ or_zero_r (value bits seen)) ∙ h.all;
    }

  -- of what the handlers add to the set s, some is written
  pub record Keeping (s old : List ℕ) (m : ℕ) (out seen : List ℕ) (at i : ℕ) : Type 0 where
    pub le : i ≤ length tries
    pub small : Small bits seen
    pub fits : m + length (added (words * bits) R (value bits s) (handlers_of n k tries)) ≤ length old
    pub so : Written (added (words * bits) R (value bits s) (handlers_of n k tries)) old m out at (added (words * bits) R (value bits seen)
        (handlers_of n k (drop i tries)))

  pub keeping_start : (s old : List ℕ) (m : ℕ) → Small bits s → m + length (added (words * bits) (row (rows_of bits words (suc n) rows)) (value bits s)
      (handlers_of n k tries)) ≤ length old
      → Keeping s old m old s m 0
  keeping_start s old m h f = record {
    le = zero-le;
    small = h;
    fits = f;
    so = written_start (added (words * bits) R (value bits s) (handlers_of n k tries)) old
        m (added (words * bits) R (value bits s) (handlers_of n k tries)) refl;
  }

  module _ (s old : List ℕ) (m : ℕ) (out seen : List ℕ) (at i : ℕ) (p : Keeping s old m out seen at i) where
    abbrev L : List ℕ
    L = added (words * bits) R (value bits s) (handlers_of n k tries)

    abbrev rest : List ℕ
    rest = added (words * bits) R (value bits seen) (handlers_of n k (drop i tries))

    pub keeping_long : length out ≡ length old
    keeping_long = written_long L old m out at rest p.so p.fits

    pub keeping_end : length tries ≤ i + 1 → Listing (added (words * bits) (row (rows_of bits words (suc n) rows)) (value bits s) (handlers_of n k tries)) old m
        out at
    keeping_end end = written_end L old m out at rest p.so p.fits
        (ap (added (words * bits) R (value bits seen)) (handlers_none n k (drop i tries) (omega (arith, length-drop i tries))) ∙ added_none (words * bits) R
        (value bits seen))

    module _ (l : i + 1 < length tries) (a b : ℕ) (e : a ≡ get_or tries i 0) (f : b ≡ get_or tries (i + 1) 0) where
      abbrev here : List ℕ
      here = added (words * bits) R (value bits seen) (handlers_of n k (a ∷ b ∷ []))

      abbrev later : List ℕ
      later = added (words * bits) R (bit_or (value bits seen) (joined R (handlers_of n k (a ∷ b ∷ [])))) (handlers_of n k (drop (i + 2) tries))

      split : rest ≡ here ++ later
      split = ap (added (words * bits) R (value bits seen)) (handlers_split n k tries i l a b e f)
          ∙ added_append (words * bits) R (handlers_of n k (a ∷ b ∷ [])) (handlers_of n k (drop (i + 2) tries)) (value bits seen)

      pub keeping_try : at + length (added (words * bits) (row (rows_of bits words (suc n) rows)) (value bits seen) (handlers_of n k (a ∷ b ∷ []))) ≤ length out
      keeping_try = written_room L old m out at rest p.so p.fits here later split

      pub keeping_more : (out' : List ℕ) (at' : ℕ) → Listing (added (words * bits) (row (rows_of bits words (suc n) rows)) (value bits seen)
          (handlers_of n k (a ∷ b ∷ []))) out at out' at'
          → (next : List ℕ) → Holds bits next (bit_or (value bits seen) (joined (row (rows_of bits words (suc n) rows)) (handlers_of n k (a ∷ b ∷ []))))
          → Keeping s old m out' next at' (i + 2)
      keeping_more out' at' z next g = record {
        le = omega arith;
        small = g.small;
        fits = p.fits;
        so = written_as L old m out' at' later (added (words * bits) R (value bits next) (handlers_of n k (drop (i + 2) tries)))
            (written_more L old m out at rest p.so p.fits here later split out' at' z)
            (ap (λ (x : ℕ). added (words * bits) R x (handlers_of n k (drop (i + 2) tries))) (sym g.is));
      }

      -- a try that is not around k adds nothing
      pub keeping_skip : (t : Bool) → t ≡ ltb a k && ltb k b → t ≡ false → Keeping s old m out seen at (i + 2)
      keeping_skip t d z = keeping_more out at (list_out n k a b t d z R (words * bits) (value bits seen) out at keeping_try) seen
          (join_out n k a b t d z R bits seen p.small)
