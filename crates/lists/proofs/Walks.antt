-- Sets listed and counted, word by word. Assumes nothing.
use mathlib.Core.Path.{◌≡◌, refl, sym, ap, ◌∙◌}
use mathlib.Core.List.{List, ◌++◌}
use Prim.Native.Nat.{ℕ, zero, suc, ◌+◌, ◌-◌, ◌*◌, ◌/◌, ◌%◌, ◌^◌, ◌≤◌, ◌<◌, zero-le}
use native.Mathlib.Nat.{mul-le-mul_right}
use native.Mathlib.Omega.{arith}
use borrow.Author.Rules.{Fits-under}
use mir.Syntax.{w64}
use mir.Val.{Fits}
use lib.Bits.{bit_and}
use lib.Count.{count_trailing_zeros, ones}
use lib.ListN.{length, get_or, set, length-append}
use Rattle.flow.specs.Listed.{listed, keep}
use Rattle.flow.specs.Inner.{Listing}
use Rattle.flow.specs.Words.{value, Small}
use Rattle.flow.proofs.Listed.{walk, walk_less, walk_small, listed_none, listed_ones, onward, onward_start, onward_next, onward_end}
use Rattle.flow.proofs.Written.{Written, written_start, written_long, written_room, written_more, written_next, written_one, written_end}

some : {x : ℕ} → (x ≡ 0 → ⊥) → 0 < x
some n = omega arith

-- ---- a word, by trailing zeros

pub record Walked (bits base word : ℕ) (old : List ℕ) (m : ℕ) (out : List ℕ) (n rest : ℕ) : Type 0 where
  pub small : rest < 2 ^ bits
  pub fits : m + length (listed bits base word) ≤ length old
  pub so : Written (listed bits base word) old m out n (listed bits base rest)

pub walked_start : (bits base word : ℕ) (old : List ℕ) (m : ℕ) → word < 2 ^ bits → m + length (listed bits base word) ≤ length old → Walked bits base word old m
    old m word
walked_start bits base word old m s f = record { small = s; fits = f; so = written_start (listed bits base word) old m (listed bits base word) refl }

module _ {bits base word : ℕ} {old : List ℕ} {m : ℕ} {out : List ℕ} {n rest : ℕ} (h : Walked bits base word old m out n rest) where
  pub walked_long : length out ≡ length old
  walked_long = written_long (listed bits base word) old m out n (listed bits base rest) h.so h.fits

  pub walked_end : rest ≡ 0 → Listing (listed bits base word) old m out n
  walked_end e = written_end (listed bits base word) old m out n (listed bits base rest) h.so h.fits (ap (listed bits base) e ∙ listed_none bits base)

  module _ (z : rest ≡ 0 → ⊥) where
    pub walked_next : n < length out
    walked_next = written_next (listed bits base word) old m out n (listed bits base rest) h.so h.fits (base + count_trailing_zeros bits rest)
        (listed bits base (bit_and rest (rest - 1))) (walk bits base rest (some z) h.small)

    pub walked_one : Walked bits base word old m (set out n (base + count_trailing_zeros bits rest)) (n + 1) (bit_and rest (rest - 1))
    walked_one = record {
      small = walk_small bits rest h.small;
      fits = h.fits;
      so = written_one (listed bits base word) old m out n (listed bits base rest) h.so h.fits (base + count_trailing_zeros bits rest)
          (listed bits base (bit_and rest (rest - 1))) (walk bits base rest (some z) h.small);
    }

    pub walked_less : bit_and rest (rest - 1) < rest
    walked_less = walk_less rest (some z)

-- the same, where each word is told by its number
pub walked_put : {bits base word : ℕ} {old : List ℕ} {m : ℕ} {out : List ℕ} {n rest : ℕ} (h : Walked bits base word old m out n rest)
    → (rest ≡ 0 → ⊥) → {low later : ℕ} → low ≡ count_trailing_zeros bits rest → later ≡ bit_and rest (rest - 1) → Walked bits base word old m
    (set out n (base + low)) (n + 1) later
walked_put h z e f = rw (e, f) (walked_one h z)

pub walked_falls : {bits base word : ℕ} {old : List ℕ} {m : ℕ} {out : List ℕ} {n rest : ℕ} (h : Walked bits base word old m out n rest)
    → (rest ≡ 0 → ⊥) → {later : ℕ} → later ≡ bit_and rest (rest - 1) → later < rest
walked_falls h z f = rw f (walked_less h z)

-- ---- a set, word by word

pub listed_le : (d p x : ℕ) → length (listed d p x) ≤ d
unfolding listed
listed_le zero p x = zero-le
listed_le (suc d) p x = go (x % 2) (listed_le d (suc p) (x / 2))
  where
    go : (b : ℕ) → length (listed d (suc p) (x / 2)) ≤ d → length (keep b p (listed d (suc p) (x / 2))) ≤ suc d
    go zero h = omega arith
    go (suc b) h = omega arith

-- all registers of a set
abbrev pub all_of : ℕ → ℕ → List ℕ → List ℕ
all_of bits words s = listed (words * bits) 0 (value bits s)

pub record Listings (bits words : ℕ) (s old : List ℕ) (m : ℕ) (out : List ℕ) (n j : ℕ) : Type 0 where
  pub le : j ≤ words
  pub fits : m + length (all_of bits words s) ≤ length old
  pub so : Written (all_of bits words s) old m out n (onward bits words s j)

module _ (bits words : ℕ) (s : List ℕ) where
  pub listings_start : (old : List ℕ) (m : ℕ) → m + length (all_of bits words s) ≤ length old → Listings bits words s old m old m 0
  listings_start old m f = record { le = zero-le; fits = f; so = written_start (all_of bits words s) old m (onward bits words s 0) (onward_start bits words s) }

  next : (hand j : ℕ) → j < words → words ≤ hand → length s ≡ hand → Small bits s → onward bits words s j ≡ listed bits (bits * j) (get_or s j 0)
      ++ onward bits words s (j + 1)
  next hand j l f e sm = onward_next bits words s j l (omega arith) (sm j)

  module _ (old : List ℕ) (m : ℕ) (out : List ℕ) (n j : ℕ) (h : Listings bits words s old m out n j) where
    pub listings_long : length out ≡ length old
    listings_long = written_long (all_of bits words s) old m out n (onward bits words s j) h.so h.fits

    pub listings_end : words ≤ j → Listing (listed (words * bits) 0 (value bits s)) old m out n
    listings_end l = written_end (all_of bits words s) old m out n (onward bits words s j) h.so h.fits (onward_end bits words s j l)

    module _ (hand : ℕ) (l : j < words) (f : words ≤ hand) (e : length s ≡ hand) (sm : Small bits s) where
      pub listings_room : n + length (listed bits (bits * j) (get_or s j 0)) ≤ length out
      listings_room = written_room (all_of bits words s) old m out n (onward bits words s j) h.so h.fits (listed bits (bits * j) (get_or s j 0))
          (onward bits words s (j + 1)) (next hand j l f e sm)

      pub listings_more : (out' : List ℕ) (n' : ℕ) → Listing (listed bits (bits * j) (get_or s j 0)) out n out' n' → Listings bits words s old m out' n' (j + 1)
      listings_more out' n' a = record {
        le = omega arith;
        fits = h.fits;
        so = written_more (all_of bits words s) old m out n (onward bits words s j) h.so h.fits (listed bits (bits * j) (get_or s j 0))
            (onward bits words s (j + 1)) (next hand j l f e sm) out' n' a;
      }

  -- ---- the same, counted

  pub record Counting (n j : ℕ) : Type 0 where
    pub le : j ≤ words
    pub sum : n + length (onward bits words s j) ≡ length (all_of bits words s)

  pub counting_start : Counting 0 0
  counting_start = record { le = zero-le; sum = zero_plus (length (onward bits words s 0)) ∙ ap length (sym (onward_start bits words s)) }
    where
      zero_plus : (x : ℕ) → 0 + x ≡ x
      zero_plus x = omega arith

  module _ (n j : ℕ) (h : Counting n j) where
    pub counting_end : words ≤ j → n ≡ length (listed (words * bits) 0 (value bits s))
    counting_end l = omega (arith, h.sum, ap length (onward_end bits words s j l))

    module _ (hand : ℕ) (l : j < words) (f : words ≤ hand) (e : length s ≡ hand) (sm : Small bits s) where
      step : length (onward bits words s j) ≡ ones (get_or s j 0) + length (onward bits words s (j + 1))
      step = ap length (next hand j l f e sm) ∙ length-append (listed bits (bits * j) (get_or s j 0)) (onward bits words s (j + 1))
          ∙ ap (λ (x : ℕ). x + length (onward bits words s (j + 1))) (listed_ones bits (bits * j) (get_or s j 0) (sm j))

      within : hand * bits ≤ 1024 → n + ones (get_or s j 0) < 1025
      within few = omega (arith, step, h.sum, listed_le (words * bits) 0 (value bits s), mul-le-mul_right bits f)

      pub counting_one : hand * bits ≤ 1024 → Fits w64 (ones (get_or s j 0))
      counting_one few = Fits-under w64 (ones (get_or s j 0)) 1025 (omega (arith, within few)) tt

      pub counting_fits : hand * bits ≤ 1024 → Fits w64 (n + ones (get_or s j 0))
      counting_fits few = Fits-under w64 (n + ones (get_or s j 0)) 1025 (within few) tt

      pub counting_more : Counting (n + ones (get_or s j 0)) (j + 1)
      counting_more = record { le = omega arith; sum = omega (arith, step, h.sum) }

pub ruleset listings = (listings_start, listings_long, listings_end, listings_room, listings_more)

pub ruleset countings = (counting_start, counting_end, counting_one, counting_fits, counting_more)
