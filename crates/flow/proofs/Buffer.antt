-- Rows in a buffer of words, over the width and the word count. Assumes nothing.
use mathlib.Core.Path.{◌≡◌, refl, sym, ap, ap₂, ◌∙◌, subst}
use mathlib.Core.Logic.{◌⊎◌, inl, inr, ◌≢◌}
use mathlib.Core.List.{List, [], ◌∷◌}
use mathlib.Core.Bool.{Bool, true, false, not}
use Prim.Native.Nat.{ℕ, zero, suc, ◌+◌, ◌-◌, ◌*◌, ◌^◌, ◌≤◌, ◌<◌, min}
use native.Mathlib.Nat.{suc-mul, mul-le-mul_right, zero-add, zero-mul, add_comm}
use native.Mathlib.Decide.{ℕ_discrete, dec_lt}
use native.Mathlib.Omega.{arith}
use borrow.Author.Tests.{eq-eqb, ne_eqb}
use lib.Bits.{bit_or, bit_and, or_comm}
use lib.Dec.{eqb}
use lib.ListN.{length, get_or, take, drop, set, replicate, length-take, length-set, length-replicate, get_or-eq_default}
use lib.Pow.{pow_pos}
use lib.Seq.{get_or-set_same, get_or-set_other, get_or-take, get_or-drop, drop-drop, ext_get_or}
use Rattle.flow.specs.Set.{minus}
use Rattle.flow.specs.Flow.{Flow, joined, onto, row_at}
use Rattle.flow.specs.Sweep.{row}
use Rattle.flow.specs.Inner.{Put, window, Holds, WordsStored}
use Rattle.flow.specs.Words.{value, Small, rows_of}
use Rattle.flow.proofs.Bits.{and_not}
use Rattle.flow.proofs.Rows.{zeros_at}
use Rattle.flow.proofs.Words.{as_set, holds_one, holds_ext, holds_none, holds_lt, words_past}

-- ---- the words of a row

module _ (words a : ℕ) (l : List ℕ) (j : ℕ) where
  pub window_in : j < words → get_or (take words (drop a l)) j 0 ≡ get_or l (a + j) 0
  window_in h = get_or-take words (drop a l) j 0 h ∙ get_or-drop a l j 0

  pub window_past : words ≤ j → get_or (take words (drop a l)) j 0 ≡ 0
  window_past h = get_or-eq_default (take words (drop a l)) 0 (short (length-take words (drop a l)))
    where
      short : length (take words (drop a l)) ≡ min words (length (drop a l)) → length (take words (drop a l)) ≤ j
      short e = omega arith

pub small_window : (w words a : ℕ) (l : List ℕ) → Small w l → Small w (take words (drop a l))
small_window w words a l sl j = go (dec_lt j words)
  where
    go : Dec (j < words) → get_or (take words (drop a l)) j 0 < 2 ^ w
    go (yes h) = subst (λ (x : ℕ). x < 2 ^ w) (sym (window_in words a l j h)) (sl (a + j))
    go (no n) = subst (λ (x : ℕ). x < 2 ^ w) (sym (window_past words a l j (omega arith))) (pow_pos w)

-- row k is inside the first m
pub row_inside : (words m k : ℕ) → k < m → k * words + words ≤ m * words
row_inside words m k l = subst (λ (x : ℕ). x ≤ m * words) (suc-mul k words) (mul-le-mul_right words l)

module _ (w words : ℕ) where
  pub length-rows_of : (m : ℕ) (buf : List ℕ) → length (rows_of w words m buf) ≡ m
  unfolding rows_of
  length-rows_of zero buf = refl
  length-rows_of (suc m) buf = ap suc (length-rows_of m (drop words buf))

  pub rows_at : (m : ℕ) (buf : List ℕ) (k : ℕ) → k < m → row (rows_of w words m buf) k ≡ value w (window words k buf)
  unfolding rows_of
  rows_at zero buf k l = absurd (omega arith)
  rows_at (suc m) buf zero l = ap (λ (x : ℕ). value w (take words (drop x buf))) (sym (zero-mul words))
  rows_at (suc m) buf (suc k) l = rows_at m (drop words buf) k (omega arith)
      ∙ ap (λ (x : List ℕ). value w (take words x)) (drop-drop (k * words) words buf ∙ ap (λ (x : ℕ). drop x buf) (add_comm words (k * words)
      ∙ sym (suc-mul k words)))

  module _ (pos : 0 < w) (m : ℕ) (buf : List ℕ) (sb : Small w buf) where
    pub rows_holds : (k : ℕ) → k < m → Holds w (window words k buf) (row (rows_of w words m buf) k)
    rows_holds k l = record { small = small_window w words (k * words) buf sb; is = sym (rows_at m buf k l) }

    -- a row fits its words
    pub rows_lt : (k : ℕ) → row (rows_of w words m buf) k < 2 ^ (words * w)
    rows_lt k = go (dec_lt k m)
      where
        go : Dec (k < m) → row (rows_of w words m buf) k < 2 ^ (words * w)
        go (yes l) = holds_lt w pos (window words k buf) (row (rows_of w words m buf) k) (rows_holds k l) words (λ j h. window_past words (k * words) buf j h)
        go (no n) = subst (λ (x : ℕ). x < 2 ^ (words * w)) (sym (get_or-eq_default (rows_of w words m buf) 0 (omega (arith, length-rows_of m buf))))
            (pow_pos (words * w))

  -- empty words are empty rows
  pub rows_zero : 0 < w → (m len : ℕ) → rows_of w words m (replicate len 0) ≡ replicate m 0
  rows_zero pos m len = ext_get_or 0 (rows_of w words m (replicate len 0)) (replicate m 0)
      (length-rows_of m (replicate len 0) ∙ sym (length-replicate {A = ℕ} m 0))
      (λ k h. rows_at m (replicate len 0) k (subst (λ (x : ℕ). k < x) (length-rows_of m (replicate len 0)) h) ∙ (none k).is ∙ sym (zeros_at m k))
    where
      none : (k : ℕ) → Holds w (window words k (replicate len 0)) 0
      none k = holds_ext w pos [] (window words k (replicate len 0)) 0 (holds_none w pos 0) (λ j. at j (dec_lt j words))
        where
          at : (j : ℕ) → Dec (j < words) → ◌≡◌ {A = ℕ} (get_or (window words k (replicate len 0)) j 0) 0
          at j (yes h) = window_in words (k * words) (replicate len 0) j h ∙ zeros_at len (k * words + j)
          at j (no n) = window_past words (k * words) (replicate len 0) j (omega arith)

-- with one word a row, the rows are the words
pub rows_one : (w m : ℕ) (buf : List ℕ) → m ≤ length buf → rows_of w 1 m buf ≡ take m buf
unfolding rows_of value
rows_one w zero buf l = refl
rows_one w (suc m) [] l = absurd (omega arith)
rows_one w (suc m) (x ∷ buf) l = ap₂ (λ (y : ℕ) (ys : List ℕ). y ∷ ys) (ap (λ (y : ℕ). y + x) (zero-mul (2 ^ w)) ∙ zero-add x) (rows_one w m buf (omega arith))

-- ---- a set is stored over row k

module _ (w words : ℕ) (pos : 0 < w) (m : ℕ) (buf out s : List ℕ) (k x : ℕ) (changed : Bool) (l : k < m) (sb : Small w buf)
    (hs : Holds w s x) (lx : x < 2 ^ (words * w)) (st : WordsStored buf (k * words) words s out changed) where
  apart : (i j : ℕ) → i ≢ k → j < words → (i * words + j < k * words) ⊎ (k * words + words ≤ i * words + j)
  apart i j n lj = side (dec_lt i k)
    where
      side : Dec (i < k) → (i * words + j < k * words) ⊎ (k * words + words ≤ i * words + j)
      side (yes lt) = inl (omega (arith, row_inside words k i lt))
      side (no ge) = inr (omega (arith, row_inside words i k (omega arith)))

  -- the words of a list that has s there
  at_row : (b : List ℕ) → ((j : ℕ) → j < words → get_or b (k * words + j) 0 ≡ get_or s j 0) → Holds w (window words k b) x
  at_row b new = holds_ext w pos s (window words k b) x hs (λ j. go j (dec_lt j words))
    where
      go : (j : ℕ) → Dec (j < words) → get_or (window words k b) j 0 ≡ get_or s j 0
      go j (yes h) = window_in words (k * words) b j h ∙ new j h
      go j (no n) = window_past words (k * words) b j (omega arith) ∙ sym (words_past w pos s x hs words lx j (omega arith))

  rows_stored : rows_of w words m out ≡ set (rows_of w words m buf) k x
  rows_stored = ext_get_or 0 (rows_of w words m out) (set (rows_of w words m buf) k x)
      (length-rows_of w words m out ∙ sym (length-set (rows_of w words m buf) k x ∙ length-rows_of w words m buf))
      (λ i h. at i (subst (λ (y : ℕ). i < y) (length-rows_of w words m out) h) (ℕ_discrete i k))
    where
      at : (i : ℕ) → i < m → Dec (i ≡ k) → get_or (rows_of w words m out) i 0 ≡ get_or (set (rows_of w words m buf) k x) i 0
      at i h (yes e) = rw e (rows_at w words m out k l ∙ (at_row out st.new).is ∙ sym (get_or-set_same (rows_of w words m buf) k x 0
          (rw (length-rows_of w words m buf) l)))
      at i h (no n) = rows_at w words m out i h
          ∙ (holds_ext w pos (window words i buf) (window words i out) (row (rows_of w words m buf) i) (rows_holds w words pos m buf sb i h)
          (λ j. cell j (dec_lt j words))).is
          ∙ sym (get_or-set_other (rows_of w words m buf) k i x 0 n)
        where
          cell : (j : ℕ) → Dec (j < words) → get_or (window words i out) j 0 ≡ get_or (window words i buf) j 0
          cell j (yes lj) = window_in words (i * words) out j lj ∙ st.kept (i * words + j) (apart i j n lj) ∙ sym (window_in words (i * words) buf j lj)
          cell j (no nj) = window_past words (i * words) out j (omega arith) ∙ sym (window_past words (i * words) buf j (omega arith))

  -- so the row is found and stored
  pub put_row : (f : Flow) → x ≡ row_at f (row (rows_of w words m buf)) k → Put f (rows_of w words m buf) k (rows_of w words m out) changed
  put_row f e = record {
    stored = rows_stored ∙ ap (set (rows_of w words m buf) k) e;
    told = flag changed refl ∙ ap (λ (y : ℕ). not (eqb (row (rows_of w words m buf) k) y)) e;
  }
    where
      flag : (t : Bool) → changed ≡ t → changed ≡ not (eqb (row (rows_of w words m buf) k) x)
      flag false q = q ∙ ap not (sym (eq-eqb (row (rows_of w words m buf) k) x
          (rows_at w words m buf k l ∙ (at_row buf (λ j h. ap (λ (o : List ℕ). get_or o (k * words + j) 0) (sym (st.quiet q)) ∙ st.new j h)).is)))
      flag true q = q ∙ ap not (sym (ne_eqb (row (rows_of w words m buf) k) x (λ same.
          let (j, lj, ne) = st.loud q in
          ne (sym (window_in words (k * words) buf j lj) ∙ holds_one w pos (window words k buf) s x (as_set (rows_holds w words pos m buf sb k l) same) hs j))))

-- ---- a row is found: after, without what is given up, with what is used

-- in one word, as the machine has it
pub step_word : (f : Flow) (R : ℕ → ℕ) (k w a g u : ℕ) → f.raises k ≡ [] → a ≡ joined R (f.after k) → g ≡ f.given_up k → u ≡ f.used k → a < 2 ^ w → g < 2 ^ w
    → bit_or u (bit_and a ((2 ^ w - 1) - g)) ≡ row_at f R k
unfolding row_at
step_word f R k w a g u calm ea eg eu la lg = ap₂ bit_or eu (and_not w a g la lg ∙ ap₂ minus ea eg)
    ∙ ap (onto R (bit_or (f.used k) (minus (joined R (f.after k)) (f.given_up k)))) (sym calm)

-- in words, step by step
pub step_words : (f : Flow) (R : ℕ → ℕ) (k w : ℕ) (a b s : List ℕ) → f.raises k ≡ [] → Holds w a (joined R (f.after k))
    → Holds w b (minus (value w a) (f.given_up k)) → Holds w s (bit_or (value w b) (f.used k)) → Holds w s (row_at f R k)
unfolding row_at
step_words f R k w a b s calm ha hb hs =
    as_set hs (or_comm (value w b) (f.used k) ∙ ap (λ (x : ℕ). bit_or (f.used k) x) (hb.is ∙ ap (λ (x : ℕ). minus x (f.given_up k)) ha.is)
    ∙ ap (onto R (bit_or (f.used k) (minus (joined R (f.after k)) (f.given_up k)))) (sym calm))
