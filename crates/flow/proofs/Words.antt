-- Laws of sets in words, over the width: register r is bit r % w of word r / w. Assumes nothing.
use mathlib.Core.Path.{◌≡◌, sym, ap, ap₂, ◌∙◌, subst}
use mathlib.Core.Logic.{◌≢◌}
use mathlib.Core.List.{List, [], ◌∷◌}
use mathlib.Core.Bool.{Bool, cond}
use Prim.Native.Nat.{ℕ, suc, ◌+◌, ◌-◌, ◌*◌, ◌/◌, ◌%◌, ◌^◌, ◌≤◌, ◌<◌, max}
use native.Mathlib.Nat.{mod-lt, div-add-mod', one-mul, div-eq_of_lt, mod-eq_of_lt, lt_of_lt_of_le, div-lt_iff_lt-mul, add-div_right, add-mod_right}
use native.Mathlib.Nat.{le-add_right, mul-le-mul_right}
use native.Mathlib.Decide.{ℕ_discrete, dec_lt}
use native.Mathlib.Numerals.{add-one}
use native.Mathlib.Omega.{arith}
use borrow.Author.Tests.{lt-ltb}
use lib.Arith.{digits_div, digits_mod}
use lib.Bits.{bit_or, or_shifted, or_lt}
use lib.ListN.{length, get_or, set, replicate}
use lib.Pow.{pow-lt, pow_pos}
use lib.Seq.{get_or-set_same, get_or-set_other}
use Rattle.flow.specs.Set.{bit, minus, alone}
use Rattle.flow.specs.Words.{value, Small}
use Rattle.flow.specs.Inner.{Holds}
use Rattle.flow.proofs.Bits.{bit_zero, bit_ext, bit_high, bit_down, bit_up, bits_lt, minus_lt, pow_here, pow_other, or_bit, minus_bit}
use Rattle.flow.proofs.Rows.{zeros_at}

pub as_set : {w x y : ℕ} {s : List ℕ} → Holds w s x → x ≡ y → Holds w s y
as_set h e = record { small = h.small; is = h.is ∙ e }

module _ (w : ℕ) (pos : 0 < w) where
  low_word : (v x r : ℕ) → x < 2 ^ w → r < w → bit (v * 2 ^ w + x) r ≡ bit x r
  low_word v x r l lt =
      ap (λ (y : ℕ). bit y r) (sym (or_shifted v w x l)) ∙ or_bit (v * 2 ^ w) x r
      ∙ ap (λ (y : ℕ). max y (bit x r)) (ap (λ (y : ℕ). bit (v * 2 ^ y) r) (gap lt) ∙ bit_down v r (w - suc r)) ∙ omega arith
    where
      gap : r < w → w ≡ suc (w - suc r) + r
      gap h = omega arith

  high_word : (v x i : ℕ) → x < 2 ^ w → bit (v * 2 ^ w + x) (w + i) ≡ bit v i
  high_word v x i l =
      ap (λ (y : ℕ). bit y (w + i)) (sym (or_shifted v w x l)) ∙ or_bit (v * 2 ^ w) x (w + i)
      ∙ ap₂ max (bit_up v w i) (bit_high x w (w + i) l (le-add_right w i)) ∙ omega arith

  bit_value : (s : List ℕ) → Small w s → (r : ℕ) → bit (value w s) r ≡ bit (get_or s (r / w) 0) (r % w)
  unfolding value
  bit_value [] small r = bit_zero r ∙ sym (bit_zero (r % w))
  bit_value (x ∷ xs) small r = go (dec_lt r w) (λ i. bit_value xs (λ j. small (suc j)) i)
    where
      go : Dec (r < w) → ((i : ℕ) → bit (value w xs) i ≡ bit (get_or xs (i / w) 0) (i % w)) → bit (value w xs * 2 ^ w + x) r ≡ bit (get_or (x ∷ xs) (r / w) 0)
          (r % w)
      go (yes l) ih = low_word (value w xs) x r (small 0) l ∙ ap₂ (λ (q i : ℕ). bit (get_or (x ∷ xs) q 0) i) (sym (div-eq_of_lt l)) (sym (mod-eq_of_lt l))
      go (no n) ih =
          ap (λ (y : ℕ). bit (value w xs * 2 ^ w + x) y) (split n)
          ∙ high_word (value w xs) x (r - w) (small 0) ∙ ih (r - w)
          ∙ ap₂ (λ (q i : ℕ). bit (get_or (x ∷ xs) q 0) i)
          (sym (add-one ((r - w) / w)) ∙ sym (add-div_right (r - w) pos) ∙ ap (λ (y : ℕ). y / w) (back n))
          (sym (add-mod_right (r - w) w) ∙ ap (λ (y : ℕ). y % w) (back n))
        where
          split : ¬ (r < w) → r ≡ w + (r - w)
          split h = omega arith

          back : ¬ (r < w) → r - w + w ≡ r
          back h = omega arith

  -- words hold a set just if their bits are its bits
  pub holds_by : (s : List ℕ) (x : ℕ) → Small w s → ((r : ℕ) → bit (get_or s (r / w) 0) (r % w) ≡ bit x r) → Holds w s x
  holds_by s x small h = record { small = small; is = bit_ext (value w s) x (λ r. bit_value s small r ∙ h r) }

  module _ (s : List ℕ) (x : ℕ) (h : Holds w s x) where
    pub holds_bit : (r : ℕ) → bit (get_or s (r / w) 0) (r % w) ≡ bit x r
    holds_bit r = sym (bit_value s h.small r) ∙ ap (λ (y : ℕ). bit y r) h.is

    pub word_bit : (j i : ℕ) → i < w → bit (get_or s j 0) i ≡ bit x (j * w + i)
    word_bit j i l = ap₂ (λ (q y : ℕ). bit (get_or s q 0) y) (sym (digits_div j l)) (sym (digits_mod j l)) ∙ holds_bit (j * w + i)

    -- a set that fits the first words leaves the others empty
    pub words_past : (words : ℕ) → x < 2 ^ (words * w) → (j : ℕ) → words ≤ j → get_or s j 0 ≡ 0
    words_past words l j le = bit_ext (get_or s j 0) 0 (λ i. at i (dec_lt i w) ∙ sym (bit_zero i))
      where
        at : (i : ℕ) → Dec (i < w) → bit (get_or s j 0) i ≡ 0
        at i (yes h') = word_bit j i h' ∙ bit_high x (words * w) (j * w + i) l (omega (arith, mul-le-mul_right w le))
        at i (no n) = bit_high (get_or s j 0) w i (h.small j) (omega arith)

    -- and words that end hold a set that fits them
    pub holds_lt : (words : ℕ) → ((j : ℕ) → words ≤ j → get_or s j 0 ≡ 0) → x < 2 ^ (words * w)
    holds_lt words z = bits_lt x (words * w) (λ r l. sym (holds_bit r) ∙ ap (λ (y : ℕ). bit y (r % w)) (z (r / w) (far r l)) ∙ bit_zero (r % w))
      where
        far : (r : ℕ) → words * w ≤ r → words ≤ r / w
        far r l = go (dec_lt (r / w) words)
          where
            go : Dec (r / w < words) → words ≤ r / w
            go (yes lt) = absurd (omega (arith, (div-lt_iff_lt-mul {k = w} {x = r} {y = words} pos).0 lt))
            go (no n) = omega arith

  -- a set has one list of words
  pub holds_one : (s t : List ℕ) (x : ℕ) → Holds w s x → Holds w t x → (j : ℕ) → get_or s j 0 ≡ get_or t j 0
  holds_one s t x hs ht j = bit_ext (get_or s j 0) (get_or t j 0) (λ i. go i (dec_lt i w))
    where
      go : (i : ℕ) → Dec (i < w) → bit (get_or s j 0) i ≡ bit (get_or t j 0) i
      go i (yes l) = word_bit s x hs j i l ∙ sym (word_bit t x ht j i l)
      go i (no n) = bit_high (get_or s j 0) w i (hs.small j) (omega arith) ∙ sym (bit_high (get_or t j 0) w i (ht.small j) (omega arith))

  pub holds_ext : (s t : List ℕ) (x : ℕ) → Holds w s x → ((j : ℕ) → get_or t j 0 ≡ get_or s j 0) → Holds w t x
  holds_ext s t x h e = holds_by t x (λ j. rw (e j) (h.small j)) (λ r. rw (e (r / w)) (holds_bit s x h r))

  pub holds_none : (n : ℕ) → Holds w (replicate n 0) 0
  holds_none n = holds_by (replicate n 0) 0 (λ j. rw (zeros_at n j) (pow_pos w)) (λ r. rw (zeros_at n (r / w)) (bit_zero (r % w) ∙ sym (bit_zero r)))

  pub holds_or : (s t u : List ℕ) (x y : ℕ) → Holds w s x → Holds w t y → ((j : ℕ) → get_or u j 0 ≡ bit_or (get_or s j 0) (get_or t j 0)) → Holds w u (bit_or x y)
  holds_or s t u x y hs ht e = holds_by u (bit_or x y) (λ j. subst (λ (z : ℕ). z < 2 ^ w) (sym (e j)) (or_lt w (get_or s j 0) (get_or t j 0) (hs.small j)
      (ht.small j)))
      (λ r. ap (λ (z : ℕ). bit z (r % w)) (e (r / w)) ∙ or_bit (get_or s (r / w) 0) (get_or t (r / w) 0) (r % w) ∙ ap₂ max (holds_bit s x hs r) (holds_bit t y ht r)
      ∙ sym (or_bit x y r))

  pub holds_minus : (s t u : List ℕ) (x y : ℕ) → Holds w s x → Holds w t y → ((j : ℕ) → get_or u j 0 ≡ minus (get_or s j 0) (get_or t j 0)) → Holds w u (minus x y)
  holds_minus s t u x y hs ht e = holds_by u (minus x y) (λ j. subst (λ (z : ℕ). z < 2 ^ w) (sym (e j)) (minus_lt w (get_or s j 0) (get_or t j 0) (hs.small j)))
      (λ r. ap (λ (z : ℕ). bit z (r % w)) (e (r / w)) ∙ minus_bit (get_or s (r / w) 0) (get_or t (r / w) 0) (r % w) ∙ ap₂ ◌-◌ (holds_bit s x hs r)
      (holds_bit t y ht r) ∙ sym (minus_bit x y r))

  -- ---- one word of a set is changed

  holds_set : (s : List ℕ) (x y q v : ℕ) → Holds w s x → q < length s → v < 2 ^ w → ((i : ℕ) → i < w → bit v i ≡ bit y (q * w + i))
      → ((r : ℕ) → r / w ≢ q → bit x r ≡ bit y r) → Holds w (set s q v) y
  holds_set s x y q v h fits lv here there = holds_by (set s q v) y (λ j. small j (ℕ_discrete j q)) (λ r. at r (ℕ_discrete (r / w) q))
    where
      small : (j : ℕ) → Dec (j ≡ q) → get_or (set s q v) j 0 < 2 ^ w
      small j (yes e) = subst (λ (z : ℕ). z < 2 ^ w) (sym (ap (λ (i : ℕ). get_or (set s q v) i 0) e ∙ get_or-set_same s q v 0 fits)) lv
      small j (no n) = subst (λ (z : ℕ). z < 2 ^ w) (sym (get_or-set_other s q j v 0 n)) (h.small j)

      at : (r : ℕ) → Dec (r / w ≡ q) → bit (get_or (set s q v) (r / w) 0) (r % w) ≡ bit y r
      at r (yes e) = ap (λ (z : ℕ). bit z (r % w)) (ap (λ (i : ℕ). get_or (set s q v) i 0) e ∙ get_or-set_same s q v 0 fits)
          ∙ here (r % w) (mod-lt r pos) ∙ ap (bit y) (ap (λ (z : ℕ). z * w + r % w) (sym e) ∙ div-add-mod' r w)
      at r (no n) = ap (λ (z : ℕ). bit z (r % w)) (get_or-set_other s q (r / w) v 0 n) ∙ holds_bit s x h r ∙ there r n

  -- a register's bit in its own word, and elsewhere
  pow_word : (a i : ℕ) → i < w → bit (2 ^ (a % w)) i ≡ bit (2 ^ a) (a / w * w + i)
  pow_word a i l = go (ℕ_discrete (a % w) i)
    where
      go : Dec (a % w ≡ i) → bit (2 ^ (a % w)) i ≡ bit (2 ^ a) (a / w * w + i)
      go (yes e) = rw (← e) (pow_here (a % w) ∙ sym (ap (bit (2 ^ a)) (div-add-mod' a w) ∙ pow_here a))
      go (no n) = pow_other (a % w) i n ∙ sym (pow_other a (a / w * w + i) (λ e. n (ap (λ (y : ℕ). y % w) e ∙ digits_mod (a / w) l)))

  pow_away : (a r : ℕ) → r / w ≢ a / w → bit (2 ^ a) r ≡ 0
  pow_away a r n = pow_other a r (λ e. n (ap (λ (y : ℕ). y / w) (sym e)))

  -- the machine's 1 << a % w
  pub one_shl : (a : ℕ) → (1 * 2 ^ (a % w)) % 2 ^ w ≡ 2 ^ (a % w)
  one_shl a = ap (λ (x : ℕ). x % 2 ^ w) (one-mul (2 ^ (a % w))) ∙ mod-eq_of_lt (pow-lt (mod-lt a pos))

  module _ (s : List ℕ) (x regs a : ℕ) (h : Holds w s x) (le : regs ≤ length s * w) where
    here : a < regs → alone regs a ≡ 2 ^ a
    here l = ap (λ (t : Bool). cond t (2 ^ a) 0) (lt-ltb a regs l)

    fits : a < regs → a / w < length s
    fits l = (div-lt_iff_lt-mul pos).1 (lt_of_lt_of_le l le)

    one_lt : 2 ^ (a % w) < 2 ^ w
    one_lt = pow-lt (mod-lt a pos)

    -- a set with register a
    pub with_in : a < regs → Holds w (set s (a / w) (bit_or (get_or s (a / w) 0) ((1 * 2 ^ (a % w)) % 2 ^ w))) (bit_or x (alone regs a))
    with_in l = rw (one_shl a, here l)
        (holds_set s x (bit_or x (2 ^ a)) (a / w) (bit_or (get_or s (a / w) 0) (2 ^ (a % w))) h (fits l) (or_lt w (get_or s (a / w) 0) (2 ^ (a % w))
        (h.small (a / w)) one_lt)
        (λ i li. or_bit (get_or s (a / w) 0) (2 ^ (a % w)) i ∙ ap₂ max (word_bit s x h (a / w) i li) (pow_word a i li) ∙ sym (or_bit x (2 ^ a) (a / w * w + i)))
        (λ r n. omega (arith, or_bit x (2 ^ a) r, pow_away a r n)))

    -- a set without register a
    pub without_in : a < regs → Holds w (set s (a / w) (minus (get_or s (a / w) 0) ((1 * 2 ^ (a % w)) % 2 ^ w))) (minus x (alone regs a))
    without_in l = rw (one_shl a, here l)
        (holds_set s x (minus x (2 ^ a)) (a / w) (minus (get_or s (a / w) 0) (2 ^ (a % w))) h (fits l) (minus_lt w (get_or s (a / w) 0) (2 ^ (a % w))
        (h.small (a / w)))
        (λ i li. minus_bit (get_or s (a / w) 0) (2 ^ (a % w)) i ∙ ap₂ ◌-◌ (word_bit s x h (a / w) i li) (pow_word a i li)
        ∙ sym (minus_bit x (2 ^ a) (a / w * w + i)))
        (λ r n. omega (arith, minus_bit x (2 ^ a) r, pow_away a r n)))
