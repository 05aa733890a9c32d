-- Loops over the words of one row: read, joined to a set, stored. Assumes nothing.
use mathlib.Core.Path.{◌≡◌, refl, sym, ap, ◌∙◌}
use mathlib.Core.Logic.{⊎_elim, inl, inr}
use mathlib.Core.List.{List}
use mathlib.Core.Bool.{Bool, false, not, cond, ◌||◌, false≢true}
use Prim.Native.Nat.{ℕ, ◌+◌, ◌≤◌, ◌<◌, zero-le}
use native.Mathlib.Nat.{le_refl}
use native.Mathlib.Decide.{ℕ_discrete, dec_lt}
use native.Mathlib.Omega.{arith}
use borrow.Author.Tests.{lt-ltb, le-ltb, eqb-true, eqb-false, not-true, not-false}
use lib.Bits.{bit_or, or_zero_r}
use lib.Dec.{ltb, eqb}
use lib.ListN.{length, get_or, take, drop, set, length-set}
use lib.Seq.{get_or-set_same, get_or-set_other, set-get_or}
use Rattle.laws.proofs.Branch.{or_false, or_true}
use Rattle.flow.specs.Words.{value, Small}
use Rattle.flow.specs.Inner.{Holds, WordsStored}
use Rattle.flow.proofs.Words.{holds_or}
use Rattle.flow.proofs.Buffer.{window_in, window_past, small_window}

-- the first j entries are A's, the others B's
abbrev pub Front : (ℕ → ℕ) → (ℕ → ℕ) → ℕ → List ℕ → Type 0
Front A B j s = (i : ℕ) → get_or s i 0 ≡ cond (ltb i j) (A i) (B i)

module _ (A B : ℕ → ℕ) where
  pub front_in : (i j : ℕ) → i < j → cond (ltb i j) (A i) (B i) ≡ A i
  front_in i j l = ap (λ (t : Bool). cond t (A i) (B i)) (lt-ltb i j l)

  pub front_past : (i j : ℕ) → j ≤ i → cond (ltb i j) (A i) (B i) ≡ B i
  front_past i j l = ap (λ (t : Bool). cond t (A i) (B i)) (le-ltb i j l)

  pub front_none : (s : List ℕ) → ((i : ℕ) → get_or s i 0 ≡ B i) → Front A B 0 s
  front_none s h i = h i ∙ sym (front_past i 0 zero-le)

  -- what is still to be filled
  pub front_rest : (j : ℕ) (s : List ℕ) → Front A B j s → get_or s j 0 ≡ B j
  front_rest j s h = h j ∙ front_past j j (le_refl j)

  pub front_more : (j v : ℕ) (s : List ℕ) → Front A B j s → j < length s → v ≡ A j → Front A B (j + 1) (set s j v)
  front_more j v s h l e i = go (ℕ_discrete i j) (dec_lt i j)
    where
      go : Dec (i ≡ j) → Dec (i < j) → get_or (set s j v) i 0 ≡ cond (ltb i (j + 1)) (A i) (B i)
      go (yes q) d = ap (λ (x : ℕ). get_or (set s j v) x 0) q ∙ get_or-set_same s j v 0 l ∙ e ∙ ap A (sym q) ∙ sym (front_in i (j + 1) (omega arith))
      go (no n) (yes d) = get_or-set_other s j i v 0 n ∙ h i ∙ front_in i j d ∙ sym (front_in i (j + 1) (omega arith))
      go (no n) (no d) = get_or-set_other s j i v 0 n ∙ h i ∙ front_past i j (omega arith) ∙ sym (front_past i (j + 1) (omega arith))

module _ (w : ℕ) (pos : 0 < w) (words at : ℕ) (buf : List ℕ) (sb : Small w buf) where
  here : Holds w (take words (drop at buf)) (value w (take words (drop at buf)))
  here = record { small = small_window w words at buf sb; is = refl }

  -- a row that was joined to a set
  pub joined_row : (s u : List ℕ) (x : ℕ) → Holds w s x → Front (λ i. bit_or (get_or s i 0) (get_or buf (at + i) 0)) (λ i. get_or s i 0) words u
      → Holds w u (bit_or x (value w (take words (drop at buf))))
  joined_row s u x hs h = holds_or w pos s (take words (drop at buf)) u x (value w (take words (drop at buf))) hs here (λ i. go i (dec_lt i words))
    where
      A : ℕ → ℕ
      A i = bit_or (get_or s i 0) (get_or buf (at + i) 0)

      go : (i : ℕ) → Dec (i < words) → get_or u i 0 ≡ bit_or (get_or s i 0) (get_or (take words (drop at buf)) i 0)
      go i (yes l) = h i ∙ front_in A (λ j. get_or s j 0) i words l ∙ ap (bit_or (get_or s i 0)) (sym (window_in words at buf i l))
      go i (no n) = h i ∙ front_past A (λ j. get_or s j 0) i words (omega arith) ∙ sym (ap (bit_or (get_or s i 0)) (window_past words at buf i (omega arith))
          ∙ or_zero_r (get_or s i 0))

-- a row that is being stored
module _ (buf : List ℕ) (at : ℕ) (s : List ℕ) where
  pub stored_none : WordsStored buf at 0 s buf false
  stored_none = record { long = refl; kept = λ x h. refl; new = λ j l. absurd (omega arith); quiet = λ e. refl; loud = λ e. absurd (false≢true e) }

  pub stored_more : (j : ℕ) (out : List ℕ) (changed : Bool) → at + j < length out → WordsStored buf at j s out changed
      → WordsStored buf at (j + 1) s (set out (at + j) (get_or s j 0)) (not (eqb (get_or out (at + j) 0) (get_or s j 0)) || changed)
  stored_more j out changed l p = record {
    long = length-set out (at + j) v ∙ p.long;
    kept = λ x h. get_or-set_other out (at + j) x v 0 (⊎_elim (λ a e. omega arith) (λ a e. omega arith) h)
        ∙ p.kept x (⊎_elim (λ a. inl a) (λ a. inr (omega arith)) h);
    new = λ i h. cell i h (ℕ_discrete i j);
    quiet = λ e. let w = or_false (not (eqb old v)) changed e in
        ap (λ (x : ℕ). set out (at + j) x) (sym (eqb-true old v (not-false (eqb old v) w.0))) ∙ set-get_or out (at + j) 0 ∙ p.quiet w.1;
    loud = λ e. ⊎_elim
        (λ t. (j, omega arith, λ h. eqb-false old v (not-true (eqb old v) t) (p.kept (at + j) (inr (le_refl (at + j))) ∙ h)))
        (λ t. let w = p.loud t in (w.0, omega (arith, w.1), w.2)) (or_true (not (eqb old v)) changed e);
  }
    where
      v : ℕ
      v = get_or s j 0

      old : ℕ
      old = get_or out (at + j) 0

      cell : (i : ℕ) → i < j + 1 → Dec (i ≡ j) → get_or (set out (at + j) v) (at + i) 0 ≡ get_or s i 0
      cell i h (yes e) = rw e (get_or-set_same out (at + j) v 0 l)
      cell i h (no n) = get_or-set_other out (at + j) (at + i) v 0 (λ e. n (omega arith)) ∙ p.new i (omega arith)
