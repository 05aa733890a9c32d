-- A list written piece by piece: of L, `rest` is left. Assumes nothing.
use mathlib.Core.Path.{◌≡◌, refl, sym, ap, ap₂, ◌∙◌, subst}
use mathlib.Core.List.{List, [], ◌∷◌, ◌++◌, append_assoc, append-nil}
use Prim.Native.Nat.{ℕ, suc, ◌+◌, ◌≤◌, ◌<◌, zero-le}
use native.Mathlib.Nat.{le_refl, add_assoc, add-zero}
use native.Mathlib.Numerals.{add-one}
use native.Mathlib.Omega.{arith}
use lib.ListN.{length, get_or, take, drop, set, length-drop, length-append}
use lib.Seq.{paste, paste-zero, paste-suc, length-paste, take-paste, drop-paste, take-take, take-add, take-append_seam, drop-append_seam, drop-drop, get_or-drop}
use Rattle.flow.specs.Inner.{Listing}

paste_paste : (d : List ℕ) (at : ℕ) (L : List ℕ) (m n : ℕ) → at + length L ≤ length d → m + n ≤ length L → paste (paste d at L m) (at + m) (take n (drop m L)) n
    ≡ paste d at L (m + n)
paste_paste d at L m n fits le =
    ap₂ (λ (x y : List ℕ). x ++ take n (take n (drop m L)) ++ y) (take-paste d at L m (omega arith) (omega arith)) tail
    ∙ ap (λ (x : List ℕ). (take at d ++ take m L) ++ x ++ drop (at + (m + n)) d) (take-take n n (drop m L) (le_refl n))
    ∙ ap (λ (x : List ℕ). x ++ drop (at + (m + n)) d) (append_assoc (take at d) (take m L) (take n (drop m L)) ∙ ap (λ (x : List ℕ). take at d ++ x)
    (sym (take-add m n L)))
  where
    tail : drop (at + m + n) (paste d at L m) ≡ drop (at + (m + n)) d
    tail = sym (drop-drop n (at + m) (paste d at L m)) ∙ ap (drop n) (drop-paste d at L m (omega arith) (omega arith)) ∙ drop-drop n (at + m) d
        ∙ ap (λ (x : ℕ). drop x d) (add_assoc at m n)

-- L is being written from `at` on; out is what it has come to, n the next place
pub record Written (L old : List ℕ) (at : ℕ) (out : List ℕ) (n : ℕ) (rest : List ℕ) : Type 0 where
  pub found : ℕ
  pub here : n ≡ at + found
  pub left : drop found L ≡ rest
  pub within : found ≤ length L
  pub put : out ≡ paste old at L found

module _ (L old : List ℕ) (at : ℕ) where
  pub written_start : (rest : List ℕ) → L ≡ rest → Written L old at old at rest
  written_start rest e = record { found = 0; here = sym (add-zero at); left = e; within = zero-le; put = paste-zero old at L }

  pub written_as : (out : List ℕ) (n : ℕ) (rest rest' : List ℕ) → Written L old at out n rest → rest ≡ rest' → Written L old at out n rest'
  written_as out n rest rest' h e = subst (λ (r : List ℕ). Written L old at out n r) e h

  module _ (out : List ℕ) (n : ℕ) (rest : List ℕ) (h : Written L old at out n rest) (fits : at + length L ≤ length old) where
    pub written_long : length out ≡ length old
    written_long = ap length h.put ∙ length-paste old at L h.found (omega (arith, h.within)) h.within

    pub written_end : rest ≡ [] → Listing L old at out n
    written_end e = record { past = h.here ∙ ap (λ (x : ℕ). at + x) all; put = h.put ∙ ap (paste old at L) all }
      where
        all : h.found ≡ length L
        all = omega (arith, ap length (h.left ∙ e), length-drop h.found L, h.within)

    module _ (K more : List ℕ) (split : rest ≡ K ++ more) where
      pub written_room : n + length K ≤ length out
      written_room = omega (arith, written_long, h.here, ap length (h.left ∙ split), length-drop h.found L, length-append K more, h.within)

      pub written_more : (out' : List ℕ) (n' : ℕ) → Listing K out n out' n' → Written L old at out' n' more
      written_more out' n' a = record {
        found = h.found + length K;
        here = a.past ∙ ap (λ (x : ℕ). x + length K) h.here ∙ add_assoc at h.found (length K);
        left = sym (drop-drop (length K) h.found L) ∙ ap (drop (length K)) (h.left ∙ split) ∙ drop-append_seam K more;
        within = bound;
        put = a.put ∙ ap₂ (λ (o : List ℕ) (i : ℕ). paste o i K (length K)) h.put h.here
            ∙ ap (λ (k : List ℕ). paste (paste old at L h.found) (at + h.found) k (length K)) first
            ∙ paste_paste old at L h.found (length K) fits bound;
      }
        where
          bound : h.found + length K ≤ length L
          bound = omega (arith, ap length (h.left ∙ split), length-drop h.found L, length-append K more, h.within)

          first : K ≡ take (length K) (drop h.found L)
          first = sym (take-append_seam K more) ∙ ap (take (length K)) (sym (h.left ∙ split))

    -- one element more
    module _ (x : ℕ) (more : List ℕ) (split : rest ≡ x ∷ more) where
      under : h.found < length L
      under = omega (arith, ap length (h.left ∙ split), length-drop h.found L)

      pub written_next : n < length out
      written_next = omega (arith, written_long, h.here, under)

      pub written_one : Written L old at (set out n x) (n + 1) more
      written_one = record {
        found = suc h.found;
        here = omega (arith, h.here);
        left = ap (λ (y : ℕ). drop y L) (sym (add-one h.found)) ∙ sym (drop-drop 1 h.found L) ∙ ap (drop 1) (h.left ∙ split);
        within = under;
        put = ap₂ (λ (l : List ℕ) (i : ℕ). set l i x) h.put h.here
            ∙ ap (λ (v : ℕ). set (paste old at L h.found) (at + h.found) v) (sym head)
            ∙ paste-suc old at L h.found 0 (omega (arith, under)) under;
      }
        where
          head : get_or L h.found 0 ≡ x
          head = ap (λ (y : ℕ). get_or L y 0) (sym (add-zero h.found)) ∙ sym (get_or-drop h.found L 0 0) ∙ ap (λ (l : List ℕ). get_or l 0 0) (h.left ∙ split)

-- two lists written one after the other
pub listing_append : (A B old mid out : List ℕ) (m p q : ℕ) → m + length (A ++ B) ≤ length old → Listing A old m mid p → Listing B mid p out q
    → Listing (A ++ B) old m out q
listing_append A B old mid out m p q fits a b =
    written_end L old m out q [] (written_more L old m mid p B first fits B [] (sym (append-nil B)) out q b) fits refl
  where
    L : List ℕ
    L = A ++ B

    first : Written L old m mid p B
    first = written_more L old m old m L (written_start L old m L refl) fits A B refl mid p a
