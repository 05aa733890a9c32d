-- The list of each position stands between its offset and the next. Assumes nothing.
use mathlib.Core.Path.{◌≡◌, sym, ap, ap₂, ◌∙◌}
use mathlib.Core.List.{List, [], ◌∷◌, ◌++◌, append_assoc, append-nil}
use Prim.Native.Nat.{ℕ, zero, suc, ◌+◌, ◌-◌, ◌<◌}
use native.Mathlib.Decide.{ℕ_discrete}
use native.Mathlib.Numerals.{add-one}
use native.Mathlib.Omega.{arith}
use lib.ListN.{length, get_or, take, drop, length-append, get_or-append}
use lib.Seq.{take-append_seam, drop-append_seam, get_or-append-add}
use Rattle.kept.specs.Level.{kept_at}
use Rattle.kept.specs.Lists.{lists_to, offsets_to, over, part_at}
use Rattle.kept.proofs.Passes.{offsets_long}

module _ (regs : ℕ) (w tries rows : List ℕ) where
  abbrev L : ℕ → List ℕ
  L = lists_to regs w tries rows

  abbrev O : ℕ → List ℕ
  O = offsets_to regs w tries rows

  abbrev one : ℕ → List ℕ
  one = kept_at regs w tries rows

  -- each offset is the length of all lists before
  pub offset_at : (n k : ℕ) → k < n → get_or (offsets_to regs w tries rows n) k 0 ≡ length (lists_to regs w tries rows k)
  unfolding offsets_to
  offset_at zero k l = absurd (omega arith)
  offset_at (suc n) k l = go (ℕ_discrete k n) (λ h. offset_at n k h)
    where
      last : k ≡ n → get_or (O n ++ (length (L n) ∷ [])) k 0 ≡ length (L k)
      last e =
          ap (λ (x : ℕ). get_or (O n ++ (length (L n) ∷ [])) x 0) (e ∙ plus (offsets_long regs w tries rows n))
          ∙ get_or-append-add (O n) (length (L n) ∷ []) 0 0 ∙ ap (λ (x : ℕ). length (L x)) (sym e)
        where
          plus : length (O n) ≡ n → n ≡ length (O n) + 0
          plus q = omega arith

      go : Dec (k ≡ n) → (k < n → get_or (O n) k 0 ≡ length (L k)) → get_or (O n ++ (length (L n) ∷ [])) k 0 ≡ length (L k)
      go (yes e) rec = last e
      go (no ne) rec = get_or-append (O n) (length (L n) ∷ []) 0 k (omega (arith, offsets_long regs w tries rows n)) ∙ rec (omega arith)

  -- the list of k, between those before and those after
  split : (n k : ℕ) → k < n → (rest : List ℕ) × (lists_to regs w tries rows n ≡ lists_to regs w tries rows k ++ (kept_at regs w tries rows k ++ rest))
  unfolding lists_to
  split zero k l = absurd (omega arith)
  split (suc n) k l = go (ℕ_discrete k n) (λ h. split n k h)
    where
      go : Dec (k ≡ n) → (k < n → (rest : List ℕ) × (L n ≡ L k ++ (one k ++ rest))) → (rest : List ℕ) × (L n ++ one n ≡ L k ++ (one k ++ rest))
      go (yes e) rec = ([], ap (λ (x : ℕ). L x ++ one x) (sym e) ∙ ap (λ (x : List ℕ). L k ++ x) (sym (append-nil (one k))))
      go (no ne) rec =
          let (rest, q) = rec (omega arith) in (
            rest ++ one n,
            ap (λ (x : List ℕ). x ++ one n) q ∙ append_assoc (L k) (one k ++ rest) (one n) ∙ ap (λ (x : List ℕ). L k ++ x)
                (append_assoc (one k) rest (one n)),
          )

  -- offsets[k]..offsets[k + 1] is the list of k
  pub part_is : (n k : ℕ) (offsets list : List ℕ) → k < n → part_at (over (offsets_to regs w tries rows (suc n)) offsets)
      (over (lists_to regs w tries rows n) list) k ≡ kept_at regs w tries rows k
  unfolding lists_to
  part_is n k offsets list l =
      ap₂ (λ (a b : ℕ). take (a - b) (drop b (over (L n) list))) (there (k + 1) (omega arith) ∙ ap (λ (x : ℕ). length (L x)) (add-one k))
      (there k (omega arith))
      ∙ ap₂ (λ (d : ℕ) (x : List ℕ). take d x) size (ap (λ (x : List ℕ). drop (length (L k)) (x ++ drop (length (L n)) list)) (q) ∙ ap (drop (length (L k)))
      (append_assoc (L k) (one k ++ rest) (drop (length (L n)) list)) ∙ drop-append_seam (L k) ((one k ++ rest) ++ drop (length (L n)) list) ∙ append_assoc
      (one k) rest (drop (length (L n)) list))
      ∙ take-append_seam (one k) (rest ++ drop (length (L n)) list)
    where
      there : (j : ℕ) → j < suc n → get_or (over (O (suc n)) offsets) j 0 ≡ length (L j)
      there j h = get_or-append (O (suc n)) (drop (length (O (suc n))) offsets) 0 j (omega (arith, offsets_long regs w tries rows (suc n)))
          ∙ offset_at (suc n) j h

      rest : List ℕ
      rest = (split n k l).0

      q : L n ≡ L k ++ (one k ++ rest)
      q = (split n k l).1

      size : length (L (suc k)) - length (L k) ≡ length (one k)
      size = omega (arith, length-append (L k) (one k))
