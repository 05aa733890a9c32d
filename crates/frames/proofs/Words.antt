-- The words of an entry: what is put aside comes back. Assumes nothing.
use mathlib.Core.Path.{◌≡◌, refl, sym, ap, ap₂, ◌∙◌, subst}
use mathlib.Core.Logic.{⊎_elim, ◌≢◌}
use mathlib.Core.Bool.{Bool, true, false, cond}
use mathlib.Core.List.Memᴰ
use mathlib.Core.List.{List, [], ◌∷◌, ◌++◌, append_assoc, Memᴰ}
use Prim.Native.Nat.{ℕ, suc, ◌+◌, ◌*◌, ◌≤◌, ◌<◌}
use native.Mathlib.Decide.{ℕ_discrete}
use native.Mathlib.Omega.{arith}
use borrow.Author.Tests.{lt-ltb}
use lib.Dec.{ltb}
use lib.ListN.{length, get_or, set, length-set, length-append}
use lib.Seq.{get_or-set_same, get_or-set_other, get_or_at}
use Rattle.area.specs.Area.{pairs_of, entry_of, put_in, put_back}
use Rattle.leaves.specs.Leaving.{Back, returned, thrown, result_written}
use Rattle.frames.specs.Inner.{restored}

pub pairs_length : (file l : List ℕ) → length (pairs_of file l) ≡ 2 * length l
unfolding pairs_of
pairs_length file [] = refl
pairs_length file (r ∷ l) = let e = pairs_length file l in omega arith

-- exactly twice the list plus two
pub entry_length : (file l : List ℕ) (q : ℕ) → length (entry_of file l q) ≡ 2 * length l + 2
unfolding entry_of
entry_length file l q = length-append (pairs_of file l) (length l ∷ q ∷ []) ∙ ap (λ (n : ℕ). n + 2) (pairs_length file l)

module _ (regs : ℕ) where
  pub in_length : (r v : ℕ) (file : List ℕ) → length (put_in regs r v file) ≡ length file
  in_length r v file = go (ltb r regs)
    where
      go : (t : Bool) → length (cond t (set file r v) file) ≡ length file
      go true = length-set file r v
      go false = refl

  pub in_same : (r v : ℕ) (file : List ℕ) → r < regs → regs ≤ length file → get_or (put_in regs r v file) r 0 ≡ v
  in_same r v file l h = ap (λ (t : Bool). get_or (cond t (set file r v) file) r 0) (lt-ltb r regs l) ∙ get_or-set_same file r v 0 (omega arith)

  pub in_other : (r v : ℕ) (file : List ℕ) (p : ℕ) → p ≢ r → get_or (put_in regs r v file) p 0 ≡ get_or file p 0
  in_other r v file p n = go (ltb r regs)
    where
      go : (t : Bool) → get_or (cond t (set file r v) file) p 0 ≡ get_or file p 0
      go true = get_or-set_other file r p v 0 n
      go false = refl

  pub back_length : (f l g : List ℕ) → length (restored regs f l g) ≡ length g
  unfolding restored
  back_length f [] g = refl
  back_length f (r ∷ l) g = back_length f l (put_in regs r (get_or f r 0) g) ∙ in_length r (get_or f r 0) g

  -- one that holds its old value keeps it
  back_held : (f l g : List ℕ) (p : ℕ) → p < regs → regs ≤ length g → get_or g p 0 ≡ get_or f p 0 → get_or (restored regs f l g) p 0 ≡ get_or f p 0
  unfolding restored
  back_held f [] g p h k e = e
  back_held f (r ∷ l) g p h k e = back_held f l (put_in regs r (get_or f r 0) g) p h (omega (arith, in_length r (get_or f r 0) g)) (at (ℕ_discrete p r))
    where
      at : Dec (p ≡ r) → get_or (put_in regs r (get_or f r 0) g) p 0 ≡ get_or f p 0
      at (yes q) = subst (λ (x : ℕ). get_or (put_in regs r (get_or f r 0) g) x 0 ≡ get_or f x 0) (sym q) (in_same r (get_or f r 0) g (subst (λ (x : ℕ). x < regs) q h) k)
      at (no q) = in_other r (get_or f r 0) g p q ∙ e

  -- a listed one has it again, whatever stood there
  pub back_kept : (f l g : List ℕ) (p : ℕ) → Memᴰ p l → p < regs → regs ≤ length g → get_or (restored regs f l g) p 0 ≡ get_or f p 0
  unfolding restored
  back_kept f [] g p m h k = absurd (Memᴰ.not-nil m)
  back_kept f (r ∷ l) g p m h k = ⊎_elim
      (λ e. back_held f l next p h long (subst (λ (x : ℕ). get_or next x 0 ≡ get_or f x 0) (sym e) (in_same r (get_or f r 0) g (subst (λ (x : ℕ). x < regs) e h) k)))
      (λ m'. back_kept f l next p m' h long) (Memᴰ.cases_cons m)
    where
      next : List ℕ
      next = put_in regs r (get_or f r 0) g

      long : regs ≤ length next
      long = omega (arith, in_length r (get_or f r 0) g)

  pub written_length : (q : ℕ) (b : Back) (g : List ℕ) → length (result_written regs q b g) ≡ length g
  written_length q (returned v) g = in_length q v g
  written_length q thrown g = refl

  -- what an entry put aside is put back, wherever it stands
  pub back_is : (f l g pre tail : List ℕ) → put_back regs (pre ++ (pairs_of f l ++ tail)) (length pre) (length l) g ≡ restored regs f l g
  unfolding put_back restored pairs_of
  back_is f [] g pre tail = refl
  back_is f (r ∷ l) g pre tail =
      ap₂ (λ (x y : ℕ). put_back regs A (suc (suc (length pre))) (length l) (put_in regs x y g)) number value
      ∙ ap₂ (λ (a : List ℕ) (p : ℕ). put_back regs a p (length l) (put_in regs r (get_or f r 0) g)) apart past
      ∙ back_is f l (put_in regs r (get_or f r 0) g) (pre ++ (r ∷ get_or f r 0 ∷ [])) tail
    where
      A : List ℕ
      A = pre ++ (r ∷ get_or f r 0 ∷ (pairs_of f l ++ tail))

      number : get_or A (length pre) 0 ≡ r
      number = get_or_at pre r (get_or f r 0 ∷ (pairs_of f l ++ tail)) 0 (length pre) refl

      apart : A ≡ (pre ++ (r ∷ get_or f r 0 ∷ [])) ++ (pairs_of f l ++ tail)
      apart = sym (append_assoc pre (r ∷ get_or f r 0 ∷ []) (pairs_of f l ++ tail))

      value : get_or A (suc (length pre)) 0 ≡ get_or f r 0
      value = ap (λ (x : List ℕ). get_or x (suc (length pre)) 0) (sym (append_assoc pre (r ∷ []) (get_or f r 0 ∷ (pairs_of f l ++ tail))))
          ∙ get_or_at (pre ++ (r ∷ [])) (get_or f r 0) (pairs_of f l ++ tail) 0 (suc (length pre)) (omega (arith, length-append pre (r ∷ [])))

      past : suc (suc (length pre)) ≡ length (pre ++ (r ∷ get_or f r 0 ∷ []))
      past = omega (arith, length-append pre (r ∷ get_or f r 0 ∷ []))
