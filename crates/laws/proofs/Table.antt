-- Laws of `filled_to` and `cleared_to`, for a loop over the first m words of a lent list. Assumes nothing.
use mathlib.Core.Path.{◌≡◌, refl, sym, ap, ◌∙◌}
use mathlib.Core.Logic.{⊎_elim}
use mathlib.Core.List.{List, [], ◌∷◌, ◌++◌}
use Prim.Native.Nat.{ℕ, zero, suc, ◌+◌, ◌<◌, ◌≤◌}
use native.Mathlib.Nat.{eq-or-lt_of_le}
use native.Mathlib.Omega.{arith}
use lib.ListN.{length, set, get_or, take, drop, replicate, length-append, length-replicate, length-drop, take-append-drop, get_or-replicate, get_or-append}
use lib.Seq.{drop_at, ext_get_or, get_or-take, length-take-le, get_or_at}
use borrow.Author.Fill.{fill_more}
use Rattle.laws.specs.Table.{table, filled_to, cleared_to, Held}

module _ (f : ℕ → ℕ) where
  pub table_length : (m : ℕ) → length (table f m) ≡ m
  unfolding table
  table_length zero = refl
  table_length (suc m) = simp (length-append, table_length m) (omega arith)

  table_at : (m p : ℕ) → p < m → get_or (table f m) p 0 ≡ f p
  unfolding table
  table_at zero p h = absurd (omega arith)
  table_at (suc m) p h =
      ⊎_elim
      (λ q. rw q (get_or_at (table f m) (f m) [] 0 m (table_length m)))
      (λ q. get_or-append (table f m) (f m ∷ []) 0 p (rw (table_length m) q) ∙ table_at m p q)
      (eq-or-lt_of_le (le_of p m h))
    where
      le_of : (p m : ℕ) → p < suc m → p ≤ m
      le_of p m h = omega arith

  -- each word by itself
  pub filled_by : (m : ℕ) (l₀ l : List ℕ) → m ≤ length l₀ → Held m l₀ l → ((p : ℕ) → p < m → get_or l p 0 ≡ f p) → l ≡ filled_to f m l₀
  filled_by m l₀ l h k each =
      let n : m ≤ length l = omega (arith, k.same) in
      let t : length (take m l) ≡ m = length-take-le m l n in
      let e : take m l ≡ table f m =
      ext_get_or 0 (take m l) (table f m) (t ∙ sym (table_length m))
      (λ p q. let r : p < m = omega (arith, t) in get_or-take m l p 0 r ∙ each p r ∙ sym (table_at m p r))
      in
      sym (take-append-drop m l) ∙ rw (e, k.tail)

module _ (m : ℕ) (l : List ℕ) where
  pub cleared_tail : drop m (cleared_to m l) ≡ drop m l
  cleared_tail = drop_at (replicate m 0) (drop m l) m (length-replicate m 0)

  pub cleared_length : m ≤ length l → length (cleared_to m l) ≡ length l
  cleared_length h = simp (length-append, length-replicate, length-drop) (omega arith)

  pub cleared_at : (p : ℕ) → p < m → get_or (cleared_to m l) p 0 ≡ 0
  cleared_at p h =
      let n : p < length {A = ℕ} (replicate m 0) = rw (length-replicate {A = ℕ} m 0) h in
      get_or-append (replicate m 0) (drop m l) 0 p n ∙ get_or-replicate m p 0 0 h

  pub cleared_twice : cleared_to m (cleared_to m l) ≡ cleared_to m l
  cleared_twice = ap (λ (x : List ℕ). replicate m 0 ++ x) cleared_tail

-- a loop that clears the first m of d, k of them so far
module _ (d o : List ℕ) (k m : ℕ) where
  pub fill_on : k < m → m ≤ length d → o ≡ replicate k 0 ++ drop k d → set o k 0 ≡ replicate (k + 1) 0 ++ drop (k + 1) d
  fill_on h l e = rw e (fill_more k 0 d (omega arith))

  pub fill_done : m ≤ k → k ≤ m → o ≡ replicate k 0 ++ drop k d → o ≡ replicate m 0 ++ drop m d
  fill_done h l e = let q : k ≡ m = omega arith in rw q at e

pub ruleset fills = (fill_on, fill_done)
