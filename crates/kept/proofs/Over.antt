-- A lent buffer that begins with a list, which grows. Assumes nothing.
use mathlib.Core.Path.{◌≡◌, sym, ap, ap₂, ◌∙◌}
use mathlib.Core.List.{List, [], ◌∷◌, ◌++◌, append-nil}
use Prim.Native.Nat.{ℕ, ◌≤◌, ◌<◌}
use native.Mathlib.Nat.{add-zero}
use native.Mathlib.Omega.{arith}
use lib.ListN.{length, take, drop, set, length-append, length-drop}
use lib.Seq.{paste, paste-zero, paste-suc, take-append_seam, drop-append_seam, drop-drop}
use Rattle.kept.specs.Lists.{over}

module _ (l old : List ℕ) where
  pub over_long : length l ≤ length old → length (over l old) ≡ length old
  over_long h = omega (arith, length-append l (drop (length l) old), length-drop (length l) old)

  -- a list written right after it
  pub over_paste : (K : List ℕ) (m : ℕ) → m ≡ length l → paste (over l old) m K (length K) ≡ over (l ++ K) old
  over_paste K m e = ap (λ (x : ℕ). paste (over l old) x K (length K)) e ∙ ap₂ ◌++◌
      (ap₂ ◌++◌ (take-append_seam l (drop (length l) old)) (ap (take (length K)) (sym (append-nil K)) ∙ take-append_seam K []))
      (sym (drop-drop (length K) (length l) (over l old)) ∙ ap (drop (length K)) (drop-append_seam l (drop (length l) old)) ∙ drop-drop (length K)
      (length l) old
      ∙ ap (λ (x : ℕ). drop x old) (sym (length-append l K)))

  -- one more word
  pub over_set : (v k : ℕ) → k ≡ length l → k < length old → set (over l old) k v ≡ over (l ++ (v ∷ [])) old
  over_set v k e h =
      ap₂ (λ (d : List ℕ) (i : ℕ). set d i v) (paste-zero (over l old) k (v ∷ [])) (sym (add-zero k))
      ∙ paste-suc (over l old) k (v ∷ []) 0 0 (omega (arith, over_long (omega arith))) (omega arith)
      ∙ over_paste (v ∷ []) k e
