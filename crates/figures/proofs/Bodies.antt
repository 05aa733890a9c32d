-- Reports of two groups joined equal the report of all. Assumes nothing.
use mathlib.Core.Path.{◌≡◌, refl, sym, ap, ap₂, ◌∙◌}
use mathlib.Core.List.{List, [], ◌∷◌, ◌++◌, append-nil, append_assoc}
use Prim.Native.Nat.{ℕ, suc, ◌+◌}
use native.Mathlib.Nat.{zero-add, suc-add, add-zero, add-suc, add_assoc}
use lib.ListN.{length, length-append}
use Rattle.code.specs.Ins.{count}
use Rattle.groups.specs.Groups.{Met, met, figures_of, join_of, moved}
use Rattle.groups.proofs.Groups.{join_law}
use Rattle.figures.specs.Figures.{levels_to, body_figures}
use Rattle.figures.specs.Month.{Body, met_from, report_of}

moved_append : (n : ℕ) (xs ys : List Met) → moved n (xs ++ ys) ≡ moved n xs ++ moved n ys
unfolding moved
moved_append n [] ys = refl
moved_append n (x ∷ xs) ys = ap (λ (l : List Met). met (n + x.body) x.at x.len ∷ l) (moved_append n xs ys)

moved_moved : (n m : ℕ) (xs : List Met) → moved n (moved m xs) ≡ moved (n + m) xs
unfolding moved
moved_moved n m [] = refl
moved_moved n m (x ∷ xs) = ap₂ (λ (b : ℕ) (l : List Met). met b x.at x.len ∷ l) (sym (add_assoc n m x.body)) (moved_moved n m xs)

moved_none : (xs : List Met) → moved 0 xs ≡ xs
unfolding moved
moved_none [] = refl
moved_none (x ∷ xs) = ap₂ (λ (b : ℕ) (l : List Met). met b x.at x.len ∷ l) (zero-add x.body) (moved_none xs)

met_moved : (n b : ℕ) (xs : List Body) → met_from (n + b) xs ≡ moved n (met_from b xs)
unfolding met_from moved
met_moved n b [] = refl
met_moved n b (x ∷ xs) =
    ap₂ ◌++◌ (sym (moved_moved n b here)) (ap (λ (k : ℕ). met_from k xs) (sym (add-suc n b)) ∙ met_moved n (suc b) xs)
    ∙ sym (moved_append n (moved b here) (met_from (suc b) xs))
  where
    here : List Met
    here = levels_to x.code x.offsets (count x.code)

met_append : (b : ℕ) (xs ys : List Body) → met_from b (xs ++ ys) ≡ met_from b xs ++ met_from (b + length xs) ys
unfolding met_from
met_append b [] ys = ap (λ (k : ℕ). met_from k ys) (sym (add-zero b))
met_append b (x ∷ xs) ys =
    ap (λ (l : List Met). moved b here ++ l)
    (met_append (suc b) xs ys ∙ ap (λ (k : ℕ). met_from (suc b) xs ++ met_from k ys) (suc-add b (length xs) ∙ sym (add-suc b (length xs))))
    ∙ sym (append_assoc (moved b here) (met_from (suc b) xs) (met_from (b + suc (length xs)) ys))
  where
    here : List Met
    here = levels_to x.code x.offsets (count x.code)

-- reports of two groups joined equal the report of all
pub report_join : (xs ys : List Body) → join_of (report_of xs) (report_of ys) ≡ report_of (xs ++ ys)
unfolding report_of
report_join xs ys =
    join_law (length xs) (length ys) (met_from 0 xs) (met_from 0 ys)
    ∙ ap₂ (λ (k : ℕ) (l : List Met). figures_of k l) (sym (length-append xs ys))
    (ap (λ (l : List Met). met_from 0 xs ++ l) (sym (met_moved (length xs) 0 ys) ∙ ap (λ (k : ℕ). met_from k ys)
    (add-zero (length xs) ∙ sym (zero-add (length xs)))) ∙ sym (met_append 0 xs ys))

-- one body by itself
pub report_one : (x : Body) → body_figures x.code x.offsets ≡ report_of (x ∷ [])
unfolding report_of body_figures met_from
report_one x = sym (ap (figures_of 1) (append-nil (moved 0 here) ∙ moved_none here))
  where
    here : List Met
    here = levels_to x.code x.offsets (count x.code)
