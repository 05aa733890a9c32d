-- What the calls answer is the report of all bodies added so far. Assumes nothing.
use mathlib.Core.Path.{◌≡◌, refl, sym, ap, ◌∙◌}
use mathlib.Core.Bool.{Bool, true, false, cond}
use mathlib.Core.List.{List, [], ◌∷◌, ◌++◌}
use Prim.Native.Nat.{ℕ, zero, suc, ◌+◌, ◌-◌, ◌≤◌, zero-le}
use native.Mathlib.Omega.{arith}
use borrow.Author.Tests.{ltb-false, ltb-true}
use lib.Dec.{ltb, eqb}
use lib.ListN.{length, get_or}
use Rattle.code.specs.Ins.{count, ins_at}
use Rattle.code.specs.Check.{check_of}
use Rattle.refusals.specs.Stages.{Checked}
use Rattle.std.specs.declared.result.Result.TheVariants.{Ok, Err}
use Rattle.steps.specs.Level.{is_level}
use Rattle.groups.specs.declared.Figures.{Figures}
use Rattle.groups.specs.declared.FiguresRefusal.TheVariants.{Call, Offsets, Over}
use Rattle.groups.specs.declared.Total.TheVariants.{Bodies, Levels, Kept, Body as BodyNumber}
use Rattle.refusals.specs.declared.Refusal.TheVariants.{Short}
use Rattle.groups.specs.Groups.{Met, met, first_at, longest_of, figures_of, join_of, most, sums_of, moved}
use Rattle.offsets.specs.Offsets.{first_wrong}
use Rattle.offsets.specs.Inner.{Right}
use Rattle.figures.specs.Figures.{levels_to, len_at, body_figures, placed_of, after_check, body_of}
use Rattle.figures.specs.Month.{Body, met_from, report_of}
use Rattle.figures.proofs.Bodies.{report_join, report_one}
use Rattle.figures.proofs.Calls.{sum_is}

-- an answer is the groups joined
sums_is : (f g r : Figures) → sums_of f g ≡ Ok r → r ≡ join_of f g
unfolding sums_of
sums_is f g r e = go (ltb (most - f.bodies) g.bodies) (ltb (most - f.levels) g.levels) (ltb (most - f.kept) g.kept)
    (ltb (most - f.bodies) g.body) e
  where
    go : (a b c d : Bool) → cond a (Err (Over Bodies)) (cond b (Err (Over Levels)) (cond c (Err (Over Kept)) (cond d (Err (Over BodyNumber)) (Ok (join_of f g))))) ≡ Ok r → r ≡ join_of f g
    go true b c d h = let z : ◌≡◌ {A = ℕ} 0 1 = cc in absurd (omega arith)
    go false true c d h = let z : ◌≡◌ {A = ℕ} 0 1 = cc in absurd (omega arith)
    go false false true d h = let z : ◌≡◌ {A = ℕ} 0 1 = cc in absurd (omega arith)
    go false false false true h = let z : ◌≡◌ {A = ℕ} 0 1 = cc in absurd (omega arith)
    go false false false false h = cc

-- two reports joined are the report of all
pub months : (xs ys : List Body) (r : Figures) → sums_of (report_of xs) (report_of ys) ≡ Ok r → r ≡ report_of (xs ++ ys)
months xs ys r e = sums_is (report_of xs) (report_of ys) r e ∙ report_join xs ys

-- a body that is not refused has the figures of its lists
pub body_is : (w o : List ℕ) (len : ℕ) (g : Figures) → body_of w o len ≡ Ok g → g ≡ body_figures w o
unfolding body_of placed_of
body_is w o len g e = go (check_of w) e
  where
    last : (a b : Bool) → cond a (Err (Call (Short 1 (count w + 1)))) (cond b (Err (Offsets (first_wrong w o len))) (Ok (body_figures w o))) ≡ Ok g → g ≡ body_figures w o
    last true b h = let z : ◌≡◌ {A = ℕ} 0 1 = cc in absurd (omega arith)
    last false true h = let z : ◌≡◌ {A = ℕ} 0 1 = cc in absurd (omega arith)
    last false false h = cc

    go : (v : Checked) → after_check w o len v ≡ Ok g → g ≡ body_figures w o
    go (Err q) h = let z : ◌≡◌ {A = ℕ} 0 1 = cc in absurd (omega arith)
    go (Ok n) h = last (ltb (length o) (count w + 1)) (ltb (first_wrong w o len) (count w + 1)) h

-- a body added to a report: the report of all
pub added : (xs : List Body) (w o : List ℕ) (len : ℕ) (g r : Figures) → body_of w o len ≡ Ok g → sums_of (report_of xs) g ≡ Ok r
    → r ≡ report_of (xs ++ (record { code = w; offsets = o } ∷ []))
added xs w o len g r e h = months xs (record { code = w; offsets = o } ∷ []) r
    (ap (sums_of (report_of xs)) (sym (report_one (record { code = w; offsets = o })) ∙ sym (body_is w o len g e)) ∙ h)

-- totals come from the lists themselves: a body's kept registers are as many as its list has
pub totals : (w o : List ℕ) (len : ℕ) → Right w o → get_or o (count w) 0 ≡ len → (body_figures w o).kept ≡ len
unfolding body_figures figures_of
totals w o len right e = sum_is w o right (count w) (omega arith) ∙ e

-- ---- the number of the body that is reported

-- no body number above n
abbrev AllTo : ℕ → List Met → Type 0
AllTo n [] = Unit {0}
AllTo n (m ∷ ms) = (m.body ≤ n) × AllTo n ms

first_le : (n k : ℕ) (ms : List Met) → AllTo n ms → (first_at k ms).body ≤ n
unfolding first_at
first_le n k [] h = zero-le
first_le n k (m ∷ ms) h = go (eqb m.len k) (first_le n k ms h.1)
  where
    go : (t : Bool) → (first_at k ms).body ≤ n → (cond t m (first_at k ms)).body ≤ n
    go true e = h.0
    go false e = e

all_append : (n : ℕ) (xs ys : List Met) → AllTo n xs → AllTo n ys → AllTo n (xs ++ ys)
all_append n [] ys a b = b
all_append n (x ∷ xs) ys a b = (a.0, all_append n xs ys a.1 b)

all_moved : (n b : ℕ) (xs : List Met) → AllTo n xs → AllTo (b + n) (moved b xs)
unfolding moved
all_moved n b [] a = tt
all_moved n b (x ∷ xs) a = (omega (arith, a.0), all_moved n b xs a.1)

all_more : (n m : ℕ) (xs : List Met) → n ≤ m → AllTo n xs → AllTo m xs
all_more n m [] h a = tt
all_more n m (x ∷ xs) h a = (omega (arith, a.0), all_more n m xs h a.1)

levels_all : (w o : List ℕ) (k : ℕ) → AllTo 0 (levels_to w o k)
unfolding levels_to
levels_all w o zero = tt
levels_all w o (suc k) = all_append 0 (levels_to w o k) (cond (is_level (ins_at w k)) (met 0 k (len_at o k) ∷ []) []) (levels_all w o k) (go (is_level (ins_at w k)))
  where
    go : (t : Bool) → AllTo 0 (cond t (met 0 k (len_at o k) ∷ []) [])
    go true = (zero-le, tt)
    go false = tt

met_all : (b n : ℕ) (xs : List Body) → b + length xs ≤ n → AllTo n (met_from b xs)
unfolding met_from
met_all b n [] h = tt
met_all b n (x ∷ xs) h = all_append n (moved b here) (met_from (suc b) xs)
    (all_more (b + 0) n (moved b here) (omega arith) (all_moved 0 b here (levels_all x.code x.offsets (count x.code))))
    (met_all (suc b) n xs (omega arith))
  where
    here : List Met
    here = levels_to x.code x.offsets (count x.code)

pub body_below : (xs : List Body) → (report_of xs).body ≤ (report_of xs).bodies
unfolding report_of figures_of
body_below xs = first_le (length xs) (longest_of (met_from 0 xs)) (met_from 0 xs) (met_all 0 (length xs) xs (omega arith))

-- so the fourth test never refuses reports of groups
pub never_4 : (xs ys : List Body) → sums_of (report_of xs) (report_of ys) ≡ Err (Over BodyNumber) → ⊥
unfolding sums_of
never_4 xs ys e = go (ltb (most - f.bodies) g.bodies) refl (ltb (most - f.levels) g.levels) (ltb (most - f.kept) g.kept)
    (ltb (most - f.bodies) g.body) refl e
  where
    f : Figures
    f = report_of xs

    g : Figures
    g = report_of ys

    go : (a : Bool) → ltb (most - f.bodies) g.bodies ≡ a → (b c d : Bool) → ltb (most - f.bodies) g.body ≡ d
        → cond a (Err (Over Bodies)) (cond b (Err (Over Levels)) (cond c (Err (Over Kept)) (cond d (Err (Over BodyNumber)) (Ok (join_of f g))))) ≡ Err (Over BodyNumber) → ⊥
    go true p b c d q h = let z : ◌≡◌ {A = ℕ} 1 4 = cc in omega arith
    go false p true c d q h = let z : ◌≡◌ {A = ℕ} 2 4 = cc in omega arith
    go false p false true d q h = let z : ◌≡◌ {A = ℕ} 3 4 = cc in omega arith
    go false p false false true q h = omega (arith, ltb-true (most - f.bodies) g.body q, ltb-false (most - f.bodies) g.bodies p, body_below ys)
    go false p false false false q h = let z : ◌≡◌ {A = ℕ} 0 1 = cc in omega arith
