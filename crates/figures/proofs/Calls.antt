-- What the figures of one body rest on: its places, its start and end, and what its tests show. Assumes nothing.
use mathlib.Core.Path.{◌≡◌, refl, sym, ap, ap₂, ◌∙◌}
use mathlib.Core.Bool.{Bool, true, false, cond}
use mathlib.Core.List.{List, [], ◌∷◌, ◌++◌, append-nil}
use Prim.Native.Nat.{ℕ, zero, suc, ◌+◌, ◌-◌, ◌≤◌, ◌<◌, max, zero-le}
use native.Mathlib.Nat.{add-zero}
use native.Mathlib.Numerals.{add-one}
use native.Mathlib.Omega.{arith}
use borrow.Author.Tests.{lt-ltb, le-ltb, eq-eqb}
use mir.Syntax.{w64}
use mir.Val.{Fits}
use lib.ListN.{length, get_or, length-append}
use Rattle.code.specs.Ins.{ins_at, count}
use Rattle.code.specs.Check.{check_of}
use Rattle.code.specs.declared.Ins.{Ins}
use Rattle.refusals.specs.Stages.{Checked}
use Rattle.std.specs.declared.result.Result.TheVariants.{Ok, Err}
use Rattle.refusals.specs.declared.Refusal.TheVariants.{Short}
use Rattle.code.proofs.Checks.{count_of, valid_of, whole_of}
use Rattle.code.specs.Inner.{Whole}
use Rattle.steps.specs.Level.{is_level}
use Rattle.groups.specs.declared.Figures.{Figures}
use Rattle.groups.specs.declared.FiguresRefusal.TheVariants.{Call, Offsets}
use Rattle.groups.specs.Groups.{FiguresAnswer, met, sum_of, longest_of, first_at, figures_of, join_of, moved}
use Rattle.groups.specs.Inner.{Sums}
use Rattle.groups.proofs.Groups.{join_law, sum_append}
use Rattle.offsets.specs.Offsets.{first_wrong}
use Rattle.offsets.specs.Inner.{Right}
use Rattle.offsets.proofs.Offsets.{right_of}
use Rattle.figures.specs.Figures.{len_at, levels_to, body_figures, placed_of, body_of}

-- ---- one body

abbrev single : ℕ → ℕ → Figures
single k n = record { bodies = 0; levels = 1; kept = n; longest = n; found = true; body = 0; at = k }

single_is : (k n : ℕ) → figures_of 0 (met 0 k n ∷ []) ≡ single k n
unfolding figures_of sum_of longest_of first_at
single_is k n = rw (add-zero n, top n, eq-eqb n n refl)
  where
    top : (n : ℕ) → max n 0 ≡ n
    top n = omega arith

module _ (w o : List ℕ) where
  more : (k : ℕ) → levels_to w o (k + 1) ≡ levels_to w o k ++ cond (is_level (ins_at w k)) (met 0 k (len_at o k) ∷ []) []
  unfolding levels_to
  more k = ap (λ (n : ℕ). levels_to w o n) (add-one k)

  -- totals come from the lists: the lists of the first k places end at offset k
  pub sum_is : Right w o → (k : ℕ) → k ≤ count w → sum_of (levels_to w o k) ≡ get_or o k 0
  unfolding levels_to sum_of
  sum_is right zero h = sym right.start
  sum_is right (suc k) h = sum_append (levels_to w o k) (cond (is_level (ins_at w k)) (met 0 k (len_at o k) ∷ []) [])
      ∙ go (is_level (ins_at w k)) refl (sum_is right k (omega arith))
    where
      go : (t : Bool) → is_level (ins_at w k) ≡ t → sum_of (levels_to w o k) ≡ get_or o k 0
          → sum_of (levels_to w o k) + sum_of (cond t (met 0 k (len_at o k) ∷ []) []) ≡ get_or o (suc k) 0
      go true e ih = omega (arith, ih, right.rise k (omega arith), ap (λ (n : ℕ). get_or o n 0) (add-one k))
      go false e ih = omega (arith, ih, right.idle k (omega arith) e, ap (λ (n : ℕ). get_or o n 0) (add-one k))

  few : (k : ℕ) → length (levels_to w o k) ≤ k
  unfolding levels_to
  few zero = zero-le
  few (suc k) = let e = few k in omega
      (arith, length-append (levels_to w o k) (cond (is_level (ins_at w k)) (met 0 k (len_at o k) ∷ []) []), one (is_level (ins_at w k)))
    where
      one : (t : Bool) → length (cond t (met 0 k (len_at o k) ∷ []) []) ≤ 1
      one true = omega arith
      one false = omega arith

  module _ (right : Right w o) (k : ℕ) (h : k < count w) (f : Figures) (e : f ≡ figures_of 0 (levels_to w o k)) where
    pub place_none : (i : Ins) → i ≡ ins_at w k → (level : Bool) → level ≡ is_level i → level ≡ false → f ≡ figures_of 0 (levels_to w o (k + 1))
    place_none i p level l n = e
        ∙ ap (figures_of 0) (sym (more k ∙ ap (λ (t : Bool). levels_to w o k ++ cond t (met 0 k (len_at o k) ∷ []) []) none ∙ append-nil (levels_to w o k)))
      where
        none : is_level (ins_at w k) ≡ false
        none = ap is_level (sym p) ∙ sym l ∙ n

    module _ (here next : ℕ) (p : here ≡ get_or o k 0) (q : next ≡ get_or o (k + 1) 0) where
      pub place_rise : here ≤ next
      place_rise = omega (arith, right.rise k h)

      pub place_room : next < 18446744073709551616
          → Sums f (record { bodies = 0; levels = 1; kept = next - here; longest = next - here; found = true; body = 0; at = k })
      unfolding figures_of
      place_room small =
          let b : f.bodies ≡ 0 = ap (λ (x : Figures). x.bodies) e in
          let l : f.levels ≡ length (levels_to w o k) = ap (λ (x : Figures). x.levels) e in
          let s : f.kept ≡ sum_of (levels_to w o k) = ap (λ (x : Figures). x.kept) e in
          record {
            bodies = omega arith;
            levels = omega (arith, few k, right.valid.few);
            kept = omega (
              arith,
              sum_is right k (omega arith),
              right.rise k h,
            );
            body = omega arith;
          }

      pub place_level : (i : Ins) → i ≡ ins_at w k → (level : Bool) → level ≡ is_level i → level ≡ true → (r : Figures)
          → r ≡ join_of f (record { bodies = 0; levels = 1; kept = next - here; longest = next - here; found = true; body = 0; at = k })
          → r ≡ figures_of 0 (levels_to w o (k + 1))
      unfolding moved
      place_level i x level l y r z =
          z ∙ ap₂ join_of e (sym (single_is k (next - here)))
          ∙ join_law 0 0 (levels_to w o k) (met 0 k (next - here) ∷ [])
          ∙ ap (figures_of 0) (ap₂ (λ (a b : ℕ). levels_to w o k ++ (met 0 k (b - a) ∷ [])) p q
          ∙ sym (more k ∙ ap (λ (t : Bool). levels_to w o k ++ cond t (met 0 k (len_at o k) ∷ []) []) is))
        where
          is : is_level (ins_at w k) ≡ true
          is = ap is_level (sym x) ∙ sym l ∙ y

pub ruleset places = (place_none, place_rise, place_level)

pub body_start : (w o : List ℕ) → record { bodies = 0; levels = 0; kept = 0; longest = 0; found = false; body = 0; at = 0 } ≡ figures_of 0 (levels_to w o 0)
unfolding figures_of levels_to sum_of longest_of first_at
body_start w o = refl

pub body_end : (w o : List ℕ) (k : ℕ) → count w ≤ k → k ≤ count w → (f : Figures) → f ≡ figures_of 0 (levels_to w o k)
    → record { bodies = 1; levels = f.levels; kept = f.kept; longest = f.longest; found = f.found; body = f.body; at = f.at } ≡ body_figures w o
unfolding body_figures figures_of
body_end w o k h g f e = let q : k ≡ count w = omega arith in rw (e, q)

-- ---- one body

module _ (w : List ℕ) (n : ℕ) (e : ◌≡◌ {A = Checked} (Ok n) (check_of w)) where
  counts : n ≡ count w
  counts = count_of w n (Ok n) e refl

  pub body_small : Fits w64 (n + 1)
  body_small = record { fits = omega (arith, counts, (valid_of w n (Ok n) e refl).few) }

  -- what the parts of the call rely on
  module _ (o : List ℕ) (long : n + 1 ≤ length o) where
    pub body_room : Whole w × (count w < length o)
    body_room = (whole_of w n (Ok n) e refl, omega (arith, counts))

    pub body_right : (len k : ℕ) → k ≡ first_wrong w o len → n + 1 ≤ k → Right w o
    body_right len k g s = right_of w o len (omega (arith, g, counts)) (valid_of w n (Ok n) e refl) (omega (arith, counts))

  module _ (o : List ℕ) (len : ℕ) where
    pub body_short : length o < n + 1 → ◌≡◌ {A = FiguresAnswer} (Err (Call (Short 1 (n + 1)))) (body_of w o len)
    unfolding body_of placed_of
    body_short s = rw (← e, counts, lt-ltb (length o) (count w + 1) (omega (arith, counts)))

    module _ (long : n + 1 ≤ length o) (k : ℕ) (g : k ≡ first_wrong w o len) where
      pub body_offsets : k < n + 1 → ◌≡◌ {A = FiguresAnswer} (Err (Offsets k)) (body_of w o len)
      unfolding body_of placed_of
      body_offsets s = rw (← e, le-ltb (length o) (count w + 1) (omega (arith, counts)), ← g, lt-ltb k (count w + 1) (omega (arith, counts)))

      pub body_told : n + 1 ≤ k → (b : Figures) → b ≡ body_figures w o → ◌≡◌ {A = FiguresAnswer} (Ok b) (body_of w o len)
      unfolding body_of placed_of
      body_told s b x =
          rw (← e, le-ltb (length o) (count w + 1) (omega (arith, counts)), ← g, le-ltb k (count w + 1) (omega (arith, counts)), ← x)

pub ruleset bodies = (body_small, body_room, body_right, body_short, body_offsets, body_told)
