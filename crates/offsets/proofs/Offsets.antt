-- Offsets that break no rule, and those that do: one law for each way out. Assumes nothing.
use mathlib.Core.Path.{◌≡◌, refl, ap, ◌∙◌, subst}
use mathlib.Core.Bool.{Bool, true, false, not, ◌&&◌, ◌||◌}
use mathlib.Core.List.{List}
use Prim.Native.Nat.{ℕ, zero, suc, ◌+◌, ◌≤◌, ◌<◌, zero-le}
use native.Mathlib.Decide.{dec_lt}
use native.Mathlib.Omega.{arith}
use borrow.Author.Tests.{lt-ltb, le-ltb, eq-eqb, ltb-false, eqb-true, not-false, ne_eqb}
use lib.Dec.{eqb, ltb}
use lib.ListN.{length, get_or}
use Rattle.laws.proofs.Branch.{or_left, or_right}
use Rattle.laws.proofs.Walk.{none_passed, reaches}
use Rattle.code.specs.Ins.{ins_at, count}
use Rattle.code.specs.Inner.{Valid}
use Rattle.code.specs.declared.Ins.{Ins}
use Rattle.steps.specs.Level.{is_level}
use Rattle.offsets.specs.Offsets.{wrong, first_wrong}
use Rattle.offsets.specs.Inner.{Right}

module _ (w o : List ℕ) (len k here : ℕ) (h : here ≡ get_or o k 0) where
  pub wrong_in_lem : (next : ℕ) → next ≡ get_or o (k + 1) 0 → (i : Ins) → i ≡ ins_at w k → (level : Bool) → level ≡ is_level i → k < count w
      → ((eqb k 0 && not (eqb here 0)) || ltb next here) || (not level && not (eqb next here)) ≡ wrong w o len k
  unfolding wrong
  wrong_in_lem next n i e level l lt = rw (lt-ltb k (count w) lt, h, n, l, e)

  pub wrong_end : count w ≤ k → (eqb k 0 && not (eqb here 0)) || not (eqb here len) ≡ wrong w o len k
  unfolding wrong
  wrong_end le = rw (le-ltb k (count w) le, h)

pub ruleset wrongs = (wrong_in_lem, wrong_end)

-- where no place is wrong
module _ (w o : List ℕ) (len : ℕ) (passed : count w + 1 ≤ first_wrong w o len) where
  fine : (k : ℕ) → k ≤ count w → wrong w o len k ≡ false
  unfolding first_wrong
  fine k h = none_passed (wrong w o len) k (count w + 1) 0 (omega arith) zero-le (omega arith)

  -- the rule of a place in the code
  rule : (k : ℕ) → k < count w
      → ((eqb k 0 && not (eqb (get_or o k 0) 0)) || ltb (get_or o (k + 1) 0) (get_or o k 0)) ||
      (not (is_level (ins_at w k)) && not (eqb (get_or o (k + 1) 0) (get_or o k 0))) ≡ false
  unfolding wrong
  rule k h = let e = fine k (omega arith) in rw (lt-ltb k (count w) h) at e

  end : (eqb (count w) 0 && not (eqb (get_or o (count w) 0) 0)) || not (eqb (get_or o (count w) 0) len) ≡ false
  unfolding wrong
  end = let e = fine (count w) (omega arith) in rw (le-ltb (count w) (count w) (omega arith)) at e

  begins : get_or o 0 0 ≡ 0
  begins = go (count w) refl
    where
      zeroth : not (eqb (get_or o 0 0) 0) ≡ false → get_or o 0 0 ≡ 0
      zeroth e = eqb-true (get_or o 0 0) 0 (not-false (eqb (get_or o 0 0) 0) e)

      go : (n : ℕ) → count w ≡ n → get_or o 0 0 ≡ 0
      go zero e = zeroth (or_left (not (eqb (get_or o 0 0) 0)) (not (eqb (get_or o 0 0) len))
          (subst (λ (x : ℕ). (eqb x 0 && not (eqb (get_or o x 0) 0)) || not (eqb (get_or o x 0) len) ≡ false) e end))
      go (suc n) e = zeroth (or_left (not (eqb (get_or o 0 0) 0)) (ltb (get_or o 1 0) (get_or o 0 0))
          (or_left (not (eqb (get_or o 0 0) 0) || ltb (get_or o 1 0) (get_or o 0 0)) (not (is_level (ins_at w 0)) && not (eqb (get_or o 1 0) (get_or o 0 0)))
          (rule 0 (omega arith))))

  pub right_of : Valid w → count w + 1 ≤ length o → Right w o
  right_of v long = record {
    valid = v;
    long = omega arith;
    start = begins;
    rise = λ k h. ltb-false (get_or o (k + 1) 0) (get_or o k 0)
        (or_right (eqb k 0 && not (eqb (get_or o k 0) 0)) (ltb (get_or o (k + 1) 0) (get_or o k 0))
        (or_left ((eqb k 0 && not (eqb (get_or o k 0) 0)) || ltb (get_or o (k + 1) 0) (get_or o k 0)) (not (is_level (ins_at w k))
        && not (eqb (get_or o (k + 1) 0) (get_or o k 0))) (rule k h)));
    idle = λ k h e. eqb-true (get_or o (k + 1) 0) (get_or o k 0) (not-false (eqb (get_or o (k + 1) 0) (get_or o k 0))
        (subst (λ (t : Bool). not t && not (eqb (get_or o (k + 1) 0) (get_or o k 0)) ≡ false) e
        (or_right ((eqb k 0 && not (eqb (get_or o k 0) 0)) || ltb (get_or o (k + 1) 0) (get_or o k 0)) (not (is_level (ins_at w k))
        && not (eqb (get_or o (k + 1) 0) (get_or o k 0))) (rule k h))));
  }

-- Offsets that begin at 0, never fall, give a list to levels alone and end at the list's length are not refused with 15.
pub right_fine : (w o : List ℕ) (len : ℕ) → Right w o → get_or o (count w) 0 ≡ len → first_wrong w o len ≡ count w + 1
unfolding first_wrong wrong
right_fine w o len right end = omega (arith, reaches (wrong w o len) (count w + 1) 0 (λ j a b. at j (dec_lt j (count w)) b))
  where
    begins : (j : ℕ) → eqb j 0 && not (eqb (get_or o j 0) 0) ≡ false
    begins zero = ap (λ (x : ℕ). not (eqb x 0)) right.start
    begins (suc j) = rw (ne_eqb (suc j) 0 (λ e. omega arith))

    level : (j : ℕ) → j < count w → (t : Bool) → is_level (ins_at w j) ≡ t → not t && not (eqb (get_or o (j + 1) 0) (get_or o j 0)) ≡ false
    level j h true e = refl
    level j h false e = ap not (eq-eqb (get_or o (j + 1) 0) (get_or o j 0) (right.idle j h e))

    at : (j : ℕ) → Dec (j < count w) → j < 0 + (count w + 1) → wrong w o len j ≡ false
    at j (yes h) b = rw (lt-ltb j (count w) h, begins j, le-ltb (get_or o (j + 1) 0) (get_or o j 0) (right.rise j h)) (level j h (is_level (ins_at w j)) refl)
    at j (no h) b =
        let q : j ≡ count w = omega arith in
        rw (le-ltb j (count w) (omega arith), begins j) (ap not (eq-eqb (get_or o j 0) len (ap (λ (x : ℕ). get_or o x 0) q ∙ end)))
