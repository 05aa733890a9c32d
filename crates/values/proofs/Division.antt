-- Floor division and modulo. The formulas of specs/Python.antt satisfy the law `Divides` (`divides`), and whatever satisfies it equals them (`only`).
-- The quotient toward 0, turned where what it leaves has the wrong sign, satisfies the law (`kept`, `turned`). Assumes nothing.
use Prim.Native.Nat.{ℕ, zero, suc, ◌+◌, ◌-◌, ◌*◌, ◌/◌, ◌%◌, ◌<◌}
use native.Mathlib.Nat.{div-add-mod', mod-lt, suc-mul, mul-add-div_right, mul-add-mod_self_right, mod-eq_of_lt, div-eq_of_lt, zero-mul}
use native.Mathlib.Omega.{arith}
use mathlib.Core.Path.{◌≡◌, refl, sym, ap, ◌∙◌, subst}
use mathlib.Core.Bool.{Bool, true, false, not, cond, ◌&&◌, beq}
use mathlib.Core.Logic.{◌⊎◌, inl, inr}
use lib.Dec.{T, ltb, eqb, eqb-suc-zero, ltb→lt, lt→ltb, leb→le, le→leb}
use lib.IntN.{ℤ, pos, negsuc, neg_ℤ, nat_abs, ◌+ℤ◌, ◌-ℤ◌, ◌*ℤ◌, *ℤ-negsuc, neg_ℤ-+ℤ, neg_ℤ-neg_ℤ, -ℤ_one, pred_ℤ-*ℤ, +ℤ_assoc, +ℤ_comm, +ℤ_invl, +ℤ_idl}
use lib.Signed.{lt_z, le_z, quot_z, rem_z}
use borrow.Author.Tests.{lt-ltb, le-ltb}
use Rattle.values.specs.Python.{Divides, down_div, down_mod, floor_div, floor_mod, eq_z}

-- ---- by a d above 0

-- -m + s, for an s below m
short : (m s : ℕ) → s < m → neg_ℤ (pos m) +ℤ pos s ≡ negsuc (m - suc s)
short zero s h = absurd (omega arith)
short (suc m) s h = ap (λ (t : Bool). cond t (negsuc (suc m - suc s)) (pos (s - suc m))) (lt-ltb s (suc m) h)

pub down_law : (a : ℤ) (d : ℕ) → 0 < d → down_div a d *ℤ pos d +ℤ pos (down_mod a d) ≡ a
unfolding down_div down_mod
down_law (pos a) d h = ap pos (div-add-mod' a d)
down_law (negsuc a) d h =
    let q = a / d in
    let r = mod-lt a h in
    let e = div-add-mod' a d in
    let m = suc-mul q d in
    short (suc q * d) (d - suc (a % d)) (omega arith) ∙ ap (λ (k : ℕ). negsuc k) (omega arith)

down_small : (a : ℤ) (d : ℕ) → 0 < d → down_mod a d < d
unfolding down_mod
down_small (pos a) d h = mod-lt a h
down_small (negsuc a) d h = omega arith

div_is : (q r d : ℕ) → r < d → (q * d + r) / d ≡ q
div_is q r d h = mul-add-div_right (omega arith) q r ∙ omega (arith, div-eq_of_lt h)

mod_is : (q r d : ℕ) → r < d → (q * d + r) % d ≡ r
mod_is q r d h = mul-add-mod_self_right q d r ∙ mod-eq_of_lt h

-- -(q + 1) times d, with r left, is the complement of q times d, with d - (r + 1) left
turned_round : (q r d : ℕ) → r < d → negsuc q *ℤ pos d +ℤ pos r ≡ negsuc (q * d + (d - suc r))
turned_round q r d h =
    let m = suc-mul q d in
    short (suc q * d) r (omega arith) ∙ ap (λ (k : ℕ). negsuc k) (omega arith)

down_div_lem : (q : ℤ) (r d : ℕ) → r < d → down_div (q *ℤ pos d +ℤ pos r) d ≡ q
unfolding down_div
down_div_lem (pos q) r d h = ap pos (div_is q r d h)
down_div_lem (negsuc q) r d h =
    ap (λ (z : ℤ). down_div z d) (turned_round q r d h) ∙ ap (λ (k : ℕ). negsuc k) (div_is q (d - suc r) d (omega arith))

down_mod_lem : (q : ℤ) (r d : ℕ) → r < d → down_mod (q *ℤ pos d +ℤ pos r) d ≡ r
unfolding down_mod
down_mod_lem (pos q) r d h = mod_is q r d h
down_mod_lem (negsuc q) r d h =
    ap (λ (z : ℤ). down_mod z d) (turned_round q r d h) ∙ omega (arith, mod_is q (d - suc r) d (omega arith))

-- ---- by any d: the law is the opposite numbers' for the opposite divisor

opposite : (q r : ℤ) (d : ℕ) → neg_ℤ (q *ℤ negsuc d +ℤ r) ≡ q *ℤ pos (suc d) +ℤ neg_ℤ r
opposite q r d =
    neg_ℤ-+ℤ (q *ℤ negsuc d) r ∙ ap (λ (z : ℤ). neg_ℤ z +ℤ neg_ℤ r) (*ℤ-negsuc q d) ∙ ap (λ (z : ℤ). z +ℤ neg_ℤ r) (neg_ℤ-neg_ℤ (q *ℤ pos (suc d)))

left_up : (m d : ℕ) → m < d → T (le_z (pos 0) (pos m)) × T (lt_z (pos m) (pos d))
left_up m d h = (le→leb 0 m (omega arith), lt→ltb m d h)

left_low : (m d : ℕ) → m < suc d → T (lt_z (negsuc d) (neg_ℤ (pos m))) × T (le_z (neg_ℤ (pos m)) (pos 0))
left_low zero d h = (tt, tt)
left_low (suc m) d h = (lt→ltb m d (omega arith), tt)

-- THE FORMULAS SATISFY THE LAW
pub divides : (a d : ℤ) → (d ≡ pos 0 → ⊥) → Divides a d (floor_div a d) (floor_mod a d)
unfolding floor_div floor_mod
divides a (pos zero) n = absurd (n refl)
divides a (pos (suc d)) n =
    record { whole = down_law a (suc d) (omega arith); left = inl (left_up (down_mod a (suc d)) (suc d) (down_small a (suc d) (omega arith))) }
divides a (negsuc d) n =
    let q = down_div (neg_ℤ a) (suc d) in
    let m = down_mod (neg_ℤ a) (suc d) in
    record {
      whole =
          sym (neg_ℤ-neg_ℤ (q *ℤ negsuc d +ℤ neg_ℤ (pos m)))
          ∙ ap neg_ℤ (opposite q (neg_ℤ (pos m)) d ∙ ap (λ (z : ℤ). q *ℤ pos (suc d) +ℤ z) (neg_ℤ-neg_ℤ (pos m)) ∙ down_law (neg_ℤ a) (suc d) (omega arith))
          ∙ neg_ℤ-neg_ℤ a;
      left = inr (left_low m d (down_small (neg_ℤ a) (suc d) (omega arith)));
    }

-- WHATEVER SATISFIES THE LAW EQUALS THE FORMULAS
pub record Same (a d q r : ℤ) : Type 0 where
  pub quotient : q ≡ floor_div a d
  pub remainder : r ≡ floor_mod a d

only_up : (a q : ℤ) (d r : ℕ) → q *ℤ pos d +ℤ pos r ≡ a → r < d → Same a (pos d) q (pos r)
unfolding floor_div floor_mod
only_up a q d r e h =
    record {
      quotient = sym (down_div_lem q r d h) ∙ ap (λ (z : ℤ). down_div z d) e;
      remainder = ap pos (sym (down_mod_lem q r d h) ∙ ap (λ (z : ℤ). down_mod z d) e);
    }

only_low : (a q r : ℤ) (d s : ℕ) → q *ℤ negsuc d +ℤ r ≡ a → r ≡ neg_ℤ (pos s) → s < suc d → Same a (negsuc d) q r
unfolding floor_div floor_mod
only_low a q r d s e p h =
    let n : q *ℤ pos (suc d) +ℤ pos s ≡ neg_ℤ a =
    sym (ap (λ (z : ℤ). q *ℤ pos (suc d) +ℤ z) (ap neg_ℤ p ∙ neg_ℤ-neg_ℤ (pos s))) ∙ sym (opposite q r d) ∙ ap neg_ℤ e in
    let u = only_up (neg_ℤ a) q (suc d) s n h in
    record { quotient = u.quotient; remainder = p ∙ ap neg_ℤ u.remainder }

pub only : (a d q r : ℤ) → Divides a d q r → Same a d q r
only a (pos d) q r v = go r v.whole v.left
  where
    go : (r : ℤ) → q *ℤ pos d +ℤ r ≡ a → (T (le_z (pos 0) r) × T (lt_z r (pos d))) ⊎ (T (lt_z (pos d) r) × T (le_z r (pos 0))) → Same a (pos d) q r
    go (pos r) e (inl w) = only_up a q d r e (ltb→lt r d w.1)
    go (pos r) e (inr w) = absurd (let h = ltb→lt d r w.0 in let k = leb→le r 0 w.1 in omega arith)
    go (negsuc r) e (inl w) = absurd w.0
    go (negsuc r) e (inr w) = absurd w.0
only a (negsuc d) q r v = go r v.whole v.left
  where
    go : (r : ℤ) → q *ℤ negsuc d +ℤ r ≡ a → (T (le_z (pos 0) r) × T (lt_z r (negsuc d))) ⊎ (T (lt_z (negsuc d) r) × T (le_z r (pos 0))) → Same a (negsuc d) q r
    go (pos zero) e w = only_low a q (pos 0) d 0 e refl (omega arith)
    go (pos (suc r)) e (inl w) = absurd w.1
    go (pos (suc r)) e (inr w) = absurd (let k = leb→le (suc r) 0 w.1 in omega arith)
    go (negsuc r) e (inl w) = absurd w.0
    go (negsuc r) e (inr w) = only_low a q (negsuc r) d (suc r) e refl (let h = ltb→lt r d w.0 in omega arith)

-- so the pair is the only one
pub one_pair : (a d q r q' r' : ℤ) → Divides a d q r → Divides a d q' r' → (q ≡ q') × (r ≡ r')
one_pair a d q r q' r' v w =
    let s = only a d q r v in
    let t = only a d q' r' w in
    (s.quotient ∙ sym t.quotient, s.remainder ∙ sym t.remainder)

-- ---- the quotient toward 0 and what it leaves

-- what is left has a sign, and not the divisor's
abbrev pub wrong : ℤ → ℤ → Bool
wrong r d = not (eq_z r (pos 0)) && not (beq (lt_z r (pos 0)) (lt_z d (pos 0)))

pub abs_neg : (n : ℕ) → nat_abs (neg_ℤ (pos n)) ≡ n
abs_neg zero = refl
abs_neg (suc n) = refl

pub abs_quot : (a d : ℤ) → nat_abs (quot_z a d) ≡ nat_abs a / nat_abs d
abs_quot (pos a) (pos d) = refl
abs_quot (pos a) (negsuc d) = abs_neg (a / suc d)
abs_quot (negsuc a) (pos d) = abs_neg (suc a / d)
abs_quot (negsuc a) (negsuc d) = refl

pub abs_rem : (a d : ℤ) → nat_abs (rem_z a d) ≡ nat_abs a % nat_abs d
abs_rem (pos a) d = refl
abs_rem (negsuc a) d = abs_neg (suc a % nat_abs d)

neg_pos : (k d : ℕ) → neg_ℤ (pos k) *ℤ pos d ≡ neg_ℤ (pos (k * d))
neg_pos zero d = rw (zero-mul d) refl
neg_pos (suc k) d = refl

neg_neg : (k d : ℕ) → neg_ℤ (pos k) *ℤ negsuc d ≡ pos (k * suc d)
neg_neg zero d = rw (zero-mul (suc d)) refl
neg_neg (suc k) d = refl

neg_sum : (x y : ℕ) → neg_ℤ (pos x) +ℤ neg_ℤ (pos y) ≡ neg_ℤ (pos (x + y))
neg_sum x y = sym (neg_ℤ-+ℤ (pos x) (pos y))

trunc : (a d : ℤ) → quot_z a d *ℤ d +ℤ rem_z a d ≡ a
trunc (pos a) (pos d) = ap pos (div-add-mod' a d)
trunc (pos a) (negsuc d) = rw (neg_neg (a / suc d) d) (ap pos (div-add-mod' a (suc d)))
trunc (negsuc a) (pos d) = rw (neg_pos (suc a / d) d, neg_sum (suc a / d * d) (suc a % d), div-add-mod' (suc a) d) refl
trunc (negsuc a) (negsuc d) = rw (neg_sum (suc a / suc d * suc d) (suc a % suc d), div-add-mod' (suc a) (suc d)) refl

-- one less of d, and d more left
less : (q d r : ℤ) → (q -ℤ pos 1) *ℤ d +ℤ (r +ℤ d) ≡ q *ℤ d +ℤ r
less q d r =
    ap (λ (z : ℤ). z *ℤ d +ℤ (r +ℤ d)) (-ℤ_one q)
    ∙ ap (λ (z : ℤ). z +ℤ (r +ℤ d)) (pred_ℤ-*ℤ q d)
    ∙ +ℤ_assoc (q *ℤ d) (neg_ℤ d) (r +ℤ d)
    ∙ ap (λ (z : ℤ). q *ℤ d +ℤ z) (ap (λ (z : ℤ). neg_ℤ d +ℤ z) (+ℤ_comm r d) ∙ sym (+ℤ_assoc (neg_ℤ d) d r) ∙ ap (λ (z : ℤ). z +ℤ r) (+ℤ_invl d) ∙ +ℤ_idl r)

abbrev Left : ℤ → ℤ → Type 0
Left d r = (T (le_z (pos 0) r) × T (lt_z r d)) ⊎ (T (lt_z d r) × T (le_z r (pos 0)))

low_not : (n : ℕ) → ltb n 0 ≡ false
low_not n = le-ltb n 0 (omega arith)

no : {X : Type 0} → true ≡ false → X
no e = absurd (subst T e tt)

and-false : (t : Bool) → (t && false) ≡ false
and-false true = refl
and-false false = refl

left_kept : (r d : ℤ) → nat_abs r < nat_abs d → wrong r d ≡ false → Left d r
left_kept (pos r) (pos d) h e = inl (left_up r d h)
left_kept (pos zero) (negsuc d) h e = inr (tt, tt)
left_kept (pos (suc r)) (negsuc d) h e = no (rw (eqb-suc-zero r, low_not (suc r)) at e)
left_kept (negsuc r) (pos d) h e = no (rw (low_not d) at e)
left_kept (negsuc r) (negsuc d) h e = inr (lt→ltb r d (omega arith), tt)

left_turned : (r d : ℤ) → nat_abs r < nat_abs d → wrong r d ≡ true → Left d (r +ℤ d)
left_turned (pos r) (pos d) h e = no (sym (rw (low_not r, low_not d, and-false (not (eqb r 0))) at e))
left_turned (pos zero) (negsuc d) h e = no (sym e)
left_turned (pos (suc r)) (negsuc d) h e =
    rw (lt-ltb (suc r) (suc d) h) (inr (lt→ltb (suc d - suc (suc r)) d (omega arith), tt))
left_turned (negsuc r) (pos d) h e = rw (le-ltb d (suc r) (omega arith)) (inl (left_up (d - suc r) d (omega arith)))
left_turned (negsuc r) (negsuc d) h e = no (sym e)

small_left : (a d : ℤ) → 0 < nat_abs d → nat_abs (rem_z a d) < nat_abs d
small_left a d h = rw (abs_rem a d) (mod-lt (nat_abs a) h)

-- it satisfies the law, or one less of it does
pub kept : (a d : ℤ) → 0 < nat_abs d → wrong (rem_z a d) d ≡ false → Same a d (quot_z a d) (rem_z a d)
kept a d h e = only a d (quot_z a d) (rem_z a d) (record { whole = trunc a d; left = left_kept (rem_z a d) d (small_left a d h) e })

pub turned : (a d : ℤ) → 0 < nat_abs d → wrong (rem_z a d) d ≡ true → Same a d (quot_z a d -ℤ pos 1) (rem_z a d +ℤ d)
turned a d h e =
    only a d (quot_z a d -ℤ pos 1) (rem_z a d +ℤ d)
    (record { whole = less (quot_z a d) d (rem_z a d) ∙ trunc a d; left = left_turned (rem_z a d) d (small_left a d h) e })
