-- Two 48-bit ints compare as their floats do, since each becomes a float exactly (`lt_ints`, `le_ints`, `eq_ints`, `ne_ints`). Assumes nothing.
use Prim.Native.Nat.{ℕ, zero, suc, ◌+◌, ◌*◌, ◌^◌, ◌<◌}
use native.Mathlib.Nat.{mul-pos, mul_comm, mul_assoc, mul-one, mul_right_comm, zero-mul, eq_of_mul-eq-mul_right, mul-lt-mul_of_pos_right, mul-le-mul_right}
use native.Mathlib.Nat.{add-mul}
use native.Mathlib.Omega.{arith}
use mathlib.Core.Path.{◌≡◌, refl, sym, ap, ap₂, ◌∙◌}
use mathlib.Core.Bool.{Bool, true, false, not, ◌&&◌, ◌||◌, beq, false≢true}
use lib.Arith.{lt_of_le-ne}
use lib.Dec.{ltb, leb, eqb, leb-suc-suc, eqb-zero-suc, eqb-suc-zero, eqb-suc-suc}
use lib.IntN.{ℤ, pos, negsuc, nat_abs, ◌*ℤ◌}
use lib.Signed.{lt_z, le_z}
use lib.Pow.{pow_pos}
use lib.Ieee.{Float, nan, inf, fin, binary64, of_int, up, down, below, level, lt, le, eq, ne}
use lib.Ieee.Exact.{HasValue}
use lib.Ieee.Back.{round_whole}
use borrow.Author.Tests.{lt-ltb, le-ltb, ltb-true, ltb-false, le-leb, lt-leb, eq-eqb, ne_eqb, eqb-true, eqb-false}
use Rattle.values.specs.Python.{signed, sign, eq_z}
use Rattle.values.specs.Folds.{SmallInt}

-- ---- a common factor above 0 changes no comparison

module _ (a b p : ℕ) (h : 0 < p) where
  ltb_scale : ltb (a * p) (b * p) ≡ ltb a b
  ltb_scale = go (ltb a b) refl
    where
      go : (t : Bool) → ltb a b ≡ t → ltb (a * p) (b * p) ≡ t
      go true e = lt-ltb (a * p) (b * p) (mul-lt-mul_of_pos_right (ltb-true a b e) h)
      go false e = le-ltb (a * p) (b * p) (mul-le-mul_right p (ltb-false a b e))

  eqb_scale : eqb (a * p) (b * p) ≡ eqb a b
  eqb_scale = go (eqb a b) refl
    where
      go : (t : Bool) → eqb a b ≡ t → eqb (a * p) (b * p) ≡ t
      go true e = eq-eqb (a * p) (b * p) (ap (λ (n : ℕ). n * p) (eqb-true a b e))
      go false e = ne_eqb (a * p) (b * p) (λ k. eqb-false a b e (eq_of_mul-eq-mul_right p h a b k))

below_scale : (s : Bool) (a : ℕ) (t : Bool) (b p : ℕ) → 0 < p → below s (a * p) t (b * p) ≡ below s a t b
below_scale false a false b p h = ltb_scale a b p h
below_scale false a true b p h = refl
below_scale true a false b p h =
    ap (λ (n : ℕ). ltb n (a * p + b * p)) (sym (zero-mul p)) ∙ ap (ltb (0 * p)) (sym (add-mul a b p)) ∙ ltb_scale 0 (a + b) p h
below_scale true a true b p h = ltb_scale b a p h

level_scale : (s : Bool) (a : ℕ) (t : Bool) (b p : ℕ) → 0 < p → level s (a * p) t (b * p) ≡ level s a t b
level_scale s a t b p h =
    ap₂ (λ (x y : Bool). x && (beq s t || y)) (eqb_scale a b p h) (ap (eqb (a * p)) (sym (zero-mul p)) ∙ eqb_scale a 0 p h)

-- ---- floats that are whole numbers compare as the numbers with their signs do

down_up : (e : ℤ) → 0 < down e
down_up (pos k) = omega arith
down_up (negsuc k) = pow_pos (suc k)

scaled : (x a d p : ℕ) → x * 1 ≡ a * d → x * p ≡ a * (d * p)
scaled x a d p h = ap (λ (n : ℕ). n * p) (sym (mul-one x) ∙ h) ∙ mul_assoc a d p

module _ (r : Bool → ℕ → Bool → ℕ → Bool) (scale : (s : Bool) (a : ℕ) (t : Bool) (b p : ℕ) → 0 < p → r s (a * p) t (b * p) ≡ r s a t b) where
  whole : (s t : Bool) (m n a b : ℕ) (e d : ℤ) → m * up e * 1 ≡ a * down e → n * up d * 1 ≡ b * down d
      → r s (m * up e * down d) t (n * up d * down e) ≡ r s a t b
  whole s t m n a b e d p q =
      ap₂ (λ (x y : ℕ). r s x t y) (scaled (m * up e) a (down e) (down d) p)
      (scaled (n * up d) b (down d) (down e) q ∙ ap (λ (x : ℕ). b * x) (mul_comm (down d) (down e)))
      ∙ scale s a t b (down e * down d) (mul-pos (down_up e) (down_up d))

module _ (s t : Bool) (a b : ℕ) where
  lt_whole : (x y : Float) → HasValue x s a 1 → HasValue y t b 1 → lt x y ≡ below s a t b
  unfolding lt
  lt_whole nan y v w = absurd v
  lt_whole (inf z) y v w = absurd v
  lt_whole (fin z m e) nan v w = absurd w
  lt_whole (fin z m e) (inf y) v w = absurd w
  lt_whole (fin z m e) (fin y n d) v w = whole below below_scale z y m n a b e d v.1 w.1 ∙ ap₂ (λ (p q : Bool). below p a q b) v.0 w.0

  eq_whole : (x y : Float) → HasValue x s a 1 → HasValue y t b 1 → eq x y ≡ level s a t b
  unfolding eq
  eq_whole nan y v w = absurd v
  eq_whole (inf z) y v w = absurd v
  eq_whole (fin z m e) nan v w = absurd w
  eq_whole (fin z m e) (inf y) v w = absurd w
  eq_whole (fin z m e) (fin y n d) v w = whole level level_scale z y m n a b e d v.1 w.1 ∙ ap₂ (λ (p q : Bool). level p a q b) v.0 w.0

-- ---- ints

up_value : (n : ℕ) → n < 2 ^ 47 → HasValue (of_int binary64 (pos n)) false n 1
unfolding of_int
up_value n h = round_whole binary64 false n (omega arith)

low_value : (n : ℕ) → n < 2 ^ 47 → HasValue (of_int binary64 (negsuc n)) true (suc n) 1
unfolding of_int
low_value n h = round_whole binary64 true (suc n) (omega arith)

and-true : (t : Bool) → (t && true) ≡ t
and-true true = refl
and-true false = refl

and-false : (t : Bool) → (t && false) ≡ false
and-false true = refl
and-false false = refl

pub lt_ints : (a b : ℤ) → SmallInt a → SmallInt b → lt (of_int binary64 a) (of_int binary64 b) ≡ lt_z a b
lt_ints (pos a) (pos b) s t = lt_whole false false a b _ _ (up_value a s.small) (up_value b t.small)
lt_ints (pos a) (negsuc b) s t = lt_whole false true a (suc b) _ _ (up_value a s.small) (low_value b t.small)
lt_ints (negsuc a) (pos b) s t = lt_whole true false (suc a) b _ _ (low_value a s.small) (up_value b t.small) ∙ lt-ltb 0 (suc a + b) (omega arith)
lt_ints (negsuc a) (negsuc b) s t = lt_whole true true (suc a) (suc b) _ _ (low_value a s.small) (low_value b t.small) ∙ leb-suc-suc (suc b) a

pub eq_ints : (a b : ℤ) → SmallInt a → SmallInt b → eq (of_int binary64 a) (of_int binary64 b) ≡ eq_z a b
eq_ints (pos a) (pos b) s t = eq_whole false false a b _ _ (up_value a s.small) (up_value b t.small) ∙ and-true (eqb a b)
eq_ints (pos a) (negsuc b) s t = eq_whole false true a (suc b) _ _ (up_value a s.small) (low_value b t.small) ∙ unlike a b
  where
    unlike : (a b : ℕ) → (eqb a (suc b) && (false || eqb a 0)) ≡ false
    unlike zero b = ap (λ (x : Bool). x && true) (eqb-zero-suc b)
    unlike (suc a) b = ap (λ (x : Bool). eqb (suc a) (suc b) && x) (eqb-suc-zero a) ∙ and-false (eqb (suc a) (suc b))
eq_ints (negsuc a) (pos b) s t =
    eq_whole true false (suc a) b _ _ (low_value a s.small) (up_value b t.small)
    ∙ ap (λ (x : Bool). eqb (suc a) b && x) (eqb-suc-zero a) ∙ and-false (eqb (suc a) b)
eq_ints (negsuc a) (negsuc b) s t =
    eq_whole true true (suc a) (suc b) _ _ (low_value a s.small) (low_value b t.small) ∙ and-true (eqb (suc a) (suc b)) ∙ eqb-suc-suc a b

lt_or_eq : (a b : ℕ) → (ltb a b || eqb a b) ≡ leb a b
lt_or_eq a b = go (ltb a b) (eqb a b) refl refl
  where
    go : (p q : Bool) → ltb a b ≡ p → eqb a b ≡ q → (p || q) ≡ leb a b
    go true q e f = sym (le-leb a b (let h = ltb-true a b e in omega arith))
    go false true e f = sym (le-leb a b (let h = eqb-true a b f in omega arith))
    go false false e f = sym (lt-leb a b (lt_of_le-ne (ltb-false a b e) (λ k. eqb-false a b f (sym k))))

turned : (a b : ℕ) → eqb a b ≡ eqb b a
turned a b = go (eqb b a) refl
  where
    go : (t : Bool) → eqb b a ≡ t → eqb a b ≡ t
    go true e = eq-eqb a b (sym (eqb-true b a e))
    go false e = ne_eqb a b (λ k. eqb-false b a e (sym k))

le_is : (a b : ℤ) → (lt_z a b || eq_z a b) ≡ le_z a b
le_is (pos a) (pos b) = lt_or_eq a b
le_is (pos a) (negsuc b) = refl
le_is (negsuc a) (pos b) = refl
le_is (negsuc a) (negsuc b) = ap (λ (x : Bool). ltb b a || x) (turned a b) ∙ lt_or_eq b a

pub le_ints : (a b : ℤ) → SmallInt a → SmallInt b → le (of_int binary64 a) (of_int binary64 b) ≡ le_z a b
unfolding le
le_ints a b s t = ap₂ (λ (x y : Bool). x || y) (lt_ints a b s t) (eq_ints a b s t) ∙ le_is a b

pub ne_ints : (a b : ℤ) → SmallInt a → SmallInt b → ne (of_int binary64 a) (of_int binary64 b) ≡ not (eq_z a b)
unfolding ne
ne_ints a b s t = ap not (eq_ints a b s t)

-- ---- eq_z is equality

pub eq_z_true : (a b : ℤ) → eq_z a b ≡ true → a ≡ b
eq_z_true (pos a) (pos b) e = ap pos (eqb-true a b e)
eq_z_true (pos a) (negsuc b) e = absurd (false≢true e)
eq_z_true (negsuc a) (pos b) e = absurd (false≢true e)
eq_z_true (negsuc a) (negsuc b) e = ap (λ (n : ℕ). negsuc n) (eqb-true a b e)

pub eq_z_same : (a : ℤ) → eq_z a a ≡ true
eq_z_same (pos a) = eq-eqb a a refl
eq_z_same (negsuc a) = eq-eqb a a refl

-- ---- an int beside any finite float: a against ±n * 2 ^ d, both times the power of two below the line, so that nothing is rounded

-- a 48-bit int becomes a float exactly
pub exact_int : (a : ℤ) → SmallInt a → HasValue (of_int binary64 a) (sign a) (nat_abs a) 1
exact_int (pos n) s = up_value n s.small
exact_int (negsuc n) s = low_value n s.small

below_signed : (s t : Bool) (x y : ℕ) → below s x t y ≡ lt_z (signed s x) (signed t y)
below_signed false false x y = refl
below_signed false true x zero = sym (le-ltb x 0 (omega arith))
below_signed false true x (suc y) = refl
below_signed true false zero y = let e : 0 + y ≡ y = omega arith in ap (ltb 0) e
below_signed true false (suc x) y = lt-ltb 0 (suc x + y) (omega arith)
below_signed true true zero zero = refl
below_signed true true zero (suc y) = le-ltb (suc y) 0 (omega arith)
below_signed true true (suc x) zero = lt-ltb 0 (suc x) (omega arith)
below_signed true true (suc x) (suc y) = leb-suc-suc (suc y) x

times : (a : ℤ) (k : ℕ) → signed (sign a) (nat_abs a * k) ≡ a *ℤ pos k
times (pos n) k = refl
times (negsuc n) k = refl

module _ (s : Bool) (m : ℕ) (t : Bool) (n : ℕ) (d : ℤ) where
  step : (p : ℕ) (e : ℤ) → p * up e * 1 ≡ m * down e → p * up e * down d ≡ m * down d * down e
  step p e h = ap (λ (q : ℕ). q * down d) (sym (mul-one (p * up e)) ∙ h) ∙ mul_right_comm m (down e) (down d)

  lt_beside : (x : Float) → HasValue x s m 1 → lt x (fin t n d) ≡ below s (m * down d) t (n * up d)
  unfolding lt
  lt_beside nan v = absurd v
  lt_beside (inf z) v = absurd v
  lt_beside (fin z p e) v =
      ap₂ (λ (b : Bool) (q : ℕ). below b q t (n * up d * down e)) v.0 (step p e v.1)
      ∙ below_scale s (m * down d) t (n * up d) (down e) (down_up e)

  lt_after : (x : Float) → HasValue x s m 1 → lt (fin t n d) x ≡ below t (n * up d) s (m * down d)
  unfolding lt
  lt_after nan v = absurd v
  lt_after (inf z) v = absurd v
  lt_after (fin z p e) v =
      ap₂ (λ (b : Bool) (q : ℕ). below t (n * up d * down e) b q) v.0 (step p e v.1)
      ∙ below_scale t (n * up d) s (m * down d) (down e) (down_up e)

module _ (a : ℤ) (s : SmallInt a) (t : Bool) (n : ℕ) (d : ℤ) where
  pub lt_mixed : lt (of_int binary64 a) (fin t n d) ≡ lt_z (a *ℤ pos (down d)) (signed t (n * up d))
  lt_mixed =
      lt_beside (sign a) (nat_abs a) t n d (of_int binary64 a) (exact_int a s)
      ∙ below_signed (sign a) t (nat_abs a * down d) (n * up d)
      ∙ ap (λ (z : ℤ). lt_z z (signed t (n * up d))) (times a (down d))

  pub gt_mixed : lt (fin t n d) (of_int binary64 a) ≡ lt_z (signed t (n * up d)) (a *ℤ pos (down d))
  gt_mixed =
      lt_after (sign a) (nat_abs a) t n d (of_int binary64 a) (exact_int a s)
      ∙ below_signed t (sign a) (n * up d) (nat_abs a * down d)
      ∙ ap (λ (z : ℤ). lt_z (signed t (n * up d)) z) (times a (down d))

and_same : (t : Bool) → (t && t) ≡ t
and_same true = refl
and_same false = refl

unlike : (x y : ℕ) → (eqb x (suc y) && eqb x 0) ≡ false
unlike zero y = ap (λ (b : Bool). b && true) (eqb-zero-suc y)
unlike (suc x) y = ap (λ (b : Bool). eqb (suc x) (suc y) && b) (eqb-suc-zero x) ∙ and-false (eqb (suc x) (suc y))

level_signed : (s t : Bool) (x y : ℕ) → level s x t y ≡ eq_z (signed s x) (signed t y)
level_signed false false x y = and-true (eqb x y)
level_signed false true x zero = and_same (eqb x 0)
level_signed false true x (suc y) = unlike x y
level_signed true false zero y = and-true (eqb 0 y)
level_signed true false (suc x) y = ap (λ (b : Bool). eqb (suc x) y && b) (eqb-suc-zero x) ∙ and-false (eqb (suc x) y)
level_signed true true zero zero = refl
level_signed true true zero (suc y) = ap (λ (b : Bool). b && true) (eqb-zero-suc y)
level_signed true true (suc x) zero = ap (λ (b : Bool). b && true) (eqb-suc-zero x)
level_signed true true (suc x) (suc y) = and-true (eqb (suc x) (suc y)) ∙ eqb-suc-suc x y

eq_beside : (s : Bool) (m : ℕ) (t : Bool) (n : ℕ) (d : ℤ) (x : Float) → HasValue x s m 1 → eq x (fin t n d) ≡ level s (m * down d) t (n * up d)
unfolding eq
eq_beside s m t n d nan v = absurd v
eq_beside s m t n d (inf z) v = absurd v
eq_beside s m t n d (fin z p e) v =
    ap₂ (λ (b : Bool) (q : ℕ). level b q t (n * up d * down e)) v.0 (step s m t n d p e v.1)
    ∙ level_scale s (m * down d) t (n * up d) (down e) (down_up e)

pub eq_mixed : (a : ℤ) → SmallInt a → (t : Bool) (n : ℕ) (d : ℤ) → eq (of_int binary64 a) (fin t n d) ≡ eq_z (a *ℤ pos (down d)) (signed t (n * up d))
eq_mixed a s t n d =
    eq_beside (sign a) (nat_abs a) t n d (of_int binary64 a) (exact_int a s)
    ∙ level_signed (sign a) t (nat_abs a * down d) (n * up d)
    ∙ ap (λ (z : ℤ). eq_z z (signed t (n * up d))) (times a (down d))
