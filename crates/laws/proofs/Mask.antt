-- Laws of `mask`: its bits, and a bit more. Assumes nothing.
use mathlib.Core.Path.{◌≡◌, refl, sym, ap, subst, ◌∙◌}
use mathlib.Core.Logic.{⊎_elim}
use mathlib.Core.Bool.{Bool, true, false}
use Prim.Native.Nat.{ℕ, zero, suc, ◌+◌, ◌-◌, ◌*◌, ◌/◌, ◌%◌, ◌^◌, ◌<◌, ◌≤◌}
use native.Mathlib.Omega.{arith}
use native.Mathlib.Numerals.{add-one}
use native.Mathlib.Nat.{pow-suc, eq-or-lt_of_le}
use lib.Bits.{bit_or, or_zero_r, or_shifted_r}
use lib.Pow.{pow_pos, shl_exact, high, low, field, mod-mod-pow}
use mir.Val.{bool_byte}
use Rattle.laws.specs.Mask.{mask}

below_cases : (x p : ℕ) (b : Bool) → x < p → x + bool_byte b * p < p * 2
below_cases x p true h = omega arith
below_cases x p false h = omega arith

or_cases : (x v r : ℕ) (b : Bool) → x < 2 ^ r → v ≡ 1 * 2 ^ r * bool_byte b → bit_or x v ≡ x + bool_byte b * 2 ^ r
or_cases x v r false h e = let z : v ≡ 0 = omega arith in rw (z, or_zero_r x) (omega arith)
or_cases x v r true h e = let z : v ≡ 1 * 2 ^ r = omega arith in rw (z, or_shifted_r 1 r x h) (omega arith)

module _ (f : ℕ → Bool) where
  pub mask_none : 0 ≡ mask f 0
  unfolding mask
  mask_none = refl

  pub mask_below : (r : ℕ) → mask f r < 2 ^ r
  unfolding mask
  mask_below zero = pow_pos 0
  mask_below (suc r) = rw (pow-suc 2 r) (below_cases (mask f r) (2 ^ r) (f r) (mask_below r))

  -- a word of 64 bits with bit r put in
  pub mask_more : (m v r : ℕ) (b : Bool) → m ≡ mask f r → b ≡ f r → r < 64 → v ≡ bool_byte b → bit_or m ((v * 2 ^ r) % 2 ^ 64) ≡ mask f (r + 1)
  unfolding mask
  mask_more m v r b e g h i =
      let q : v ≤ 1 = rw i (bit b) in
      let z : (v * 2 ^ r) % 2 ^ 64 ≡ v * 2 ^ r = shl_exact 1 r 64 (omega arith) (omega arith) in
      rw (add-one, z, e, ← g) (or_cases (mask f r) (v * 2 ^ r) r b (mask_below r) (by b i))
    where
      bit : (b : Bool) → bool_byte b ≤ 1
      bit true = omega arith
      bit false = omega arith

      by : (b : Bool) → v ≡ bool_byte b → v * 2 ^ r ≡ 1 * 2 ^ r * bool_byte b
      by true i = rw i (omega arith)
      by false i = rw i (omega arith)

  pub mask_done : (m r n k : ℕ) → n ≤ r → r ≤ n → n ≡ k → m ≡ mask f r → m ≡ mask f k
  mask_done m r n k h l e g = let q : r ≡ k = omega arith in rw q at g

  -- bit r below n says f r
  high_cases : (x m : ℕ) (b : Bool) → x < 2 ^ m → (x + bool_byte b * 2 ^ m) / 2 ^ m % 2 ≡ bool_byte b
  high_cases x m b h =
      let e : x + bool_byte b * 2 ^ m ≡ bool_byte b * 2 ^ m + x = omega arith in
      rw (e, high (bool_byte b) m h) (small b)
    where
      small : (b : Bool) → bool_byte b % 2 ≡ bool_byte b
      small true = refl
      small false = refl

  low_same : (x y j r : ℕ) → x < 2 ^ (j + (1 + r)) → (x + y * 2 ^ (j + (1 + r))) / 2 ^ r % 2 ≡ x / 2 ^ r % 2
  low_same x y j r h =
      let e : x + y * 2 ^ (j + (1 + r)) ≡ y * 2 ^ (j + (1 + r)) + x = omega arith in
      let n = y * 2 ^ (j + (1 + r)) + x in
      rw e
      (sym (field n 1 r)
      ∙ ap (λ (z : ℕ). z / 2 ^ r) (sym (mod-mod-pow n j (1 + r)) ∙ ap (λ (z : ℕ). z % 2 ^ (1 + r)) (low y (j + (1 + r)) h))
      ∙ field x 1 r)

  pub mask_bit : (n r : ℕ) → r < n → mask f n / 2 ^ r % 2 ≡ bool_byte (f r)
  unfolding mask
  mask_bit zero r h = absurd (omega arith)
  mask_bit (suc m) r h =
      ⊎_elim
      (λ q. rw q (high_cases (mask f m) m (f m) (mask_below m)))
      (λ q.
      let e : m ≡ m - (1 + r) + (1 + r) = omega arith in
      lower e ∙ mask_bit m r q)
      (eq-or-lt_of_le (le_of r m h))
    where
      le_of : (r m : ℕ) → r < suc m → r ≤ m
      le_of r m h = omega arith

      lower : m ≡ m - (1 + r) + (1 + r) → (mask f m + bool_byte (f m) * 2 ^ m) / 2 ^ r % 2 ≡ mask f m / 2 ^ r % 2
      lower e =
          let b : mask f m < 2 ^ (m - (1 + r) + (1 + r)) = rw (← e) (mask_below m) in
          subst (λ (z : ℕ). (mask f m + bool_byte (f m) * 2 ^ z) / 2 ^ r % 2 ≡ mask f m / 2 ^ r % 2) (sym e) (low_same (mask f m) (bool_byte (f m)) (m - (1 + r))
          r b)

  -- written out
  pub mask_five : mask f 5 ≡ 1 * bool_byte (f 0) + 2 * bool_byte (f 1) + 4 * bool_byte (f 2) + 8 * bool_byte (f 3) + 16 * bool_byte (f 4)
  unfolding mask
  mask_five = omega arith
