-- Laws of a set's bits: or, and, minus, a single register, a mask's complement. Assumes nothing.
use mathlib.Core.Path.{◌≡◌, refl, sym, ap, ap₂, ◌∙◌, subst}
use mathlib.Core.Logic.{◌≢◌}
use Prim.Native.Nat.{ℕ, zero, suc, ◌+◌, ◌-◌, ◌*◌, ◌/◌, ◌%◌, ◌^◌, ◌≤◌, ◌<◌, min, max}
use native.Mathlib.Decide.{ℕ_discrete, dec_lt}
use native.Mathlib.Nat.{mod-eq_of_lt, mul-add-mod_self_right, mod-lt, div-one, zero-div, zero-mod, pow-suc, mul_comm, mul_assoc, one-mul, add-zero}
use native.Mathlib.Nat.{div-div-eq-div-mul, div-eq_of_lt, mul-mod_left, lt_of_lt_of_le, div-lt_iff_lt-mul, zero-lt-suc, le-add_right, le-add_left}
use native.Mathlib.Omega.{arith}
use lib.Arith.{digits_mod, half_le}
use lib.Bits.{bit_and, bit_or, bit_xor, differ, and_shr, or_shr, xor_shr, and_step, or_step, xor_step}
use lib.Pow.{pow_mono, pow-add, pow_pos, shl-shr, shr-shr}
use Rattle.flow.specs.Set.{bit, minus}

pub bit_lt : (s r : ℕ) → bit s r < 2
unfolding bit
bit_lt s r = mod-lt (s / 2 ^ r) (zero-lt-suc 1)

pub bit_zero : (r : ℕ) → bit 0 r ≡ 0
unfolding bit
bit_zero r = ap (λ (x : ℕ). x % 2) (zero-div (2 ^ r)) ∙ zero-mod 2

max_digit : (a b : ℕ) → max (a % 2) (b % 2) < 2
max_digit a b = omega (arith, mod-lt a (zero-lt-suc 1), mod-lt b (zero-lt-suc 1))

min_digit : (a b : ℕ) → min (a % 2) (b % 2) < 2
min_digit a b = omega (arith, mod-lt a (zero-lt-suc 1), mod-lt b (zero-lt-suc 1))

-- two digits that differ where the second is the smaller of the first and c
differ_min : (x c : ℕ) → x < 2 → c < 2 → differ x (min x c) ≡ x - c
differ_min zero c hx hc = min_zero_left c ∙ omega arith
  where
    min_zero_left : (c : ℕ) → min 0 c ≡ 0
    min_zero_left c = omega arith
differ_min (suc zero) zero hx hc = refl
differ_min (suc zero) (suc zero) hx hc = refl
differ_min (suc zero) (suc (suc c)) hx hc = absurd (omega arith)
differ_min (suc (suc x)) c hx hc = absurd (omega arith)

pub or_bit : (a b r : ℕ) → bit (bit_or a b) r ≡ max (bit a r) (bit b r)
unfolding bit
or_bit a b r =
    ap (λ (x : ℕ). x % 2) (or_shr a b r ∙ or_step (a / 2 ^ r) (b / 2 ^ r))
    ∙ digits_mod (bit_or (a / 2 ^ r / 2) (b / 2 ^ r / 2)) (max_digit (a / 2 ^ r) (b / 2 ^ r))

pub and_bit : (a b r : ℕ) → bit (bit_and a b) r ≡ min (bit a r) (bit b r)
unfolding bit
and_bit a b r =
    ap (λ (x : ℕ). x % 2) (and_shr a b r ∙ and_step (a / 2 ^ r) (b / 2 ^ r))
    ∙ digits_mod (bit_and (a / 2 ^ r / 2) (b / 2 ^ r / 2)) (min_digit (a / 2 ^ r) (b / 2 ^ r))

pub xor_bit : (a b r : ℕ) → bit (bit_xor a b) r ≡ differ (bit a r) (bit b r) % 2
unfolding bit
xor_bit a b r =
    ap (λ (x : ℕ). x % 2) (xor_shr a b r ∙ xor_step (a / 2 ^ r) (b / 2 ^ r))
    ∙ mul-add-mod_self_right (bit_xor (a / 2 ^ r / 2) (b / 2 ^ r / 2)) 2 (differ (bit a r) (bit b r))

pub minus_bit : (a b r : ℕ) → bit (minus a b) r ≡ bit a r - bit b r
unfolding minus
minus_bit a b r =
    xor_bit a (bit_and a b) r
    ∙ ap (λ (x : ℕ). differ (bit a r) x % 2) (and_bit a b r)
    ∙ ap (λ (x : ℕ). x % 2) (differ_min (bit a r) (bit b r) (bit_lt a r) (bit_lt b r))
    ∙ mod-eq_of_lt (omega (arith, bit_lt a r))

pub half_bit : (a r : ℕ) → bit (a / 2) r ≡ bit a (suc r)
unfolding bit
half_bit a r = ap (λ (x : ℕ). x % 2) (div-div-eq-div-mul a 2 (2 ^ r) ∙ ap (λ (x : ℕ). a / x) (mul_comm 2 (2 ^ r) ∙ sym (pow-suc 2 r)))

pub low_bit : (a : ℕ) → bit a 0 ≡ a % 2
unfolding bit
low_bit a = ap (λ (x : ℕ). x % 2) (div-one a)

-- two different numbers differ in a bit
pub bit_apart : (d a b : ℕ) → a ≤ d → b ≤ d → (a ≡ b → ⊥) → (r : ℕ) × (bit a r ≡ bit b r → ⊥)
bit_apart zero a b ha hb ne = absurd (ne (omega arith))
bit_apart (suc d) a b ha hb ne = go (ℕ_discrete (a % 2) (b % 2)) (λ h. bit_apart d (a / 2) (b / 2) (half_le ha) (half_le hb) h)
  where
    go : Dec (a % 2 ≡ b % 2) → ((a / 2 ≡ b / 2 → ⊥) → (r : ℕ) × (bit (a / 2) r ≡ bit (b / 2) r → ⊥)) → (r : ℕ) × (bit a r ≡ bit b r → ⊥)
    go (yes e) up =
        let w = up (λ h. ne (omega arith)) in
        (suc w.0, λ h. w.1 (half_bit a w.0 ∙ h ∙ sym (half_bit b w.0)))
    go (no n) up = (0, λ h. n (sym (low_bit a) ∙ h ∙ low_bit b))

pub bit_ext : (a b : ℕ) → ((r : ℕ) → bit a r ≡ bit b r) → a ≡ b
bit_ext a b h = go (ℕ_discrete a b)
  where
    go : Dec (a ≡ b) → a ≡ b
    go (yes e) = e
    go (no n) = let w = bit_apart (a + b) a b (le-add_right a b) (le-add_left b a) n in absurd (w.1 (h w.0))

pub bit_high : (x w r : ℕ) → x < 2 ^ w → w ≤ r → bit x r ≡ 0
unfolding bit
bit_high x w r l le = ap (λ (y : ℕ). y % 2) (div-eq_of_lt (lt_of_lt_of_le l (pow_mono le))) ∙ zero-mod 2

pub bit_up : (v w i : ℕ) → bit (v * 2 ^ w) (w + i) ≡ bit v i
unfolding bit
bit_up v w i = ap (λ (y : ℕ). y % 2) (ap (λ (y : ℕ). v * 2 ^ w / y) (pow-add 2 w i) ∙ sym (div-div-eq-div-mul (v * 2 ^ w) (2 ^ w) (2 ^ i))
    ∙ ap (λ (y : ℕ). y / 2 ^ i) (shl-shr v w))

pub bit_down : (v r d : ℕ) → bit (v * 2 ^ (suc d + r)) r ≡ 0
unfolding bit
bit_down v r d =
    ap (λ (y : ℕ). y / 2 ^ r % 2) (ap (λ (y : ℕ). v * y) (pow-add 2 (suc d) r) ∙ sym (mul_assoc v (2 ^ suc d) (2 ^ r)))
    ∙ ap (λ (y : ℕ). y % 2) (shl-shr (v * 2 ^ suc d) r)
    ∙ ap (λ (y : ℕ). y % 2) (ap (λ (y : ℕ). v * y) (pow-suc 2 d) ∙ sym (mul_assoc v (2 ^ d) 2))
    ∙ mul-mod_left (v * 2 ^ d) 2

-- a set whose bits from d on are 0 is below 2 ^ d
pub bits_lt : (x d : ℕ) → ((r : ℕ) → d ≤ r → bit x r ≡ 0) → x < 2 ^ d
unfolding bit
bits_lt x d h = rw one-mul at ((div-lt_iff_lt-mul {k = 2 ^ d} {x = x} {y = 1} (pow_pos d)).0 (omega (arith, none)))
  where
    none : x / 2 ^ d ≡ 0
    none = bit_ext (x / 2 ^ d) 0 (λ r. ap (λ (y : ℕ). y % 2) (shr-shr x d r) ∙ h (d + r) (le-add_right d r) ∙ sym (bit_zero r))

pub minus_lt : (w s t : ℕ) → s < 2 ^ w → minus s t < 2 ^ w
minus_lt w s t l = bits_lt (minus s t) w (λ r h. omega (arith, minus_bit s t r, bit_high s w r l h))

-- a register alone
pub pow_here : (a : ℕ) → bit (2 ^ a) a ≡ 1
unfolding bit
pow_here a = ap₂ bit (sym (one-mul (2 ^ a))) (sym (add-zero a)) ∙ bit_up 1 a 0

pub pow_other : (a b : ℕ) → a ≢ b → bit (2 ^ a) b ≡ 0
pow_other a b n = go (dec_lt b a)
  where
    go : Dec (b < a) → bit (2 ^ a) b ≡ 0
    go (yes l) =
        let gap : a ≡ suc (a - suc b) + b = omega arith in
        ap (λ (x : ℕ). bit x b) (ap (λ (y : ℕ). 2 ^ y) gap ∙ sym (one-mul (2 ^ (suc (a - suc b) + b)))) ∙ bit_down 1 b (a - suc b)
    go (no m) =
        let gap : b ≡ a + (b - a) = omega arith in
        ap₂ bit (sym (one-mul (2 ^ a))) gap ∙ bit_up 1 a (b - a) ∙ bit_high 1 1 (b - a) (omega arith) (omega arith)

-- ---- a mask's complement

comp_bit : (w t r : ℕ) → t < 2 ^ w → r < w → bit ((2 ^ w - 1) - t) r ≡ 1 - bit t r
comp_bit zero t r l h = absurd (omega arith)
comp_bit (suc w) t zero l h =
    low_bit ((2 ^ suc w - 1) - t) ∙ ap (λ (x : ℕ). ((x - 1) - t) % 2) (pow-suc 2 w) ∙ odd (2 ^ w) (subst (λ (x : ℕ). t < x) (pow-suc 2 w) l)
    ∙ ap (λ (x : ℕ). 1 - x) (sym (low_bit t))
  where
    odd : (p : ℕ) → t < p * 2 → ((p * 2 - 1) - t) % 2 ≡ 1 - t % 2
    odd p l' = omega arith
comp_bit (suc w) t (suc r) l h =
    sym (half_bit ((2 ^ suc w - 1) - t) r) ∙ ap (λ (x : ℕ). bit (((x - 1) - t) / 2) r) (pow-suc 2 w) ∙ ap (λ (x : ℕ). bit x r) (half (2 ^ w) l'')
    ∙ comp_bit w (t / 2) r (small (2 ^ w) l'') (omega arith) ∙ ap (λ (x : ℕ). 1 - x) (half_bit t r)
  where
    l'' : t < 2 ^ w * 2
    l'' = subst (λ (x : ℕ). t < x) (pow-suc 2 w) l

    half : (p : ℕ) → t < p * 2 → ((p * 2 - 1) - t) / 2 ≡ (p - 1) - t / 2
    half p l' = omega arith

    small : (p : ℕ) → t < p * 2 → t / 2 < p
    small p l' = omega arith

-- the machine's s & !t
pub and_not : (w s t : ℕ) → s < 2 ^ w → t < 2 ^ w → bit_and s ((2 ^ w - 1) - t) ≡ minus s t
and_not w s t ls lt = bit_ext (bit_and s ((2 ^ w - 1) - t)) (minus s t) (λ r. at r (dec_lt r w))
  where
    at : (r : ℕ) → Dec (r < w) → bit (bit_and s ((2 ^ w - 1) - t)) r ≡ bit (minus s t) r
    at r (yes h) = omega (arith, and_bit s ((2 ^ w - 1) - t) r, comp_bit w t r lt h, minus_bit s t r, bit_lt s r, bit_lt t r)
    at r (no n) = omega (arith, and_bit s ((2 ^ w - 1) - t) r, minus_bit s t r, bit_high s w r ls (omega arith))
