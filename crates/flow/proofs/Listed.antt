-- The walk by trailing zeros gives the registers of a set, ascending, word by word. Assumes nothing.
use mathlib.Core.Path.{◌≡◌, refl, sym, ap, ap₂, ◌∙◌, subst}
use mathlib.Core.List.{List, [], ◌∷◌, ◌++◌, append-nil}
use Prim.Native.Nat.{ℕ, zero, suc, ◌+◌, ◌-◌, ◌*◌, ◌/◌, ◌%◌, ◌^◌, ◌≤◌, ◌<◌, min}
use native.Mathlib.Nat.{add_comm, zero-mul, mul-zero, suc-mul, mul-suc, lt_of_le_of_lt, mod-lt, zero-lt-suc, add-zero, add-suc, suc-add, pow-suc, zero-add}
use native.Mathlib.Nat.{div-lt_iff_lt-mul}
use native.Mathlib.Numerals.{add-one}
use native.Mathlib.Omega.{arith}
use lib.Arith.{lt-one}
use lib.Bits.{bit_and, and_step, and_self, and_le_l, and_le_r, block_half, block_odd}
use lib.Count.{count_trailing_zeros, under, ones, ones_step}
use lib.ListN.{length, get_or, drop}
use lib.Seq.{drop-cons}
use Rattle.flow.specs.Listed.{listed, keep}
use Rattle.flow.specs.Words.{value}

half_pow : (x d : ℕ) → x < 2 ^ suc d → x / 2 < 2 ^ d
half_pow x d l = (div-lt_iff_lt-mul (zero-lt-suc 1)).1 (subst (λ (y : ℕ). x < y) (pow-suc 2 d) l)

-- x & (x - 1) takes the lowest register off
drop_odd : (x : ℕ) → x % 2 ≡ 1 → bit_and x (x - 1) ≡ x / 2 * 2
drop_odd x e =
    and_step x (x - 1) ∙ ap₂ (λ (a b : ℕ). a * 2 + b) (ap (λ (y : ℕ). bit_and (x / 2) y) half ∙ and_self (x / 2)) low ∙ add-zero (x / 2 * 2)
  where
    half : (x - 1) / 2 ≡ x / 2
    half = omega arith

    low : min (x % 2) ((x - 1) % 2) ≡ 0
    low = omega arith

drop_even : (x : ℕ) → 0 < x → x % 2 ≡ 0 → bit_and x (x - 1) ≡ bit_and (x / 2) (x / 2 - 1) * 2
drop_even x l e =
    and_step x (x - 1) ∙ ap₂ (λ (a b : ℕ). a * 2 + b) (ap (λ (y : ℕ). bit_and (x / 2) y) half) low ∙ add-zero (bit_and (x / 2) (x / 2 - 1) * 2)
  where
    half : (x - 1) / 2 ≡ x / 2 - 1
    half = omega arith

    low : min (x % 2) ((x - 1) % 2) ≡ 0
    low = omega arith

listed_even : (d p y : ℕ) → listed (suc d) p (y * 2) ≡ listed d (suc p) y
unfolding listed
listed_even d p y = ap₂ (λ (b z : ℕ). keep b p (listed d (suc p) z)) (low y) (half y)
  where
    low : (y : ℕ) → y * 2 % 2 ≡ 0
    low y = omega arith

    half : (y : ℕ) → y * 2 / 2 ≡ y
    half y = omega arith

-- trailing zeros find the lowest register
pub walk : (d p x : ℕ) → 0 < x → x < 2 ^ d → listed d p x ≡ (p + count_trailing_zeros d x) ∷ listed d p (bit_and x (x - 1))
unfolding listed count_trailing_zeros
walk zero p x pos l = absurd (omega arith)
walk (suc d) p x pos l = go (x % 2) refl (mod-lt x (zero-lt-suc 1)) (λ h. walk d (suc p) (x / 2) h (half_pow x d l))
  where
    go : (b : ℕ) → x % 2 ≡ b → b < 2
        → (0 < x / 2 → listed d (suc p) (x / 2) ≡ (suc p + count_trailing_zeros d (x / 2)) ∷ listed d (suc p) (bit_and (x / 2) (x / 2 - 1)))
        → keep b p (listed d (suc p) (x / 2)) ≡ (p + under b (count_trailing_zeros d (x / 2))) ∷ listed (suc d) p (bit_and x (x - 1))
    go zero e h ih =
        ih (omega arith)
        ∙ ap₂ (λ (r : ℕ) (l' : List ℕ). r ∷ l') (suc-add p (count_trailing_zeros d (x / 2)) ∙ sym (add-suc p (count_trailing_zeros d (x / 2))))
        (sym (ap (λ (y : ℕ). listed (suc d) p y) (drop_even x pos e) ∙ listed_even d p (bit_and (x / 2) (x / 2 - 1))))
    go (suc zero) e h ih =
        ap₂ (λ (r : ℕ) (l' : List ℕ). r ∷ l') (sym (add-zero p)) (sym (ap (λ (y : ℕ). listed (suc d) p y) (drop_odd x e) ∙ listed_even d p (x / 2)))
    go (suc (suc b)) e h ih = absurd (omega arith)

pub walk_less : (x : ℕ) → 0 < x → bit_and x (x - 1) < x
walk_less x l = omega (arith, and_le_r x (x - 1))

pub walk_small : (w x : ℕ) → x < 2 ^ w → bit_and x (x - 1) < 2 ^ w
walk_small w x l = lt_of_le_of_lt (and_le_l x (x - 1)) l

pub listed_none : (d p : ℕ) → listed d p 0 ≡ []
unfolding listed
listed_none zero p = refl
listed_none (suc d) p = listed_none d (suc p)

-- a word and the words above it
pub listed_cat : (w d p v x : ℕ) → x < 2 ^ w → listed (w + d) p (v * 2 ^ w + x) ≡ listed w p x ++ listed d (p + w) v
unfolding listed
listed_cat zero d p v x l = ap (λ (n : ℕ). listed n p (v * 2 ^ 0 + x)) (zero-add d) ∙ ap₂ (λ (a b : ℕ). listed d a b) (sym (add-zero p)) (low v x l)
  where
    low : (v x : ℕ) → x < 1 → v * 1 + x ≡ v
    low v x h = omega arith
listed_cat (suc w) d p v x l =
    ap (λ (n : ℕ). listed n p (v * 2 ^ suc w + x)) (suc-add w d)
    ∙ ap₂ (λ (b z : ℕ). keep b p (listed (w + d) (suc p) z)) (block_odd v w x) (block_half v w x)
    ∙ ap (λ (l' : List ℕ). keep (x % 2) p l') (listed_cat w d (suc p) v (x / 2) (half_pow x w l) ∙ ap (λ (q : ℕ). listed w (suc p) (x / 2) ++ listed d q v)
    (suc-add p w ∙ sym (add-suc p w)))
    ∙ push (x % 2) (listed w (suc p) (x / 2)) (listed d (p + suc w) v)
  where
    push : (b : ℕ) (s t : List ℕ) → keep b p (s ++ t) ≡ keep b p s ++ t
    push zero s t = refl
    push (suc b) s t = refl

-- registers past the highest of a set list nothing
pub listed_wide : (d e p x : ℕ) → x < 2 ^ d → d ≤ e → listed e p x ≡ listed d p x
listed_wide d e p x l le =
    ap₂ (λ (n y : ℕ). listed n p y) gap plain ∙ listed_cat d (e - d) p 0 x l ∙ ap (λ (t : List ℕ). listed d p x ++ t) (listed_none (e - d) (p + d)) ∙ append-nil
    (listed d p x)
  where
    gap : e ≡ d + (e - d)
    gap = omega arith

    plain : x ≡ 0 * 2 ^ d + x
    plain = sym (ap (λ (y : ℕ). y + x) (zero-mul (2 ^ d)) ∙ zero-add x)

-- as many as there are ones
pub listed_ones : (d p x : ℕ) → x < 2 ^ d → length (listed d p x) ≡ ones x
unfolding listed ones
listed_ones zero p x l = sym (ap ones (lt-one l))
listed_ones (suc d) p x l = go (x % 2) (mod-lt x (zero-lt-suc 1)) ∙ ap (λ (y : ℕ). x % 2 + y) (listed_ones d (suc p) (x / 2) (half_pow x d l))
    ∙ sym (ones_step x)
  where
    go : (b : ℕ) → b < 2 → length (keep b p (listed d (suc p) (x / 2))) ≡ b + length (listed d (suc p) (x / 2))
    go zero h = sym (zero-add (length (listed d (suc p) (x / 2))))
    go (suc zero) h = omega arith
    go (suc (suc b)) h = absurd (omega arith)

-- ---- the registers of words from word j on

unfoldable pub onward : ℕ → ℕ → List ℕ → ℕ → List ℕ
onward w words ws j = listed ((words - j) * w) (w * j) (value w (drop j ws))

module _ (w words : ℕ) (ws : List ℕ) where
  pub onward_start : listed (words * w) 0 (value w ws) ≡ onward w words ws 0
  unfolding onward
  onward_start = ap₂ (λ (a b : ℕ). listed (a * w) b (value w ws)) (none words) (sym (mul-zero w))
    where
      none : (x : ℕ) → x ≡ x - 0
      none x = omega arith

  pub onward_end : (j : ℕ) → words ≤ j → onward w words ws j ≡ []
  unfolding onward listed
  onward_end j le = ap (λ (x : ℕ). listed x (w * j) (value w (drop j ws))) (ap (λ (x : ℕ). x * w) gone ∙ zero-mul w)
    where
      gone : words - j ≡ 0
      gone = omega arith

  pub onward_next : (j : ℕ) → j < words → j < length ws → get_or ws j 0 < 2 ^ w → onward w words ws j ≡ listed w (w * j) (get_or ws j 0) ++ onward w words ws
      (j + 1)
  unfolding onward value
  onward_next j lt lj small =
      ap₂ (λ (a : ℕ) (b : List ℕ). listed a (w * j) (value w b)) count (drop-cons ws j 0 lj)
      ∙ listed_cat w ((words - suc j) * w) (w * j) (value w (drop (suc j) ws)) (get_or ws j 0) small
      ∙ ap (λ (t : List ℕ). listed w (w * j) (get_or ws j 0) ++ t)
      (ap₂ (λ (x y : ℕ). listed ((words - x) * w) y (value w (drop x ws))) (sym (add-one j)) (sym (mul-suc w j) ∙ ap (λ (x : ℕ). w * x) (sym (add-one j))))
    where
      more : words - j ≡ suc (words - suc j)
      more = omega arith

      count : (words - j) * w ≡ w + (words - suc j) * w
      count = ap (λ (x : ℕ). x * w) more ∙ suc-mul (words - suc j) w ∙ add_comm ((words - suc j) * w) w
