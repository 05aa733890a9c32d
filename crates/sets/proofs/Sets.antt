-- Sets of registers put together, in one word of any width. Assumes nothing.
use mathlib.Core.Path.{◌≡◌, refl, sym, ap, ap₂, ◌∙◌}
use mathlib.Core.Bool.{Bool, true, false, cond, ◌&&◌, false≢true}
use mathlib.Core.List.{List, [], ◌∷◌, ◌++◌}
use Prim.Native.Nat.{ℕ, zero, suc, ◌+◌, ◌-◌, ◌^◌, ◌≤◌, ◌<◌}
use native.Mathlib.Nat.{add-zero}
use native.Mathlib.Numerals.{add-one}
use native.Mathlib.Omega.{arith}
use borrow.Author.Tests.{ltb-true, ltb-false, lt-ltb, le-ltb}
use lib.Bits.{bit_and, bit_or, or_zero_l, or_zero_r}
use lib.Dec.{ltb}
use lib.ListN.{get_or}
use lib.Pow.{pow-lt, pow_pos}
use Rattle.roles.specs.Sets.{only, from}
use Rattle.flow.specs.Set.{minus, alone}
use Rattle.flow.specs.Flow.{joined, row_at}
use Rattle.flow.specs.Sweep.{row}
use Rattle.flow.proofs.Bits.{bit_lt, bit_ext, or_bit, minus_bit}
use Rattle.flow.proofs.Rows.{joined_lt}
use Rattle.flow.proofs.Buffer.{step_word}
use Rattle.steps.specs.Code.{set_of}
use Rattle.steps.specs.Inner.{used_of, given_of, after_of, step_flow}
use Rattle.steps.specs.declared.Step.{Step}

pub or_assoc : (a b c : ℕ) → bit_or (bit_or a b) c ≡ bit_or a (bit_or b c)
or_assoc a b c = bit_ext (bit_or (bit_or a b) c) (bit_or a (bit_or b c))
    (λ r. omega (arith, or_bit (bit_or a b) c r, or_bit a b r, or_bit a (bit_or b c) r, or_bit b c r))

pub minus_minus : (a b c : ℕ) → minus (minus a b) c ≡ minus a (bit_or b c)
minus_minus a b c = bit_ext (minus (minus a b) c) (minus a (bit_or b c))
    (λ r. omega (arith, minus_bit (minus a b) c r, minus_bit a b r, minus_bit a (bit_or b c) r, or_bit b c r, bit_lt a r, bit_lt b r, bit_lt c r))

pub joined_append : (R : ℕ → ℕ) (l m : List ℕ) → joined R (l ++ m) ≡ bit_or (joined R l) (joined R m)
unfolding joined
joined_append R [] m = sym (or_zero_l (joined R m))
joined_append R (s ∷ l) m = ap (bit_or (R s)) (joined_append R l m) ∙ sym (or_assoc (R s) (joined R l) (joined R m))

pub both : (R : ℕ → ℕ) (l m : List ℕ) (p q : ℕ) → p ≡ joined R l → q ≡ joined R m → bit_or p q ≡ joined R (l ++ m)
both R l m p q e h = rw (e, h) (sym (joined_append R l m))

pub both_of : (R : ℕ → ℕ) (l m : List ℕ) (x p q : ℕ) → x ≡ bit_or p q → p ≡ joined R l → q ≡ joined R m → x ≡ joined R (l ++ m)
both_of R l m x p q h e f = h ∙ both R l m p q e f

-- ---- one row, if

module _ (rows : List ℕ) (t : Bool) (k : ℕ) where
  pub row_in : t ≡ true → get_or rows k 0 ≡ joined (row rows) (only t k)
  unfolding joined
  row_in e = rw e (sym (or_zero_r (get_or rows k 0)))

  pub row_out : t ≡ false → 0 ≡ joined (row rows) (only t k)
  unfolding joined
  row_out e = rw e

-- ---- one register, if

module _ (regs r : ℕ) (t : Bool) where
  pub reg_in : t ≡ true → r < regs → set_of regs (only t r) ≡ alone regs r
  unfolding joined
  reg_in e l = rw e (or_zero_r (alone regs r))

  pub reg_past : t ≡ true → regs ≤ r → set_of regs (only t r) ≡ 0
  unfolding joined
  reg_past e l = rw (e, le-ltb r regs l) (or_zero_r 0)

  pub reg_none : t ≡ false → set_of regs (only t r) ≡ 0
  unfolding joined
  reg_none e = rw e

pub reg_both : (regs r : ℕ) (t : Bool) → t && ltb r regs ≡ true → (t ≡ true) × (r < regs)
reg_both regs r true e = (refl, ltb-true r regs e)
reg_both regs r false e = absurd (false≢true e)

pub reg_is : (regs r : ℕ) (t : Bool) (x : ℕ) → t && ltb r regs ≡ true → x ≡ 2 ^ r → x ≡ set_of regs (only t r)
reg_is regs r t x e h = let (p, l) = reg_both regs r t e in h ∙ sym (reg_in regs r t p l ∙ ap (λ (u : Bool). cond u (2 ^ r) 0) (lt-ltb r regs l))

pub reg_not : (regs r : ℕ) (t : Bool) → t && ltb r regs ≡ false → set_of regs (only t r) ≡ 0
reg_not regs r true e = reg_past regs r true refl (ltb-false r regs e)
reg_not regs r false e = reg_none regs r false refl

pub reg_else : (regs r : ℕ) (t : Bool) (x : ℕ) → t && ltb r regs ≡ false → x ≡ 0 → x ≡ set_of regs (only t r)
reg_else regs r t x e h = h ∙ sym (reg_not regs r t e)

-- a set fits the register count
pub set_lt : (d regs : ℕ) (l : List ℕ) → regs ≤ d → set_of regs l < 2 ^ d
set_lt d regs l le = joined_lt d (alone regs) l (λ r. go r (ltb r regs) refl)
  where
    go : (r : ℕ) (t : Bool) → ltb r regs ≡ t → cond t (2 ^ r) 0 < 2 ^ d
    go r true e = pow-lt (less (ltb-true r regs e))
      where
        less : r < regs → r < d
        less h = omega arith
    go r false e = pow_pos d

-- ---- registers in a run

pub from_more : (b i : ℕ) → from b (i + 1) ≡ from b i ++ ((b + i) ∷ [])
from_more b i = ap (from b) (add-one i) ∙ go b i
  where
    go : (b i : ℕ) → from b (suc i) ≡ from b i ++ ((b + i) ∷ [])
    go b zero = ap (λ (x : ℕ). x ∷ []) (sym (add-zero b))
    go b (suc i) = ap (λ (l : List ℕ). b ∷ l) (go (suc b) i ∙ ap (λ (x : ℕ). from (suc b) i ++ (x ∷ [])) (omega arith))

module _ (regs b : ℕ) where
  pub run_start : (x : ℕ) → x ≡ 0 → x ≡ set_of regs (from b 0)
  unfolding joined
  run_start x e = e

  pub run_more : (i x p q : ℕ) → x ≡ bit_or p q → p ≡ set_of regs (from b i) → q ≡ set_of regs (only true (b + i)) → x ≡ set_of regs (from b (i + 1))
  run_more i x p q h e f = both_of (alone regs) (from b i) ((b + i) ∷ []) x p q h e f ∙ ap (set_of regs) (sym (from_more b i))

-- ---- a row in one word

pub row_is : (bits regs k : ℕ) (s : Step) (rows : List ℕ) (a g u : ℕ) → a ≡ joined (row rows) (after_of s k) → g ≡ set_of regs (given_of s) → u ≡ set_of regs
    (used_of s)
    → a < 2 ^ bits → g < 2 ^ bits → bit_or u (bit_and a ((2 ^ bits - 1) - g)) ≡ row_at (step_flow regs s) (row rows) k
row_is bits regs k s rows a g u = step_word (step_flow regs s) (row rows) k bits a g u refl

-- the same, where the words are told by their sets
pub row_told : (regs k : ℕ) (s : Step) (rows : List ℕ) (x a g u m : ℕ) → x ≡ bit_or u m → m ≡ minus a g → a ≡ joined (row rows) (after_of s k)
    → g ≡ set_of regs (given_of s) → u ≡ set_of regs (used_of s) → x ≡ row_at (step_flow regs s) (row rows) k
unfolding row_at
row_told regs k s rows x a g u m ex em ea eg eu = ex ∙ ap₂ bit_or eu (em ∙ ap₂ minus ea eg)
