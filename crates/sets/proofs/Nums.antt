-- Steps over words of any type, by their numbers. Assumes nothing.
use mathlib.Core.Path.{◌≡◌, refl, sym, ap, ap₂, ◌∙◌, subst}
use mathlib.Core.Bool.{Bool, true, false, cond, ◌&&◌, ◌||◌, not}
use mathlib.Core.List.{List}
use Prim.Native.Nat.{ℕ, suc, ◌+◌, ◌*◌, ◌/◌, ◌%◌, ◌^◌, ◌≤◌, ◌<◌}
use native.Mathlib.Nat.{one-mul, mod-eq_of_lt, mod-lt, mul_comm, mul-le-mul_right}
use native.Mathlib.Omega.{arith}
use borrow.Author.Tests.{eqb-true, eqb-false}
use lib.Bits.{bit_or}
use lib.Dec.{eqb, ltb}
use lib.ListN.{length, get_or, set, replicate}
use lib.Pow.{pow-lt}
use Rattle.roles.specs.Sets.{only}
use Rattle.flow.specs.Set.{minus}
use Rattle.flow.specs.Inner.{Put, window, Holds, WordsStored}
use Rattle.flow.specs.Words.{value, rows_of, Small}
use Rattle.flow.proofs.Fill.{stored_more}
use Rattle.flow.proofs.Loop.{put_same, put_new}
use Rattle.steps.specs.Code.{set_of}
use Rattle.sets.specs.Word.{Width, Numbered}
use Rattle.flow.specs.Flow.{Flow, joined, row_at}
use Rattle.flow.specs.Sweep.{row}
use Rattle.sets.proofs.Sets.{reg_both, row_in, row_out}
use Rattle.steps.specs.Inner.{after_of}
use Rattle.steps.specs.declared.Step.{Step}
use Rattle.sets.proofs.Words.{Joining, joining_more, with_reg_in, without_reg_in, zeros_small, after_holds}

-- a bit in a word is its power
one_bit : (bits r : ℕ) → r < bits → 2 ^ r ≡ (1 * 2 ^ r) % 2 ^ bits
one_bit bits r l = sym (ap (λ (x : ℕ). x % 2 ^ bits) (one-mul (2 ^ r)) ∙ mod-eq_of_lt (pow-lt l))

module _ {W : Type 0} {num : W → ℕ} {nums : List W → List ℕ} (n : Numbered num nums) where
  -- a word that was read, and one that is written
  pub read_is : (xs : List W) (k : ℕ) (x : W) → x ≡ get_or xs k x → k < length xs → num x ≡ get_or (nums xs) k 0
  read_is xs k x e l = ap num e ∙ sym (n.read xs k x l)

  pub write_is : (xs : List W) (k : ℕ) (x : W) (v : ℕ) → num x ≡ v → nums (set xs k x) ≡ set (nums xs) k v
  write_is xs k x v e = n.written xs k x ∙ ap (set (nums xs) k) e

  -- a word that is stored
  pub storing_put : (buf : List W) (s : List ℕ) (at j : ℕ) (rows : List W) (changed same : Bool) (a x : W) → WordsStored (nums buf) at j s (nums rows) changed
      → at + j < length rows → a ≡ get_or rows (at + j) a → num x ≡ get_or s j 0 → same ≡ eqb (num a) (num x)
      → WordsStored (nums buf) at (j + 1) s (nums (set rows (at + j) x)) (not same || changed)
  storing_put buf s at j rows changed same a x p l ea ex es =
      subst (λ (y : List ℕ). WordsStored (nums buf) at (j + 1) s y (not same || changed)) (sym (write_is rows (at + j) x (get_or s j 0) ex))
      (subst (λ (t : Bool). WordsStored (nums buf) at (j + 1) s (set (nums rows) (at + j) (get_or s j 0)) (not t || changed))
      (sym (es ∙ ap₂ eqb (read_is rows (at + j) a ea l) ex)) (stored_more (nums buf) at s j (nums rows) changed (omega (arith, n.long rows)) p))

  -- a row of the word route, if
  module _ (rows : List W) (t : Bool) (k : ℕ) where
    pub row_read : (x : W) → t ≡ true → x ≡ get_or rows k x → k < length rows → num x ≡ joined (row (nums rows)) (only t k)
    row_read x e h l = read_is rows k x h l ∙ row_in (nums rows) t k e

    pub row_none : (x : W) → t ≡ false → num x ≡ 0 → num x ≡ joined (row (nums rows)) (only t k)
    row_none x e h = h ∙ row_out (nums rows) t k e

  -- whether a row is another
  module _ (f : Flow) (rows : List W) (k : ℕ) (a x : W) (same : Bool) (ea : a ≡ get_or rows k a) (l : k < length rows)
      (ex : num x ≡ row_at f (row (nums rows)) k) (es : same ≡ eqb (num a) (num x)) where
    told : same ≡ eqb (row (nums rows) k) (row_at f (row (nums rows)) k)
    told = es ∙ ap₂ eqb (read_is rows k a ea l) ex

    pub put_none : same ≡ true → Put f (nums rows) k (nums rows) false
    put_none e = put_same f (nums rows) k (row_at f (row (nums rows)) k) refl (eqb-true (row (nums rows) k) (row_at f (row (nums rows)) k) (sym told ∙ e))

    pub put_some : same ≡ false → Put f (nums rows) k (nums (set rows k x)) true
    put_some e = subst (λ (y : List ℕ). Put f (nums rows) k y true) (sym (write_is rows k x (row_at f (row (nums rows)) k) ex))
        (put_new f (nums rows) k (row_at f (row (nums rows)) k) refl (eqb-false (row (nums rows) k) (row_at f (row (nums rows)) k) (sym told ∙ e)))

pub stored_done : (buf s out : List ℕ) (at words j : ℕ) (changed : Bool) → WordsStored buf at j s out changed → j ≤ words → words ≤ j
    → WordsStored buf at words s out changed
stored_done buf s out at words j changed p l h = subst (λ (x : ℕ). WordsStored buf at x s out changed) (omega arith) p

-- a word of a row is joined to a set's
pub joining_put : (into rows : List ℕ) (at words hand j : ℕ) (out new : List ℕ) (v x a b : ℕ) → Joining hand into rows at words j out → j < words → words ≤ hand
    → v ≡ bit_or x b → x ≡ get_or out j 0 → b ≡ get_or rows (at + j) 0 → new ≡ set out j v → Joining hand into rows at words (j + 1) new
joining_put into rows at words hand j out new v x a b p l f e ex eb en =
    subst (λ (y : List ℕ). Joining hand into rows at words (j + 1) y) (sym (en ∙ ap (set out j) (e ∙ ap₂ bit_or ex eb)))
    (joining_more into rows at words hand j out p l f)

-- a register of a set
module _ (bits hand : ℕ) (wide : Width bits hand) (s new : List ℕ) (small : Small bits s) (long : length s ≡ hand) (regs r : ℕ) (t : Bool) where
  module _ (q w x a b : ℕ) (there_is : t && ltb r regs ≡ true) (room : regs ≤ 1024) (ew : w ≡ bits) (eb : b ≡ 2 ^ (r % w))
      (ea : a ≡ get_or s q 0) (en : new ≡ set s q x) (place : q ≡ r / bits) where
    shift : b ≡ (1 * 2 ^ (r % bits)) % 2 ^ bits
    shift = eb ∙ ap (λ (y : ℕ). 2 ^ (r % y)) ew ∙ one_bit bits (r % bits) (mod-lt r wide.some)

    there : a ≡ get_or s (r / bits) 0
    there = ea ∙ ap (λ (y : ℕ). get_or s y 0) place

    pub with_put : x ≡ bit_or a b → Holds bits new (bit_or (value bits s) (set_of regs (only t r)))
    with_put e = subst (λ (l : List ℕ). Holds bits l (bit_or (value bits s) (set_of regs (only t r))))
        (sym (en ∙ ap₂ (set s) place (e ∙ ap₂ bit_or there shift)))
        (with_reg_in bits s regs r t small hand wide.some (reg_both regs r t there_is).0 (reg_both regs r t there_is).1 long (omega (arith, wide.span)))

    pub without_put : x ≡ minus a b → Holds bits new (minus (value bits s) (set_of regs (only t r)))
    unfolding minus
    without_put e = subst (λ (l : List ℕ). Holds bits l (minus (value bits s) (set_of regs (only t r))))
        (sym (en ∙ ap₂ (set s) place (e ∙ ap₂ minus there shift)))
        (without_reg_in bits s regs r t small hand wide.some (reg_both regs r t there_is).0 (reg_both regs r t there_is).1 long (omega (arith, wide.span)))

-- the empty set holds nothing
pub empty_small : (bits hand : ℕ) (s : List ℕ) → Width bits hand → s ≡ replicate hand 0 → Small bits s
empty_small bits hand s wide e = subst (λ (l : List ℕ). Small bits l) (sym e) (zeros_small bits hand wide.some)

pub after_read : (bits hand words k m : ℕ) (e rows : List ℕ) (s : Step) (p q : List ℕ) → Width bits hand → e ≡ replicate hand 0 → k < m → s.target ≤ m
    → Holds bits p (bit_or (value bits e) (cond s.on (value bits (window words (k + 1) rows)) 0))
    → Holds bits q (bit_or (value bits p) (cond s.to (value bits (window words s.target rows)) 0))
    → Holds bits q (joined (row (rows_of bits words (suc m) rows)) (after_of s k))
after_read bits hand words k m e rows s p q wide z l h hp hq =
    after_holds bits words m k rows s hand wide.some p q l h
    (subst (λ (y : List ℕ). Holds bits p (bit_or (value bits y) (cond s.on (value bits (window words (k + 1) rows)) 0))) z hp) hq

pub within_set : (bits hand regs words : ℕ) → Width bits hand → regs ≤ words * bits → words ≤ hand → regs ≤ 1024
within_set bits hand regs words wide le f = omega (arith, le, wide.span, mul-le-mul_right bits f)

pub within_base : (bits hand j : ℕ) → Width bits hand → j < hand → bits * j ≤ 1024
within_base bits hand j wide l = omega (arith, wide.span, mul_comm bits j, mul-le-mul_right bits below)
  where
    below : j ≤ hand
    below = omega arith
