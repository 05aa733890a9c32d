-- The wide route's steps, over the width of a word and the words in hand: a set in words, and a row of a buffer. Assumes nothing.
use mathlib.Core.Path.{◌≡◌, refl, sym, ap, ◌∙◌, subst}
use mathlib.Core.Bool.{Bool, true, false, cond, ◌&&◌}
use mathlib.Core.List.{List, [], ◌∷◌, ◌++◌}
use Prim.Native.Nat.{ℕ, suc, ◌+◌, ◌*◌, ◌/◌, ◌%◌, ◌^◌, ◌≤◌, ◌<◌, zero-le}
use native.Mathlib.Omega.{arith}
use lib.Dec.{ltb}
use lib.Bits.{bit_or, bit_and, bit_xor, or_zero_r, or_zero_l}
use lib.ListN.{length, get_or, take, drop, set, replicate, length-set}
use Rattle.roles.specs.Sets.{only, from}
use Rattle.flow.specs.Set.{minus, alone}
use Rattle.flow.specs.Flow.{joined, row_at}
use Rattle.flow.specs.Sweep.{row}
use Rattle.flow.specs.Inner.{Put, window, Holds, WordsStored}
use Rattle.flow.specs.Words.{value, rows_of, Small}
use Rattle.flow.proofs.Bits.{bit_ext, minus_bit, bit_zero}
use Rattle.flow.proofs.Words.{as_set, holds_none, with_in, without_in}
use Rattle.flow.proofs.Rows.{row_at_lt}
use Rattle.flow.proofs.Buffer.{row_inside, rows_at, rows_lt, put_row, step_words}
use Rattle.flow.proofs.Fill.{Front, front_none, front_rest, front_more, joined_row}
use Rattle.steps.specs.Code.{set_of}
use Rattle.steps.specs.Inner.{used_of, given_of, after_of, step_flow}
use Rattle.steps.specs.declared.Step.{Step}
use Rattle.sets.proofs.Sets.{or_assoc, minus_minus, joined_append, reg_in, reg_not, set_lt, from_more}

pub held : (bits : ℕ) (s : List ℕ) → Small bits s → Holds bits s (value bits s)
held bits s h = record { small = h; is = refl }

pub zeros_small : (bits hand : ℕ) → 0 < bits → Small bits (replicate hand 0)
zeros_small bits hand wide = (holds_none bits wide hand).small

-- ---- a row is joined to a set, word by word

pub record Joining (hand : ℕ) (into rows : List ℕ) (at words j : ℕ) (out : List ℕ) : Type 0 where
  pub le : j ≤ words
  pub long : length out ≡ hand
  pub front : Front (λ i. bit_or (get_or into i 0) (get_or rows (at + i) 0)) (λ i. get_or into i 0) j out

module _ (into rows : List ℕ) (at words : ℕ) where
  abbrev A : ℕ → ℕ
  A i = bit_or (get_or into i 0) (get_or rows (at + i) 0)

  abbrev B : ℕ → ℕ
  B i = get_or into i 0

  pub joining_start : (hand : ℕ) → length into ≡ hand → Joining hand into rows at words 0 into
  joining_start hand e = record { le = zero-le; long = e; front = front_none A B into (λ i. refl) }

  module _ (hand j : ℕ) (out : List ℕ) (p : Joining hand into rows at words j out) where
    pub joining_more : j < words → words ≤ hand → Joining hand into rows at words (j + 1) (set out j (bit_or (get_or out j 0) (get_or rows (at + j) 0)))
    joining_more l f = record {
      le = omega arith;
      long = length-set out j (bit_or (get_or out j 0) (get_or rows (at + j) 0)) ∙ p.long;
      front = front_more A B j (bit_or (get_or out j 0) (get_or rows (at + j) 0)) out p.front (omega (arith, p.long))
          (ap (λ (x : ℕ). bit_or x (get_or rows (at + j) 0)) (front_rest A B j out p.front));
    }

    pub joining_done : (bits : ℕ) → 0 < bits → words ≤ j → Small bits into → Small bits rows → Holds bits out
        (bit_or (value bits into) (value bits (take words (drop at rows))))
    joining_done bits wide l si sr = joined_row bits wide words at rows sr into out (value bits into) (held bits into si)
        (subst (λ (x : ℕ). Front A B x out) (whole p.le) p.front)
      where
        whole : j ≤ words → j ≡ words
        whole h = omega arith

pub ruleset joins = (joining_start, joining_more, joining_done)

-- a row, if
module _ (bits : ℕ) (into rows : List ℕ) (t : Bool) (k words : ℕ) where
  pub joined_in : (out : List ℕ) → t ≡ true → Holds bits out (bit_or (value bits into) (value bits (take words (drop (k * words) rows))))
      → Holds bits out (bit_or (value bits into) (cond t (value bits (window words k rows)) 0))
  joined_in out e h = rw e h

  pub joined_out : t ≡ false → Small bits into → Holds bits into (bit_or (value bits into) (cond t (value bits (window words k rows)) 0))
  joined_out e h = rw e (as_set (held bits into h) (sym (or_zero_r (value bits into))))

-- ---- rows of a buffer

module _ (words n t len : ℕ) (room : suc n * words ≤ len) where
  pub row_fits : t ≤ n → t * words + words ≤ len
  row_fits h = omega (arith, row_inside words (suc n) t (omega arith))

  pub row_fits_next : t < n → (t + 1) * words + words ≤ len
  row_fits_next h = omega (arith, row_inside words (suc n) (t + 1) (omega arith))

  pub row_fits_here : t < n → t * words + words ≤ len
  row_fits_here h = omega (arith, row_inside words (suc n) t (omega arith))

pub ruleset fits = (row_fits, row_fits_next, row_fits_here)

module _ (bits words n k : ℕ) (rows : List ℕ) (s : Step) where
  abbrev R : ℕ → ℕ
  R = row (rows_of bits words (suc n) rows)

  pub one : (t : Bool) (j : ℕ) → j ≤ n → cond t (value bits (window words j rows)) 0 ≡ joined R (only t j)
  unfolding joined
  one true j l = sym (rows_at bits words (suc n) rows j (omega arith)) ∙ sym (or_zero_r (R j))
  one false j l = refl

  pub after_holds : (hand : ℕ) → 0 < bits → (p q : List ℕ) → k < n → s.target ≤ n
      → Holds bits p (bit_or (value bits (replicate hand 0)) (cond s.on (value bits (window words (k + 1) rows)) 0))
      → Holds bits q (bit_or (value bits p) (cond s.to (value bits (window words s.target rows)) 0))
      → Holds bits q (joined (row (rows_of bits words (suc n) rows)) (after_of s k))
  after_holds hand wide p q l h hp hq = as_set hq
      (ap (λ (x : ℕ). bit_or x (cond s.to (value bits (window words s.target rows)) 0))
      (hp.is ∙ ap (λ (x : ℕ). bit_or x (cond s.on (value bits (window words (k + 1) rows)) 0)) (holds_none bits wide hand).is
      ∙ or_zero_l (cond s.on (value bits (window words (k + 1) rows)) 0) ∙ one s.on (k + 1) (omega arith))
      ∙ ap (bit_or (joined R (only s.on (k + 1)))) (one s.to s.target h)
      ∙ sym (joined_append R (only s.on (k + 1)) (only s.to s.target)))

  pub row_holds : (regs : ℕ) (a b c d : List ℕ) (l m : List ℕ)
      → Holds bits a (joined (row (rows_of bits words (suc n) rows)) (after_of s k))
      → Holds bits b (minus (value bits a) (set_of regs l)) → Holds bits c (minus (value bits b) (set_of regs m)) → Holds bits d
      (bit_or (value bits c) (set_of regs (used_of s)))
      → given_of s ≡ l ++ m → Holds bits d (row_at (step_flow regs s) (row (rows_of bits words (suc n) rows)) k)
  row_holds regs a b c d l m ha hb hc hd e = step_words (step_flow regs s) R k bits a c d refl ha gone hd
    where
      gone : Holds bits c (minus (value bits a) (set_of regs (given_of s)))
      gone = as_set hc
          (ap (λ (x : ℕ). minus x (set_of regs m)) hb.is ∙ minus_minus (value bits a) (set_of regs l) (set_of regs m)
          ∙ ap (minus (value bits a)) (sym (joined_append (alone regs) l m) ∙ ap (set_of regs) (sym e)))

  pub put_is : 0 < bits → (regs : ℕ) (out new : List ℕ) (changed : Bool) → k < n → regs ≤ words * bits → Small bits rows
      → Holds bits new (row_at (step_flow regs s) (row (rows_of bits words (suc n) rows)) k) → WordsStored rows (k * words) words new out changed
      → Put (step_flow regs s) (rows_of bits words (suc n) rows) k (rows_of bits words (suc n) out) changed
  put_is wide regs out new changed l le sr h st =
      put_row bits words wide (suc n) rows out new k (row_at (step_flow regs s) R k) changed (omega arith) sr h
      (row_at_lt (step_flow regs s) (words * bits) R k (set_lt (words * bits) regs (used_of s) le) (rows_lt bits words wide (suc n) rows sr)) st (step_flow regs s)
      refl

-- ---- registers of a set

less_none : (bits : ℕ) (s : List ℕ) → Small bits s → Holds bits s (minus (value bits s) 0)
less_none bits s h = as_set (held bits s h) (sym (bit_ext (minus (value bits s) 0) (value bits s)
    (λ i. omega (arith, minus_bit (value bits s) 0 i, bit_zero i))))

more_none : (bits : ℕ) (s : List ℕ) → Small bits s → Holds bits s (bit_or (value bits s) 0)
more_none bits s h = as_set (held bits s h) (sym (or_zero_r (value bits s)))

module _ (bits : ℕ) (s : List ℕ) (regs r : ℕ) (t : Bool) (small : Small bits s) where
  pub with_reg_in : (hand : ℕ) → 0 < bits → t ≡ true → r < regs → length s ≡ hand → regs ≤ hand * bits
      → Holds bits (set s (r / bits) (bit_or (get_or s (r / bits) 0) ((1 * 2 ^ (r % bits)) % 2 ^ bits))) (bit_or (value bits s) (set_of regs (only t r)))
  with_reg_in hand wide e l long room = as_set (with_in bits wide s (value bits s) regs r (held bits s small) (rw long room) l)
      (ap (bit_or (value bits s)) (sym (reg_in regs r t e l)))

  pub without_reg_in : (hand : ℕ) → 0 < bits → t ≡ true → r < regs → length s ≡ hand → regs ≤ hand * bits
      → Holds bits (set s (r / bits) (bit_xor (get_or s (r / bits) 0) (bit_and (get_or s (r / bits) 0) ((1 * 2 ^ (r % bits)) % 2 ^ bits))))
      (minus (value bits s) (set_of regs (only t r)))
  unfolding minus
  without_reg_in hand wide e l long room = as_set (without_in bits wide s (value bits s) regs r (held bits s small) (rw long room) l)
      (ap (minus (value bits s)) (sym (reg_in regs r t e l)))

  pub with_reg_not : t && ltb r regs ≡ false → Holds bits s (bit_or (value bits s) (set_of regs (only t r)))
  with_reg_not e = rw (reg_not regs r t e) (more_none bits s small)

  pub without_reg_not : t && ltb r regs ≡ false → Holds bits s (minus (value bits s) (set_of regs (only t r)))
  without_reg_not e = rw (reg_not regs r t e) (less_none bits s small)

-- one after the other
module _ (bits : ℕ) (R : ℕ → ℕ) (x : ℕ) (p q : List ℕ) (l m : List ℕ) where
  pub more : Holds bits p (bit_or x (joined R l)) → Holds bits q (bit_or (value bits p) (joined R m)) → Holds bits q (bit_or x (joined R (l ++ m)))
  more hp hq = as_set hq (ap (λ (y : ℕ). bit_or y (joined R m)) hp.is ∙ or_assoc x (joined R l) (joined R m) ∙ ap (bit_or x) (sym (joined_append R l m)))

  pub fewer : Holds bits p (minus x (joined R l)) → Holds bits q (minus (value bits p) (joined R m)) → Holds bits q (minus x (joined R (l ++ m)))
  fewer hp hq = as_set hq (ap (λ (y : ℕ). minus y (joined R m)) hp.is ∙ minus_minus x (joined R l) (joined R m) ∙ ap (minus x) (sym (joined_append R l m)))

-- a run is taken off
module _ (bits regs b : ℕ) (s : List ℕ) where
  pub off_start : Small bits s → Holds bits s (minus (value bits s) (set_of regs (from b 0)))
  unfolding joined
  off_start h = less_none bits s h

  pub off_more : (i : ℕ) (rest out : List ℕ) → Holds bits rest (minus (value bits s) (set_of regs (from b i)))
      → Holds bits out (minus (value bits rest) (set_of regs (only true (b + i)))) → Holds bits out (minus (value bits s) (set_of regs (from b (i + 1))))
  off_more i rest out hr ho =
      as_set (fewer bits (alone regs) (value bits s) rest out (from b i) ((b + i) ∷ []) hr ho)
      (ap (λ (l : List ℕ). minus (value bits s) (set_of regs l)) (sym (from_more b i)))
