-- A row of several words is found, and the sweeps of the wide route, step by step. Assumes nothing.
use mathlib.Core.Path.{◌≡◌, refl, sym, ap, ap₂, ◌∙◌}
use mathlib.Core.Bool.{Bool, true, false, not, cond, ◌||◌}
use mathlib.Core.List.{List, [], ◌++◌}
use Prim.Native.Nat.{ℕ, suc, ◌+◌, ◌-◌, ◌*◌, ◌/◌, ◌%◌, ◌≤◌, ◌<◌, zero-le}
use native.Mathlib.Nat.{zero-lt-suc}
use native.Mathlib.Omega.{arith}
use borrow.Author.Tests.{not-true}
use lib.Bits.{bit_or, or_zero_r}
use lib.ListN.{length, replicate}
use Rattle.code.specs.Ins.{ins_at, count}
use Rattle.code.specs.Inner.{Valid}
use Rattle.code.specs.declared.Ins.{Ins}
use Rattle.roles.specs.Sets.{only}
use Rattle.flow.specs.Flow.{joined, onto, row_at}
use Rattle.flow.specs.Sweep.{row}
use Rattle.flow.specs.Inner.{Put, window, Holds, WordsStored}
use Rattle.flow.specs.Kept.{handlers_of}
use Rattle.flow.specs.Words.{value, rows_of, Small}
use Rattle.flow.proofs.Rows.{row_at_lt}
use Rattle.flow.proofs.Tally.{below_zero}
use Rattle.flow.proofs.Words.{as_set}
use Rattle.flow.proofs.Buffer.{rows_at, rows_zero, rows_lt, put_row}
use Rattle.flow.proofs.Tries.{handlers_none}
use Rattle.flow.proofs.Loop.{going_start}
use Rattle.steps.specs.Level.{is_level}
use Rattle.steps.specs.Code.{after_at}
use Rattle.steps.specs.Inner.{used_of, StepAt, goes_before, step_flow}
use Rattle.steps.specs.declared.Step.{Step}
use Rattle.steps.proofs.Follows.{below_step}
use Rattle.sets.proofs.Sets.{or_assoc, joined_append, set_lt}
use Rattle.nested.specs.Raising.{stranded, leaving, raises_at, raising, mays}
use Rattle.far.specs.Inner.{raising_step, Quiet}
use Rattle.sweeps.proofs.Sweeps.{onto_is, unmarked, Between, Turn, go_on}

-- ---- a row is found

module _ (words n k : ℕ) (tries rows a : List ℕ) (may past : Bool) where
  abbrev R : ℕ → ℕ
  R = row (rows_of 64 words (suc n) rows)

  next_is : (t : Bool) → k < n → cond t (value 64 (window words (k + 1) rows)) 0 ≡ joined R (only t (k + 1))
  unfolding joined
  next_is true l = sym (rows_at 64 words (suc n) rows (k + 1) (omega arith)) ∙ sym (or_zero_r (R (k + 1)))
  next_is false l = refl

  pub holds_level : (b d : List ℕ) → k < n → may ≡ true → Holds 64 b (bit_or (value 64 a) (cond past (value 64 (window words (k + 1) rows)) 0))
      → Holds 64 d (bit_or (value 64 b) (joined (row (rows_of 64 words (suc n) rows)) (handlers_of n k tries)))
      → Holds 64 d (onto (row (rows_of 64 words (suc n) rows)) (value 64 a) (leaving may past n k tries))
  holds_level b d l e hb hd = rw e (as_set hd
      (ap (λ (x : ℕ). bit_or x (joined R (handlers_of n k tries))) (hb.is ∙ ap (bit_or (value 64 a)) (next_is past l))
      ∙ or_assoc (value 64 a) (joined R (only past (k + 1))) (joined R (handlers_of n k tries))
      ∙ ap (bit_or (value 64 a)) (sym (joined_append R (only past (k + 1)) (handlers_of n k tries)))
      ∙ sym (onto_is R (only past (k + 1) ++ handlers_of n k tries) (value 64 a))))

  pub holds_plain : (b : List ℕ) → k < n → may ≡ false → Holds 64 b (bit_or (value 64 a) (cond past (value 64 (window words (k + 1) rows)) 0))
      → Holds 64 b (onto (row (rows_of 64 words (suc n) rows)) (value 64 a) (leaving may past n k tries))
  unfolding joined
  holds_plain b l e hb = rw e (as_set hb
      (ap (bit_or (value 64 a)) (next_is past l ∙ sym (or_zero_r (joined R (only past (k + 1)))) ∙ sym (joined_append R (only past (k + 1)) []))
      ∙ sym (onto_is R (only past (k + 1) ++ []) (value 64 a))))

-- ---- where nothing leaves

module _ (all : Bool) (i : Ins) (tries : List ℕ) (plain : i.marks / 2 % 2 ≡ 1 → ⊥) where
  not_past : stranded i ≡ false
  not_past = unmarked i plain

  pub quiet_none : length tries < 2 → Quiet all i tries
  quiet_none l n k =
      ap₂ (λ (p : Bool) (h : List ℕ). only p (k + 1) ++ cond (all || is_level i) h []) not_past (handlers_none n k tries (omega arith))
      ∙ same (all || is_level i)
    where
      same : (t : Bool) → cond {A = List ℕ} t [] [] ≡ []
      same true = refl
      same false = refl

  pub quiet_still : all ≡ false → (level : Bool) → level ≡ is_level i → not level ≡ true → Quiet all i tries
  quiet_still e level h z n k = ap₂ (λ (p m : Bool). only p (k + 1) ++ cond m (handlers_of n k tries) []) not_past no
    where
      no : (all || is_level i) ≡ false
      no = rw (e, ← h, not-true level z)

put_is : (words n k regs : ℕ) (tries rows : List ℕ) (s : Step) (may past : Bool) (out new : List ℕ) (changed : Bool) → k < n → regs ≤ words * 64
    → Small 64 rows
    → Holds 64 new (row_at (raising_step may past n regs tries s) (row (rows_of 64 words (suc n) rows)) k) → WordsStored rows (k * words) words new out changed
    → Put (raising_step may past n regs tries s) (rows_of 64 words (suc n) rows) k (rows_of 64 words (suc n) out) changed
put_is words n k regs tries rows s may past out new changed l le sr h st =
    put_row 64 words wide (suc n) rows out new k (row_at (raising_step may past n regs tries s) R' k) changed (omega arith) sr h
    (row_at_lt (raising_step may past n regs tries s) (words * 64) R' k (set_lt (words * 64) regs (used_of s) le) (rows_lt 64 words wide (suc n) rows sr)) st
    (raising_step may past n regs tries s) refl
  where
    R' : ℕ → ℕ
    R' = row (rows_of 64 words (suc n) rows)

    wide : 0 < 64
    wide = zero-lt-suc 63

-- what is stored is the row
module _ (words n k regs : ℕ) (tries rows : List ℕ) (s : Step) (i : Ins) (all : Bool) (a : List ℕ)
    (h : Holds 64 a (row_at (step_flow regs s) (row (rows_of 64 words (suc n) rows)) k)) where
  row_quiet : Quiet all i tries → Holds 64 a (row_at (raising_step (all || is_level i) (stranded i) n regs tries s) (row (rows_of 64 words (suc n) rows)) k)
  unfolding row_at
  row_quiet q = rw (q n k) h

  row_leaves : (level past : Bool) → level ≡ is_level i → past ≡ stranded i → (b : List ℕ)
      → Holds 64 b (onto (row (rows_of 64 words (suc n) rows)) (value 64 a) (leaving (all || level) past n k tries))
      → Holds 64 b (row_at (raising_step (all || is_level i) (stranded i) n regs tries s) (row (rows_of 64 words (suc n) rows)) k)
  unfolding row_at
  row_leaves level past e e' b hb = rw (← e, ← e', ← h.is) hb

  module _ (out : List ℕ) (changed : Bool) (l : k < n) (le : regs ≤ words * 64) (sr : Small 64 rows) where
    pub put_quiet : Quiet all i tries → WordsStored rows (k * words) words a out changed
        → Put (raising_step (all || is_level i) (stranded i) n regs tries s) (rows_of 64 words (suc n) rows) k (rows_of 64 words (suc n) out) changed
    put_quiet q st = put_is words n k regs tries rows s (all || is_level i) (stranded i) out a changed l le sr (row_quiet q) st

    pub put_leaves : (level past : Bool) → level ≡ is_level i → past ≡ stranded i → (b : List ℕ)
        → Holds 64 b (onto (row (rows_of 64 words (suc n) rows)) (value 64 a) (leaving (all || level) past n k tries))
        → WordsStored rows (k * words) words b out changed
        → Put (raising_step (all || is_level i) (stranded i) n regs tries s) (rows_of 64 words (suc n) rows) k (rows_of 64 words (suc n) out) changed
    put_leaves level past e e' b hb st =
        put_is words n k regs tries rows s (all || is_level i) (stranded i) out b changed l le sr (row_leaves level past e e' b hb) st

-- ---- the step's equation is the code's

module _ (all : Bool) (w tries : List ℕ) (regs k : ℕ) (s : Step) where
  row_same : (R : ℕ → ℕ) → StepAt w k s
      → row_at (raising_step (mays all w k) (stranded (ins_at w k)) (count w) regs tries s) R k ≡ row_at (raising (mays all w) regs w tries) R k
  unfolding row_at raises_at
  row_same R h = rw (h.used, h.given, h.after)

  put_same : (may past : Bool) (rows out : List ℕ) (changed : Bool) → may ≡ mays all w k → past ≡ stranded (ins_at w k) → StepAt w k s
      → Put (raising_step may past (count w) regs tries s) rows k out changed → Put (raising (mays all w) regs w tries) rows k out changed
  put_same may past rows out changed e e' h p =
      let q : Put (raising_step (mays all w k) (stranded (ins_at w k)) (count w) regs tries s) rows k out changed = rw (← e, ← e') p in
      record { stored = rw (row_same (row rows) h) at q.stored; told = rw (row_same (row rows) h) at q.told }

-- ---- the sweep

pub starts : (all : Bool) (w : List ℕ) (regs : ℕ) (tries : List ℕ) (words len : ℕ) (rows : List ℕ) → Valid w → rows ≡ replicate len 0
    → Between all w regs tries 0 0 0 0 (rows_of 64 words (suc (count w)) rows)
starts all w regs tries words len rows v h = record {
  few = v.few;
  going =
      rw (h, rows_zero 64 words (zero-lt-suc 63) (suc (count w)) len) (going_start (raising (mays all w) regs w tries) 0 zero-le);
}

-- a step of the wide route
pub step : {all : Bool} {w : List ℕ} {regs : ℕ} {tries : List ℕ} {full : ℕ} {rows₀ rows : List ℕ} {changed back : Bool} {k : ℕ}
    → Turn all w regs tries 0 0 full 0 0 rows₀ rows changed back k
    → {s : Step} → StepAt w (k - 1) s → 0 < k → {i : Ins} → i ≡ ins_at w (k - 1)
    → {out : List ℕ} {changed' back' : Bool}
    → Put (raising_step (all || is_level i) (stranded i) (count w) regs tries s) rows (k - 1) out changed' → back' ≡ goes_before s (k - 1 + 1)
    → Turn all w regs tries 0 0 full 0 0 rows₀ out (changed' || changed) (back' || back) (k - 1)
step {all} {w} {regs} {tries} {k = k} p {s} h l {i} place {out} {changed'} put b =
    go_on p l (below_zero (raises_at (mays all w) w tries (k - 1) ++ after_at w (k - 1)))
    (put_same all w tries regs (k - 1) s (all || is_level i) (stranded i) _ out changed' (ap (λ (j : Ins). all || is_level j) place) (ap stranded place) h put)
    (b ∙ ap (goes_before s) one ∙ below_step w (k - 1) s k h (omega arith))
  where
    one : k - 1 + 1 ≡ k
    one = omega arith
