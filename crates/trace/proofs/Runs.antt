-- A trace is judged fine exactly where it is a recorded run. Assumes nothing.
use mathlib.Core.Path.{◌≡◌, refl, sym, ap, ◌∙◌, subst}
use mathlib.Core.Bool.{Bool, true, false, cond, not, ◌&&◌, false≢true}
use mathlib.Core.List.{List}
use Prim.Native.Nat.{ℕ, zero, suc, ◌+◌, ◌-◌, ◌*◌, ◌/◌, ◌%◌, ◌≤◌, ◌<◌, zero-le}
use native.Mathlib.Decide.{ℕ_discrete, dec_lt}
use native.Mathlib.Omega.{arith}
use borrow.Author.Tests.{ltb-false, leb-false, eqb-true, ne_eqb, eq-eqb, not-false, le-ltb, lt-leb}
use lib.Dec.{eqb, ltb, leb}
use lib.ListN.{length}
use Rattle.laws.proofs.Branch.{or_left, or_right}
use Rattle.laws.specs.Some.{some}
use Rattle.laws.proofs.Some.{passes_at}
use Rattle.laws.proofs.Walk.{none_passed, reaches}
use Rattle.code.specs.Ins.{count}
use Rattle.std.specs.declared.result.Result.TheVariants.{Err}
use Rattle.trace.specs.declared.Wrong.TheVariants.{Check, Filler, Move}
use Rattle.blocks.specs.Blocks.{word_at, slot_at, filler_at, weighed, bad_check, follows, bad_fill, blocks_of}
use Rattle.moves.specs.Moves.{may_go, bad_step, first_step}
use Rattle.trace.specs.Trace.{Verdict, Fine, wrong_in, verdict_from, verdict_of, Recorded}

module _ (w tries t : List ℕ) where
  -- a block with nothing wrong
  record Clean (b : ℕ) : Type 0 where
    check : bad_check t b ≡ false
    fill : bad_fill t b ≡ false
    steps : 127 * b + 127 ≤ first_step w tries t b

  clean : (b : ℕ) (v : Verdict) → wrong_in w tries t b v ≡ Fine → Clean b × (v ≡ Fine)
  unfolding wrong_in
  clean b v e = go (bad_check t b) refl (bad_fill t b) refl (ltb (first_step w tries t b) (127 * b + 127)) refl e
    where
      go : (x : Bool) → bad_check t b ≡ x → (y : Bool) → bad_fill t b ≡ y → (z : Bool) → ltb (first_step w tries t b) (127 * b + 127) ≡ z
          → cond x (Err (Check b)) (cond y (Err (Filler b)) (cond z (Err (Move (first_step w tries t b))) v)) ≡ Fine → Clean b × (v ≡ Fine)
      go true p y q z r h = let n : ◌≡◌ {A = ℕ} 0 1 = cc in absurd (omega arith)
      go false p true q z r h = let n : ◌≡◌ {A = ℕ} 0 1 = cc in absurd (omega arith)
      go false p false q true r h = let n : ◌≡◌ {A = ℕ} 0 1 = cc in absurd (omega arith)
      go false p false q false r h = (record { check = p; fill = q; steps = ltb-false (first_step w tries t b) (127 * b + 127) r }, h)

  all_clean : (m b : ℕ) → verdict_from w tries t b m ≡ Fine → (c : ℕ) → b ≤ c → c < b + m → Clean c
  unfolding verdict_from
  all_clean zero b e c lo hi = absurd (omega arith)
  all_clean (suc m) b e c lo hi = go (ℕ_discrete b c) (clean b (verdict_from w tries t (suc b) m) e) (λ h l. all_clean m (suc b) h c l (omega arith))
    where
      go : Dec (b ≡ c) → Clean b × (verdict_from w tries t (suc b) m ≡ Fine) → (verdict_from w tries t (suc b) m ≡ Fine → suc b ≤ c → Clean c) → Clean c
      go (yes p) k rec = subst Clean p k.0
      go (no n) k rec = rec k.1 (omega arith)

  module _ (fine : verdict_of w tries t ≡ Fine) where
    at : (b : ℕ) → b < blocks_of t → Clean b
    unfolding verdict_of
    at b h = all_clean (blocks_of t) 0 fine b zero-le (omega arith)

    whole : (b : ℕ) → b < blocks_of t → 512 ≤ length t - 512 * b
    unfolding bad_check
    whole b h = ltb-false (length t - 512 * b) 512
        (or_left (ltb (length t - 512 * b) 512) (not (eqb (weighed t (512 * b) 508) (word_at t (512 * b + 508)))) (at b h).check)

    even : length t % 512 ≡ 0
    even = go (dec_lt (length t / 512) (blocks_of t))
      where
        go : Dec (length t / 512 < blocks_of t) → length t % 512 ≡ 0
        go (yes h) = absurd (omega (arith, whole (length t / 512) h))
        go (no n) = omega arith

    checked : (b : ℕ) → b < length t / 512 → weighed t (512 * b) 508 ≡ word_at t (512 * b + 508)
    unfolding bad_check
    checked b h = eqb-true (weighed t (512 * b) 508) (word_at t (512 * b + 508)) (not-false (eqb (weighed t (512 * b) 508) (word_at t (512 * b + 508)))
        (or_right (ltb (length t - 512 * b) 512) (not (eqb (weighed t (512 * b) 508) (word_at t (512 * b + 508)))) (at b (omega arith)).check))

    -- slot s is slot s % 127 of block s / 127
    no_follow : (s : ℕ) → s < 127 * (length t / 512) → follows t s ≡ false
    unfolding bad_fill
    no_follow s h = go (follows t s) refl
      where
        there : 127 * (s / 127) + s % 127 ≡ s
        there = omega arith

        go : (x : Bool) → follows t s ≡ x → x ≡ false
        go false e = refl
        go true e = absurd (false≢true (sym (at (s / 127) (omega arith)).fill
            ∙ passes_at (λ j. follows t (127 * (s / 127) + j)) (s % 127) 127 (omega arith) (ap (follows t) there ∙ e)))

    good_step : (s : ℕ) → s < 127 * (length t / 512) → bad_step w tries t s ≡ false
    unfolding first_step
    good_step s h = none_passed (bad_step w tries t) s 127 (127 * (s / 127)) (at (s / 127) (omega arith)).steps (omega arith) (omega arith)

    filled : (s : ℕ) → suc s < 127 * (length t / 512) → filler_at t s ≡ true → filler_at t (suc s) ≡ true
    unfolding follows
    filled s h e = go (filler_at t (suc s)) refl (no_follow (suc s) h)
      where
        less : suc s - 1 ≡ s
        less = omega arith

        go : (x : Bool) → filler_at t (suc s) ≡ x → cond (eqb (suc s) 0) false (filler_at t (suc s - 1) && not (filler_at t (suc s))) ≡ false → x ≡ true
        go true p q = refl
        go false p q = absurd (false≢true (sym q ∙ rw (ne_eqb (suc s) 0 (λ z. omega arith), less, e, p)))

    -- what a good step says of a slot that is no filler
    module _ (s : ℕ) (h : s < 127 * (length t / 512)) (n : filler_at t s ≡ false) where
      open_step : cond (leb (count w) (slot_at t s)) true (cond (eqb s 0) (not (eqb (slot_at t s) 0)) (cond (leb (count w) (slot_at t (s - 1))) true
          (not (may_go w tries (slot_at t (s - 1)) (slot_at t s))))) ≡ false
      unfolding bad_step filler_at
      open_step = let e = good_step s h in rw n at e

      inside : slot_at t s < count w
      inside = leb-false (count w) (slot_at t s) (go (leb (count w) (slot_at t s)) open_step)
        where
          go : (x : Bool) → cond x true (cond (eqb s 0) (not (eqb (slot_at t s) 0)) (cond (leb (count w) (slot_at t (s - 1))) true
              (not (may_go w tries (slot_at t (s - 1)) (slot_at t s))))) ≡ false → x ≡ false
          go true e = e
          go false e = refl

      near : cond (eqb s 0) (not (eqb (slot_at t s) 0))
          (cond (leb (count w) (slot_at t (s - 1))) true (not (may_go w tries (slot_at t (s - 1)) (slot_at t s)))) ≡ false
      near = let e = open_step in rw (lt-leb (count w) (slot_at t s) inside) at e

    pub fine_recorded : Recorded w tries t
    fine_recorded = record {
      whole = even;
      checks = checked;
      fillers = filled;
      starts = λ h n. let e = near 0 h n in eqb-true (slot_at t 0) 0 (not-false (eqb (slot_at t 0) 0) e);
      below = inside;
      moves = λ s h n. moved s h n;
    }
      where
        moved : (s : ℕ) → suc s < 127 * (length t / 512) → filler_at t (suc s) ≡ false → may_go w tries (slot_at t s) (slot_at t (suc s)) ≡ true
        moved s h n = go (leb (count w) (slot_at t s)) later
          where
            less : suc s - 1 ≡ s
            less = omega arith

            later : cond (leb (count w) (slot_at t s)) true (not (may_go w tries (slot_at t s) (slot_at t (suc s)))) ≡ false
            later = let e = near (suc s) h n in rw (ne_eqb (suc s) 0 (λ z. omega arith), less) at e

            go : (x : Bool) → cond x true (not (may_go w tries (slot_at t s) (slot_at t (suc s)))) ≡ false → may_go w tries (slot_at t s) (slot_at t (suc s)) ≡ true
            go true e = absurd (false≢true (sym e))
            go false e = not-false (may_go w tries (slot_at t s) (slot_at t (suc s))) e

-- and a recorded run is judged fine
some_none : (f : ℕ → Bool) (n : ℕ) → ((j : ℕ) → j < n → f j ≡ false) → some f n ≡ false
unfolding some
some_none f zero h = refl
some_none f (suc n) h = rw (some_none f n (λ j l. h j (omega arith)), h n (omega arith))

module _ (w tries t : List ℕ) (r : Recorded w tries t) where
  no_follow_of : (s : ℕ) → s < 127 * (length t / 512) → follows t s ≡ false
  unfolding follows
  no_follow_of zero h = refl
  no_follow_of (suc s) h = rw (ne_eqb (suc s) 0 (λ z. omega arith), less) (go (filler_at t s) refl)
    where
      less : suc s - 1 ≡ s
      less = omega arith

      go : (x : Bool) → filler_at t s ≡ x → x && not (filler_at t (suc s)) ≡ false
      go false e = refl
      go true e = rw (r.fillers s h e)

  plain : (s : ℕ) → suc s < 127 * (length t / 512) → filler_at t (suc s) ≡ false → filler_at t s ≡ false
  plain s h n = go (filler_at t s) refl
    where
      go : (x : Bool) → filler_at t s ≡ x → x ≡ false
      go false e = refl
      go true e = absurd (false≢true (sym n ∙ r.fillers s h e))

  filler_eq : (s : ℕ) → eqb (slot_at t s) 4294967295 ≡ filler_at t s
  unfolding filler_at
  filler_eq s = refl

  good_of : (s : ℕ) → s < 127 * (length t / 512) → bad_step w tries t s ≡ false
  unfolding bad_step
  good_of s h = go (filler_at t s) refl
    where
      tail : (s : ℕ) → s < 127 * (length t / 512) → filler_at t s ≡ false
          → cond (leb (count w) (slot_at t s)) true (cond (eqb s 0) (not (eqb (slot_at t s) 0)) (cond (leb (count w) (slot_at t (s - 1))) true
          (not (may_go w tries (slot_at t (s - 1)) (slot_at t s))))) ≡ false
      tail zero h n = rw (lt-leb (count w) (slot_at t 0) (r.below 0 h n), r.starts h n)
      tail (suc s) h n = rw (
        lt-leb (count w) (slot_at t (suc s)) (r.below (suc s) h n),
        ne_eqb (suc s) 0 (λ z. omega arith),
        less,
        lt-leb (count w) (slot_at t s) (r.below s (omega arith) (plain s h n)),
        r.moves s h n,
      )
        where
          less : suc s - 1 ≡ s
          less = omega arith

      go : (x : Bool) → filler_at t s ≡ x → bad_step w tries t s ≡ false
      go true e = rw (filler_eq s ∙ e)
      go false e = rw (filler_eq s ∙ e) (tail s h e)

  clean_of : (b : ℕ) (v : Verdict) → b < length t / 512 → wrong_in w tries t b v ≡ v
  unfolding wrong_in bad_check bad_fill first_step
  clean_of b v h = rw (
    le-ltb (length t - 512 * b) 512 (omega arith),
    eq-eqb (weighed t (512 * b) 508) (word_at t (512 * b + 508)) (r.checks b h),
    some_none (λ j. follows t (127 * b + j)) 127 (λ j l. no_follow_of (127 * b + j) (omega arith)),
    reaches (bad_step w tries t) 127 (127 * b) (λ j lo hi. good_of j (omega arith)),
    le-ltb (127 * b + 127) (127 * b + 127) (omega arith),
  )

  all_fine : (m b : ℕ) → b + m ≤ length t / 512 → verdict_from w tries t b m ≡ Fine
  unfolding verdict_from
  all_fine zero b h = refl
  all_fine (suc m) b h = clean_of b (verdict_from w tries t (suc b) m) (omega arith) ∙ all_fine m (suc b) (omega arith)

  pub recorded_fine : verdict_of w tries t ≡ Fine
  unfolding verdict_of
  recorded_fine = all_fine (blocks_of t) 0 (omega (arith, r.whole))
