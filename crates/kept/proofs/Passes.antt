-- The two passes over all positions: lengths summed, then lists and offsets written. Assumes nothing.
use mathlib.Core.Path.{◌≡◌, refl, sym, ap, ap₂, ◌∙◌, subst}
use mathlib.Core.Bool.{Bool, true, false, cond}
use mathlib.Core.List.{List, [], ◌∷◌, ◌++◌}
use Prim.Native.Nat.{ℕ, zero, suc, ◌+◌, ◌-◌, ◌*◌, ◌≤◌, ◌<◌, zero-le}
use native.Mathlib.Numerals.{add-one}
use native.Mathlib.Omega.{arith}
use borrow.Author.Rules.{Fits-under}
use mir.Syntax.{w32, w64}
use mir.Val.{Fits}
use lib.ListN.{length, set, length-append, length-set}
use lib.Seq.{paste}
use Rattle.code.specs.Ins.{ins_at, count}
use Rattle.code.specs.Inner.{Valid}
use Rattle.code.specs.declared.Ins.{Ins}
use Rattle.flow.specs.Sweep.{row}
use Rattle.flow.specs.Inner.{Listing}
use Rattle.flow.specs.Kept.{kept}
use Rattle.flow.proofs.Written.{written_start, written_end}
use Rattle.steps.specs.Level.{is_level}
use Rattle.kept.specs.Level.{level_of, kept_at}
use Rattle.kept.specs.Lists.{lists_to, offsets_to, over}
use Rattle.kept.specs.Inner.{Filled}
use Rattle.kept.proofs.Over.{over_long, over_paste, over_set}

-- ---- one position

module _ (regs : ℕ) (w tries rows : List ℕ) (k : ℕ) (i : Ins) (e : i ≡ ins_at w k) (b : Bool) (f : b ≡ is_level i) where
  at_level : (c : Bool) → b ≡ c → kept_at regs w tries rows k ≡ cond c (kept regs (row rows) (level_of regs w tries k)) []
  unfolding kept_at
  at_level c h = ap (λ (t : Bool). cond t (kept regs (row rows) (level_of regs w tries k)) []) (ap is_level (sym e) ∙ sym f ∙ h)

  pub count_is : b ≡ true → (r : ℕ) → r ≡ length (kept regs (row rows) (level_of regs w tries k)) → r ≡ length (kept_at regs w tries rows k)
  count_is h r q = q ∙ ap length (sym (at_level true h))

  pub count_none : b ≡ false → 0 ≡ length (kept_at regs w tries rows k)
  count_none h = ap length (sym (at_level false h))

  module _ (old : List ℕ) (m : ℕ) where
    pub keep_room : b ≡ true → m + length (kept_at regs w tries rows k) ≤ length old → m + length (kept regs (row rows) (level_of regs w tries k)) ≤ length old
    keep_room h l = subst (λ (L : List ℕ). m + length L ≤ length old) (at_level true h) l

    pub keep_is : b ≡ true → (out : List ℕ) (r : ℕ) → Listing (kept regs (row rows) (level_of regs w tries k)) old m out r → Listing (kept_at regs w tries rows k)
        old m out r
    keep_is h out r p = subst (λ (L : List ℕ). Listing L old m out r) (sym (at_level true h)) p

    pub keep_none : b ≡ false → m + length (kept_at regs w tries rows k) ≤ length old → Listing (kept_at regs w tries rows k) old m old m
    keep_none h l = subst (λ (L : List ℕ). Listing L old m old m) (sym (at_level false h)) (written_end [] old m old m [] (written_start [] old m [] refl)
        (omega arith) refl)

pub ruleset counted = (count_is, count_none)

pub ruleset listed_at = (keep_room, keep_is, keep_none)

-- ---- all positions

module _ (regs : ℕ) (w tries rows : List ℕ) where
  lists_next : (k : ℕ) → lists_to regs w tries rows (k + 1) ≡ lists_to regs w tries rows k ++ kept_at regs w tries rows k
  unfolding lists_to
  lists_next k = ap (lists_to regs w tries rows) (add-one k)

  offsets_next : (k : ℕ) → offsets_to regs w tries rows (k + 1) ≡ offsets_to regs w tries rows k ++ (length (lists_to regs w tries rows k) ∷ [])
  unfolding offsets_to
  offsets_next k = ap (offsets_to regs w tries rows) (add-one k)

  sum_next : (k : ℕ) → length (lists_to regs w tries rows (k + 1)) ≡ length (lists_to regs w tries rows k) + length (kept_at regs w tries rows k)
  sum_next k = ap length (lists_next k) ∙ length-append (lists_to regs w tries rows k) (kept_at regs w tries rows k)

  pub offsets_long : (k : ℕ) → length (offsets_to regs w tries rows k) ≡ k
  unfolding offsets_to
  offsets_long zero = refl
  offsets_long (suc k) = omega (arith, length-append (offsets_to regs w tries rows k) (length (lists_to regs w tries rows k) ∷ []), offsets_long k)

  grows : (d k : ℕ) → length (lists_to regs w tries rows k) ≤ length (lists_to regs w tries rows (d + k))
  grows zero k = subst (λ (x : ℕ). length (lists_to regs w tries rows k) ≤ length (lists_to regs w tries rows x)) same (omega arith)
    where
      same : k ≡ 0 + k
      same = omega arith
  grows (suc d) k = subst (λ (x : ℕ). length (lists_to regs w tries rows k) ≤ length (lists_to regs w tries rows x)) same
      (omega (arith, grows d k, sum_next (d + k)))
    where
      same : d + k + 1 ≡ suc d + k
      same = omega arith

  pub lists_mono : (k n : ℕ) → k ≤ n → length (lists_to regs w tries rows k) ≤ length (lists_to regs w tries rows n)
  lists_mono k n l = subst (λ (x : ℕ). length (lists_to regs w tries rows k) ≤ length (lists_to regs w tries rows x)) same (grows (n - k) k)
    where
      same : n - k + k ≡ n
      same = omega arith

  -- summed

  pub record Summing (m k : ℕ) : Type 0 where
    pub le : k ≤ count w
    pub sum : m ≡ length (lists_to regs w tries rows k)
    pub few : m ≤ k * 1024

  pub summing_start : Summing 0 0
  unfolding lists_to
  summing_start = record { le = zero-le; sum = refl; few = zero-le }

  module _ (m k : ℕ) (h : Summing m k) where
    pub summing_end : count w ≤ k → m ≡ length (lists_to regs w tries rows (count w))
    summing_end l = h.sum ∙ ap (λ (x : ℕ). length (lists_to regs w tries rows x)) (whole h.le)
      where
        whole : k ≤ count w → k ≡ count w
        whole g = omega arith

    pub summing_few : Valid w → m ≤ 67107840
    summing_few v = omega (arith, h.few, h.le, v.few)

    module _ (r : ℕ) (p : r ≤ 1024) (l : k < count w) where
      pub summing_fits : Valid w → Fits w64 (m + r)
      summing_fits v = Fits-under w64 (m + r) 67108865 (omega (arith, h.few, v.few)) tt

      pub summing_more : r ≡ length (kept_at regs w tries rows k) → Summing (m + r) (k + 1)
      summing_more q = record { le = omega arith; sum = omega (arith, h.sum, sum_next k); few = omega (arith, h.few) }

  -- written

  pub record Filling (offsets list now-offsets now-list : List ℕ) (m k : ℕ) : Type 0 where
    pub le : k ≤ count w
    pub sum : m ≡ length (lists_to regs w tries rows k)
    pub begins : now-offsets ≡ over (offsets_to regs w tries rows k) offsets
    pub lists : now-list ≡ over (lists_to regs w tries rows k) list

  pub filling_start : (offsets list : List ℕ) → Filling offsets list offsets list 0 0
  unfolding lists_to offsets_to
  filling_start offsets list = record { le = zero-le; sum = refl; begins = refl; lists = refl }

  module _ (offsets list o l : List ℕ) (m k : ℕ) (h : Filling offsets list o l m k) where
    pub filling_fits : length (lists_to regs w tries rows (count w)) ≤ 67107840 → Fits w32 m
    filling_fits a = Fits-under w32 m 67107841 (omega (arith, h.sum, lists_mono k (count w) h.le)) tt

    module _ (there : count w < length offsets) where
      pub filling_offsets : length o ≡ length offsets
      filling_offsets = ap length h.begins ∙ over_long (offsets_to regs w tries rows k) offsets (omega (arith, offsets_long k, h.le))

      pub filling_write : k < count w → k < length o
      filling_write a = omega (arith, filling_offsets)

      pub filling_write_last : count w < length o
      filling_write_last = omega (arith, filling_offsets)

      pub filling_set : (v x : ℕ) → length (set o x v) ≡ length offsets
      filling_set v x = length-set o x v ∙ filling_offsets

    module _ (room : length (lists_to regs w tries rows (count w)) ≤ length list) where
      pub filling_list : length l ≡ length list
      filling_list = ap length h.lists ∙ over_long (lists_to regs w tries rows k) list (omega (arith, lists_mono k (count w) h.le))

      pub filling_room : k < count w → m + length (kept_at regs w tries rows k) ≤ length l
      filling_room a = omega (arith, filling_list, h.sum, sum_next k, lists_mono (k + 1) (count w) (omega arith))

      module _ (there : count w < length offsets) where
        pub filling_more : k < count w → (l' : List ℕ) (m' : ℕ) → Listing (kept_at regs w tries rows k) l m l' m' → Filling offsets list (set o k m) l' m'
            (k + 1)
        filling_more a l' m' p = record {
          le = omega arith;
          sum = p.past ∙ ap (λ (x : ℕ). x + length (kept_at regs w tries rows k)) h.sum ∙ sym (sum_next k);
          begins = ap (λ (x : List ℕ). set x k m) h.begins ∙ over_set (offsets_to regs w tries rows k) offsets m k (sym (offsets_long k)) (omega arith)
              ∙ ap (λ (x : List ℕ). over x offsets) (ap (λ (x : ℕ). offsets_to regs w tries rows k ++ (x ∷ [])) h.sum ∙ sym (offsets_next k));
          lists = p.put ∙ ap (λ (x : List ℕ). paste x m (kept_at regs w tries rows k) (length (kept_at regs w tries rows k))) h.lists
              ∙ over_paste (lists_to regs w tries rows k) list (kept_at regs w tries rows k) m h.sum ∙ ap (λ (x : List ℕ). over x list) (sym (lists_next k));
        }

        pub filling_end : count w ≤ k → Filled regs w tries rows offsets list (set o (count w) m) l
        unfolding offsets_to
        filling_end a = record {
          begins = ap₂ (λ (x : List ℕ) (y : ℕ). set x y m) h.begins (sym whole) ∙ over_set (offsets_to regs w tries rows k) offsets m k (sym (offsets_long k))
              (omega arith)
              ∙ ap (λ (x : List ℕ). over x offsets) (ap (λ (x : ℕ). offsets_to regs w tries rows k ++ (x ∷ [])) h.sum
              ∙ ap (λ (x : ℕ). offsets_to regs w tries rows (suc x)) whole);
          lists = h.lists ∙ ap (λ (x : ℕ). over (lists_to regs w tries rows x) list) whole;
        }
          where
            whole : k ≡ count w
            whole = omega (arith, h.le)

pub ruleset summings = (summing_start, summing_end, summing_few, summing_fits, summing_more)

pub ruleset fillings = (
  filling_start,
  filling_fits,
  filling_offsets,
  filling_write,
  filling_write_last,
  filling_set,
  filling_list,
  filling_room,
  filling_more,
  filling_end,
)
