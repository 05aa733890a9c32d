-- The loops of a route, over any code: what a sweep has shown that came down to k, and what a run has between two sweeps. A route shows
-- that its step is `Put`; the rest is here, once for every width and word count. Assumes nothing.
use mathlib.Core.Path.{◌≡◌, refl, sym, ap, ◌∙◌, subst}
use mathlib.Core.Logic.{⊎_elim, ◌⊎◌, inl, inr, ◌≢◌}
use mathlib.Core.List.{List}
use mathlib.Core.Bool.{Bool, true, false, not, cond, ◌&&◌, ◌||◌, true≢false, false≢true}
use Prim.Native.Nat.{ℕ, suc, ◌+◌, ◌-◌, ◌≤◌, ◌<◌, zero-le}
use native.Mathlib.Nat.{le_refl}
use native.Mathlib.Decide.{ℕ_discrete, dec_lt}
use native.Mathlib.Omega.{arith}
use borrow.Author.Tests.{lt-ltb, le-ltb, eqb-true, eqb-false, eq-eqb, ne_eqb, not-true, not-false}
use lib.Dec.{eqb}
use lib.ListN.{length, set, length-set}
use lib.Seq.{get_or-set_same, get_or-set_other, set-get_or}
use Rattle.laws.proofs.Branch.{or_false, or_true}
use Rattle.flow.specs.Flow.{Flow, reach, row_at}
use Rattle.flow.specs.Sweep.{row, empty, sweep, swept, below, backs, strays, Again, Sweeps, done, more, start_of, abandoned_of, Found}
use Rattle.flow.specs.Inner.{Put}
use Rattle.flow.proofs.Tally.{tally_zero, tally_some, tally_le, strays_zero}
use Rattle.flow.proofs.Rows.{empty_long, empty_row}
use Rattle.flow.proofs.Bound.{bounded}

-- ---- one row

module _ (f : Flow) (rows : List ℕ) (k v : ℕ) (is : v ≡ row_at f (row rows) k) where
  pub put_same : row rows k ≡ v → Put f rows k rows false
  put_same e = record {
    stored = sym (ap (λ (x : ℕ). set rows k x) (sym (e ∙ is)) ∙ set-get_or rows k 0);
    told = ap not (sym (eq-eqb (row rows k) (row_at f (row rows) k) (e ∙ is)));
  }

  pub put_new : (row rows k ≡ v → ⊥) → Put f rows k (set rows k v) true
  put_new n = record {
    stored = ap (λ (x : ℕ). set rows k x) is;
    told = ap not (sym (ne_eqb (row rows k) (row_at f (row rows) k) (λ e. n (e ∙ sym is))));
  }

-- ---- a sweep that has come down to k

pub record Part (f : Flow) (first : ℕ) (rows₀ rows : List ℕ) (changed back : Bool) (k : ℕ) : Type 0 where
  pub lo : first ≤ k
  pub hi : k ≤ f.size
  pub long : length rows ≡ suc f.size
  pub left : sweep f first (k - first) rows ≡ swept f first rows₀
  pub low : (i : ℕ) → i < k → row rows i ≡ row rows₀ i
  pub kept : changed ≡ false → rows ≡ rows₀
  pub moved : changed ≡ true → (i : ℕ) × (k ≤ i) × (row rows i ≢ row rows₀ i)
  pub ahead : back ≡ false → (j : ℕ) → k ≤ j → j < f.size → below (suc j) (reach f j) ≡ false
  pub behind : back ≡ true → (j : ℕ) × (k ≤ j) × (j < f.size) × (below (suc j) (reach f j) ≡ true)
  pub inside : (j : ℕ) → k ≤ j → j < f.size → below first (reach f j) ≡ false

module _ (f : Flow) (first : ℕ) where
  sweep_next : (rows : List ℕ) (d : ℕ) → sweep f first (suc d) rows ≡ sweep f first d (set rows (first + d) (row_at f (row rows) (first + d)))
  unfolding sweep
  sweep_next rows d = refl

  module _ (rows₀ rows : List ℕ) (changed back : Bool) (k : ℕ) (p : Part f first rows₀ rows changed back k) where
    -- row k - 1 is found, and its jump stays inside
    pub part_step : (out : List ℕ) (changed' back' : Bool) → first < k → below first (reach f (k - 1)) ≡ false → Put f rows (k - 1) out changed'
        → back' ≡ below k (reach f (k - 1)) → Part f first rows₀ out (changed' || changed) (back' || back) (k - 1)
    part_step out changed' back' lt within put eb = record {
      lo = omega arith;
      hi = omega (arith, p.hi);
      long = ap length put.stored ∙ length-set rows j v ∙ p.long;
      left = ap (λ (l : List ℕ). sweep f first (j - first) l) (put.stored ∙ ap (λ (x : ℕ). set rows x (row_at f (row rows) x)) at)
          ∙ sym (sweep_next rows (j - first)) ∙ ap (λ (x : ℕ). sweep f first x rows) down ∙ p.left;
      low = λ i l. ap (λ (l' : List ℕ). row l' i) put.stored ∙ get_or-set_other rows j i v 0 (λ e. omega arith) ∙ p.low i (omega arith);
      kept = λ e. let w = or_false changed' changed e in put.stored ∙ still w.0 ∙ p.kept w.1;
      moved = λ e. moves (or_true changed' changed e) (decide changed');
      ahead = λ e i a b. let w = or_false back' back e in ahead_at w.0 w.1 i a b (ℕ_discrete i j);
      behind = λ e. ⊎_elim (λ t. (j, le_refl j, omega (arith, p.hi), ap (λ (x : ℕ). below x (reach f j)) one ∙ sym eb ∙ t))
          (λ t. let w = p.behind t in (w.0, omega (arith, w.1), w.2, w.3)) (or_true back' back e);
      inside = λ i a b. inside_at i a b (ℕ_discrete i j);
    }
      where
        j : ℕ
        j = k - 1

        v : ℕ
        v = row_at f (row rows) j

        one : suc j ≡ k
        one = omega arith

        at : j ≡ first + (j - first)
        at = omega arith

        down : suc (j - first) ≡ k - first
        down = omega arith

        decide : (t : Bool) → (t ≡ true) ⊎ (t ≡ false)
        decide true = inl refl
        decide false = inr refl

        still : changed' ≡ false → set rows j v ≡ rows
        still e = ap (λ (x : ℕ). set rows j x) (sym (eqb-true (row rows j) v (not-false (eqb (row rows j) v) (sym put.told ∙ e)))) ∙ set-get_or rows j 0

        moves : (changed' ≡ true) ⊎ (changed ≡ true) → (changed' ≡ true) ⊎ (changed' ≡ false) → (i : ℕ) × (j ≤ i) × (row out i ≢ row rows₀ i)
        moves e (inl t) = (
          j,
          le_refl j,
          λ h. differ (sym (ap (λ (l : List ℕ). row l j) put.stored ∙ get_or-set_same rows j v 0
              (omega (arith, p.long, p.hi))) ∙ h),
        )
          where
            differ : v ≡ row rows₀ j → ⊥
            differ h = eqb-false (row rows j) v (not-true (eqb (row rows j) v) (sym put.told ∙ t)) (p.low j (omega arith) ∙ sym h)
        moves e (inr t) = let w = p.moved (⊎_elim (λ x. absurd (true≢false (sym x ∙ t))) (λ x. x) e) in
            (w.0, omega (arith, w.1), λ h. w.2 (sym (ap (λ (l : List ℕ). row l w.0) (put.stored ∙ still t)) ∙ h))

        ahead_at : back' ≡ false → back ≡ false → (i : ℕ) → j ≤ i → i < f.size → Dec (i ≡ j) → below (suc i) (reach f i) ≡ false
        ahead_at e e' i a b (yes h) = ap (λ (x : ℕ). below (suc x) (reach f x)) h ∙ ap (λ (x : ℕ). below x (reach f j)) one ∙ sym eb ∙ e
        ahead_at e e' i a b (no h) = p.ahead e' i (omega arith) b

        inside_at : (i : ℕ) → j ≤ i → i < f.size → Dec (i ≡ j) → below first (reach f i) ≡ false
        inside_at i a b (yes h) = ap (λ (x : ℕ). below first (reach f x)) h ∙ within
        inside_at i a b (no h) = p.inside i (omega arith) b

    -- a jump to before the start is met
    part_stray : first < k → below first (reach f (k - 1)) ≡ true → 0 < strays f first
    part_stray lt e = tally_some (λ j. below first (reach f j)) first (f.size - first) (k - 1) (omega arith) (omega (arith, p.hi)) e

    module _ (end : k ≤ first) where
      none : first ≤ k → 0 ≡ k - first
      none h = omega arith

      -- a sweep that has come down to its start is whole, and met no such jump
      part_whole : rows ≡ swept f first rows₀
      unfolding sweep
      part_whole = ap (λ (x : ℕ). sweep f first x rows) (none p.lo) ∙ p.left

      part_calm : strays f first ≡ 0
      part_calm = tally_zero (λ j. below first (reach f j)) first (f.size - first) (λ j a b. p.inside j (omega arith) (omega (arith, p.hi, p.lo)))

      -- its flags say whether another follows
      part_again : (changed && back) ≡ true → Again f first rows₀
      part_again e = both changed back refl refl e
        where
          both : (a b : Bool) → changed ≡ a → back ≡ b → (a && b) ≡ true → Again f first rows₀
          both true true ea eb h = let m = p.moved ea in let w = p.behind eb in (
            λ same. m.2 (ap (λ (l : List ℕ). row l m.0) (part_whole ∙ same)),
            tally_some (λ j. below (suc j) (reach f j)) first (f.size - first) w.0 (omega (arith, w.1, p.lo)) (omega (arith, w.2)) w.3,
          )
          both true false ea eb h = absurd (false≢true h)
          both false b ea eb h = absurd (false≢true h)

      part_last : (changed && back) ≡ false → ¬ Again f first rows₀
      part_last e a = both changed back refl refl e
        where
          both : (s t : Bool) → changed ≡ s → back ≡ t → (s && t) ≡ false → ⊥
          both true true ea eb h = true≢false h
          both false t ea eb h = a.0 (sym part_whole ∙ p.kept ea)
          both true false ea eb h = omega (
            arith,
            a.1,
            tally_zero (λ j. below (suc j) (reach f j)) first (f.size - first)
                (λ j x y. p.ahead eb j (omega arith) (omega (arith, p.hi, p.lo))),
          )

-- ---- a run between two sweeps, begun at `from` and now at `first`

-- no sweep has been whole, and a jump to before the start is still to be met
pub record Fresh (f : Flow) (from first full lost : ℕ) : Type 0 where
  pub stray : 0 < strays f from
  pub here : first ≡ from
  pub none : full ≡ 0
  pub kept : lost ≡ 0

-- c sweeps are left, and with those that were they make the definition's
pub record Settled (f : Flow) (from first full lost : ℕ) (rows : List ℕ) : Type 0 where
  pub here : first ≡ start_of f from
  pub told : lost ≡ abandoned_of f from
  pub c : ℕ
  pub out : List ℕ
  pub rest : Sweeps f first rows c out
  pub whole : Sweeps f first (empty f) (full + c) out
  pub few : full + c ≤ backs f first + 2

pub record Going (f : Flow) (from first full lost : ℕ) (rows : List ℕ) : Type 0 where
  pub le : first ≤ f.size
  pub long : length rows ≡ suc f.size
  pub at : Fresh f from first full lost ⊎ ((strays f first ≡ 0) × Settled f from first full lost rows)

-- what falls: the sweep that may be abandoned, then the sweeps that are left
abbrev pub togo : Flow → ℕ → ℕ → ℕ → ℕ
togo f from full lost = (1 - lost) + (backs f (start_of f from) + 2 - full)

module _ (f : Flow) (from : ℕ) where
  strayed : 0 < strays f from → (start_of f from ≡ 0) × (abandoned_of f from ≡ 1)
  strayed h = let e = lt-ltb 0 (strays f from) h in (ap (λ (t : Bool). cond t 0 from) e, ap (λ (t : Bool). cond t 1 0) e)

  calm : strays f from ≡ 0 → (start_of f from ≡ from) × (abandoned_of f from ≡ 0)
  calm z = let e = le-ltb 0 (strays f from) (omega arith) in (ap (λ (t : Bool). cond t 0 from) e, ap (λ (t : Bool). cond t 1 0) e)

  settle : (first lost : ℕ) → first ≤ f.size → strays f first ≡ 0 → first ≡ start_of f from → lost ≡ abandoned_of f from → Going f from first 0 lost (empty f)
  settle first lost le none here told = record {
    le = le;
    long = empty_long f;
    at = let (c, out, s, l) = bounded f first le (empty f) (omega (arith, empty_long f)) (empty_row f) in
        inr (
          none,
          record {
            here = here;
            told = told;
            c = c;
            out = out;
            rest = s;
            whole = subst (λ (x : ℕ). Sweeps f first (empty f) x out) (sum c) s;
            few =
                omega arith;
          },
        );
  }
    where
      sum : (c : ℕ) → c ≡ 0 + c
      sum c = omega arith

  -- before any sweep
  pub going_start : from ≤ f.size → Going f from from 0 0 (empty f)
  going_start le = go (dec_lt 0 (strays f from))
    where
      go : Dec (0 < strays f from) → Going f from from 0 0 (empty f)
      go (yes h) = record { le = le; long = empty_long f; at = inl (record { stray = h; here = refl; none = refl; kept = refl }) }
      go (no n) = let z : strays f from ≡ 0 = omega arith in settle from 0 le z (sym (calm z).0) (sym (calm z).1)

  module _ (first full lost : ℕ) (rows₀ : List ℕ) (g : Going f from first full lost rows₀) where
    -- at the top of a sweep
    pub part_start : Part f first rows₀ rows₀ false false f.size
    part_start = record {
      lo = g.le;
      hi = le_refl f.size;
      long = g.long;
      left = refl;
      low = λ i l. refl;
      kept = λ e. refl;
      moved = λ e. absurd (false≢true e);
      ahead = λ e j a b. absurd (omega arith);
      behind = λ e. absurd (false≢true e);
      inside = λ j a b. absurd (omega arith);
    }

    module _ (rows : List ℕ) (changed back : Bool) (k : ℕ) (p : Part f first rows₀ rows changed back k) where
      -- the sweep is left from inside: all rows are cleared, and all begins at 0
      module _ (lt : first < k) (met : below first (reach f (k - 1)) ≡ true) where
        fresh : Fresh f from first full lost
        fresh = ⊎_elim (λ w. w) (λ w. absurd (omega (arith, w.0, part_stray f first rows₀ rows changed back k p lt met))) g.at

        pub lost_first : lost ≡ 0
        lost_first = fresh.kept

        pub lost_again : Going f from 0 full (lost + 1) (empty f)
        lost_again = subst (λ (x : ℕ). Going f from 0 x (lost + 1) (empty f)) (sym fresh.none)
            (settle 0 (lost + 1) zero-le (strays_zero f) (sym (strayed fresh.stray).0) (omega (arith, lost_first, (strayed fresh.stray).1)))

        pub lost_less : togo f from full (lost + 1) < togo f from full lost
        lost_less = omega (arith, lost_first)

      -- the sweep is whole
      module _ (end : k ≤ first) where
        settled : Settled f from first full lost rows₀
        settled = ⊎_elim (λ w. absurd (omega (arith, w.stray, part_calm f first rows₀ rows changed back k p end, ap (strays f) w.here))) (λ w. w.1) g.at

        at_least : {rows out : List ℕ} {c : ℕ} → Sweeps f first rows c out → 0 < c
        at_least (done x) = omega arith
        at_least (more x y) = omega arith

        pub full_few : full + 1 ≤ f.size + 2
        full_few = omega (arith, settled.few, at_least settled.rest, tally_le (λ j. below (suc j) (reach f j)) first (f.size - first))

        -- it is the last
        pub full_found : (changed && back) ≡ false → Found f from rows (full + 1) lost
        full_found e = finish settled.rest settled.whole
          where
            finish : {c : ℕ} {out : List ℕ} → Sweeps f first rows₀ c out → Sweeps f first (empty f) (full + c) out → Found f from rows (full + 1) lost
            finish (done n) s = record {
              sweeps = subst (λ (x : ℕ). Sweeps f x (empty f) (full + 1) rows) settled.here
                  (subst (λ (l : List ℕ). Sweeps f first (empty f) (full + 1) l) (sym (part_whole f first rows₀ rows changed back k p end)) s);
              left = settled.told;
            }
            finish (more a r) s = absurd (part_last f first rows₀ rows changed back k p end e a)

        -- another follows
        module _ (e : (changed && back) ≡ true) where
          left : (c : ℕ) × (settled.c ≡ suc c) × Sweeps f first (swept f first rows₀) c settled.out
          left = go settled.rest
            where
              go : {c : ℕ} {out : List ℕ} → Sweeps f first rows₀ c out → (m : ℕ) × (c ≡ suc m) × Sweeps f first (swept f first rows₀) m out
              go (done n) = absurd (n (part_again f first rows₀ rows changed back k p end e))
              go (more {full = m} a s) = (m, refl, s)

          pub full_again : Going f from first (full + 1) lost rows
          full_again = record {
            le = g.le;
            long = p.long;
            at = inr (
              part_calm f first rows₀ rows changed back k p end,
              record {
                here = settled.here;
                told = settled.told;
                c = left.0;
                out = settled.out;
                rest = subst (λ (l : List ℕ). Sweeps f first l left.0 settled.out) (sym (part_whole f first rows₀ rows changed back k p end)) left.2;
                whole = subst (λ (x : ℕ). Sweeps f first (empty f) x settled.out) sum settled.whole;
                few = omega (arith, settled.few, left.1);
              },
            );
          }
            where
              sum : full + settled.c ≡ full + 1 + left.0
              sum = omega (arith, left.1)

          pub full_less : togo f from (full + 1) lost < togo f from full lost
          full_less = omega (arith, settled.few, left.1, at_least left.2, ap (backs f) settled.here)
