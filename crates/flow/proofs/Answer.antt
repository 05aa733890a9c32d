-- What an answer says: the least solution from where the sweeps began, nothing below, few sweeps; and that there is one answer only. Assumes nothing.
use mathlib.Core.Path.{◌≡◌, refl, sym, ap, ◌∙◌, subst}
use mathlib.Core.Logic.{inl}
use mathlib.Core.List.{List, Memᴰ}
use mathlib.Core.Bool.{Bool, true, false, cond}
use Prim.Native.Nat.{ℕ, suc, ◌+◌, ◌-◌, ◌^◌, ◌≤◌, ◌<◌, zero-le}
use native.Mathlib.Nat.{le_refl, le_antisymm}
use native.Mathlib.Omega.{arith}
use borrow.Author.Tests.{ltb-true, ltb-false, eqb-false}
use lib.Dec.{ltb, eqb}
use lib.Pow.{pow_pos}
use Rattle.flow.specs.Set.{bit}
use Rattle.flow.specs.Flow.{Flow, reach, Least, Closed}
use Rattle.flow.specs.Sweep.{row, empty, swept, backs, strays, below, Again, Sweeps, done, more, start_of, Found}
use Rattle.flow.specs.Kept.{Level, handlers_of, kept}
use Rattle.flow.specs.Demand.{Keeps}
use Rattle.flow.proofs.Bits.{bit_zero, bit_ext}
use Rattle.flow.proofs.Tally.{below_none, tally_none, strays_zero}
use Rattle.flow.proofs.Rows.{empty_long, empty_row, sweeps_least, sweeps_out, sweeps_within, sweeps_lt}
use Rattle.flow.proofs.Bound.{bounded}
use Rattle.flow.proofs.Demand.{keeps}
use Rattle.flow.proofs.Tries.{handlers_past}

-- the sweeps from given rows are settled
pub sweeps_one : (f : Flow) (start : ℕ) {rows out out' : List ℕ} {c c' : ℕ} → Sweeps f start rows c out → Sweeps f start rows c' out' → (c ≡ c') × (out ≡ out')
sweeps_one f start (done n) (done n') = (refl, refl)
sweeps_one f start (done n) (more a s) = absurd (n a)
sweeps_one f start (more a s) (done n) = absurd (n a)
sweeps_one f start (more a s) (more a' s') = let w = sweeps_one f start s s' in (ap suc w.0, w.1)

-- when a sweep is repeated, shown by one row that it changed; and when not
pub again_at : (f : Flow) (start : ℕ) (rows : List ℕ) (k : ℕ) → eqb (row (swept f start rows) k) (row rows k) ≡ false → ltb 0 (backs f start) ≡ true
    → Again f start rows
again_at f start rows k e b = (λ same. eqb-false (row (swept f start rows) k) (row rows k) e (ap (λ (l : List ℕ). row l k) same), ltb-true 0 (backs f start) b)

pub last_same : (f : Flow) (start : ℕ) (rows : List ℕ) → swept f start rows ≡ rows → ¬ Again f start rows
last_same f start rows e a = a.0 e

pub last_straight : (f : Flow) (start : ℕ) (rows : List ℕ) → backs f start ≡ 0 → ¬ Again f start rows
last_straight f start rows z a = omega (arith, a.1)

-- any two answers are the same: rows and both counts
pub found_one : (f : Flow) (first : ℕ) {rows rows' : List ℕ} {full full' lost lost' : ℕ} → Found f first rows full lost → Found f first rows' full' lost'
    → (rows ≡ rows') × (full ≡ full') × (lost ≡ lost')
found_one f first a b = let w = sweeps_one f (start_of f first) a.sweeps b.sweeps in (w.1, w.0, a.left ∙ sym b.left)

-- no jump from a start goes before it
pub calm_closed : (f : Flow) (start : ℕ) → strays f start ≡ 0 → Closed f start
calm_closed f start z k lo hi s m = below_none start (reach f k) (tally_none (λ j. below start (reach f j)) start (f.size - start) z k lo (omega arith)) s m

module _ (f : Flow) (first : ℕ) where
  -- the start is closed under "after"
  pub start_closed : Closed f (start_of f first)
  start_closed = go (ltb 0 (strays f first)) refl
    where
      go : (t : Bool) → ltb 0 (strays f first) ≡ t → Closed f (cond t 0 first)
      go true e = calm_closed f 0 (strays_zero f)
      go false e = calm_closed f first (omega (arith, ltb-false 0 (strays f first) e))

  -- and no later than the sweeps began
  pub start_le : start_of f first ≤ first
  start_le = go (ltb 0 (strays f first))
    where
      go : (t : Bool) → cond t 0 first ≤ first
      go true = zero-le
      go false = le_refl first

  module _ (le : first ≤ f.size) where
    module _ (rows : List ℕ) (full lost : ℕ) (a : Found f first rows full lost) where
      -- the rows are the least solution from the final start
      pub found_least : Least f (start_of f first) (row rows)
      found_least = sweeps_least f (start_of f first) (omega (arith, start_le)) start_closed a.sweeps (omega (arith, empty_long f)) (empty_row f)

      -- rows below the final start are 0
      pub found_below : (k : ℕ) → k < start_of f first → row rows k ≡ 0
      found_below k l = sweeps_out f (start_of f first) (omega (arith, start_le)) a.sweeps k (inl l) ∙ empty_row f k

      -- registers not below the register count never appear
      pub found_regs : ((k : ℕ) → f.used k < 2 ^ f.regs) → (k : ℕ) → row rows k < 2 ^ f.regs
      found_regs small k = sweeps_lt f f.regs small (start_of f first) (omega (arith, start_le)) a.sweeps (omega (arith, empty_long f))
          (λ j. rw (empty_row f j) (pow_pos f.regs)) k

      -- full sweeps are at most the jumps to their own position or back and two more, and at most one is abandoned
      pub found_few : full ≤ backs f (start_of f first) + 2
      found_few =
          let (c, out, s, l) = bounded f (start_of f first) (omega (arith, start_le)) (empty f) (omega (arith, empty_long f)) (empty_row f) in
          omega (arith, (sweeps_one f (start_of f first) a.sweeps s).0)

      pub found_lost : lost ≤ 1
      found_lost = subst (λ (x : ℕ). x ≤ 1) (sym a.left) (go (ltb 0 (strays f first)))
        where
          go : (t : Bool) → cond t 1 0 ≤ 1
          go true = le_refl 1
          go false = zero-le

      -- demand 3 for every level that goes on at or past where the sweeps began
      pub found_keeps : (v : Level) → first ≤ v.resume → ((h : ℕ) → Memᴰ h v.handlers → first ≤ h) → Keeps f (kept f.regs (row rows) v) v
      found_keeps v l hs = keeps f (start_of f first) start_closed (row rows) found_least v (omega (arith, start_le)) (λ h m. omega (arith, start_le, hs h m))

      -- such is a level at k with the tries around it
      pub level_keeps : (k resume result : ℕ) (tries : List ℕ) → first ≤ k → k < f.size → k ≤ resume
          → Keeps f (kept f.regs (row rows) (record { resume = resume; result = result; handlers = handlers_of f.size k tries }))
          (record { resume = resume; result = result; handlers = handlers_of f.size k tries })
      level_keeps k resume result tries lo hi le' = found_keeps (record { resume = resume; result = result; handlers = handlers_of f.size k tries })
          (omega arith)
          (λ h m. omega (arith, (handlers_past f.size k hi tries h m).0))

-- routes that began elsewhere agree from the later start on
pub found_agree : (f : Flow) (first first' : ℕ) → first ≤ f.size → first' ≤ f.size → start_of f first ≤ start_of f first'
    → {rows rows' : List ℕ} {full full' lost lost' : ℕ}
    → Found f first rows full lost → Found f first' rows' full' lost' → (k : ℕ) → start_of f first' ≤ k → row rows k ≡ row rows' k
found_agree f first first' le le' l {rows} {rows'} a b k hk = bit_ext (row rows k) (row rows' k) (λ r. le_antisymm (up r) (down r))
  where
    lo : ℕ
    lo = start_of f first'

    R : Least f (start_of f first) (row rows)
    R = found_least f first le rows _ _ a

    S : Least f lo (row rows')
    S = found_least f first' le' rows' _ _ b

    up : (r : ℕ) → bit (row rows k) r ≤ bit (row rows' k) r
    up r = sweeps_within f (start_of f first) lo (start_closed f first') (row rows') S.solves (omega (arith, start_le f first)) a.sweeps
        (omega (arith, empty_long f))
        (λ j h q. omega (arith, ap (λ (x : ℕ). bit x q) (empty_row f j), bit_zero q)) k hk r

    down : (r : ℕ) → bit (row rows' k) r ≤ bit (row rows k) r
    down r = S.least (row rows) (record { last = R.solves.last; each = λ j x y. R.solves.each j (omega arith) y }) k hk r
