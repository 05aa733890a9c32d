-- With handlers joined rows only grow, and so do kept lists. Assumes nothing.
use mathlib.Core.Path.{ap}
use mathlib.Core.Logic.{⊎_elim}
use mathlib.Core.Bool.{Bool, cond}
use mathlib.Core.List.{List}
use Prim.Native.Nat.{ℕ, zero, suc, ◌≤◌, ◌<◌}
use native.Mathlib.Decide.{dec_lt}
use native.Mathlib.Omega.{arith}
use borrow.Author.Tests.{lt-ltb, le-ltb}
use lib.Dec.{ltb}
use Rattle.code.specs.Ins.{count}
use Rattle.flow.specs.Set.{bit, ◌⊑◌}
use Rattle.flow.specs.Flow.{Flow, joined, row_at, Solution, Closed}
use Rattle.flow.specs.Sweep.{row, start_of, Found}
use Rattle.flow.specs.Kept.{Level, kept}
use Rattle.flow.proofs.Bits.{bit_zero}
use Rattle.flow.proofs.Rows.{In, row_at_bit, row_at_mono, by_step}
use Rattle.flow.proofs.Needed.{soon, soon_solves}
use Rattle.flow.proofs.Kept.{kept_resume, kept_handler, kept_only}
use Rattle.flow.proofs.Answer.{found_least, start_closed, start_le}
use Rattle.steps.specs.Code.{flow}
use Rattle.nested.specs.Raising.{raising}

-- what is soon used is in all rows that have at least what their equation says
soon_within : (f : Flow) (start : ℕ) → Closed f start → (S : ℕ → ℕ) → ((k r : ℕ) → start ≤ k → k < f.size → bit (row_at f S k) r ≤ bit (S k) r)
    → (i k r : ℕ) → start ≤ k → bit (soon f i k) r ≤ bit (S k) r
unfolding soon
soon_within f start closed S big zero k r lo = omega (arith, bit_zero r)
soon_within f start closed S big (suc i) k r lo = go (dec_lt k f.size)
    (λ hi. row_at_mono f (soon f i) S k r (λ s m. soon_within f start closed S big i s r (closed k lo hi s m)))
  where
    go : Dec (k < f.size) → (k < f.size → bit (row_at f (soon f i) k) r ≤ bit (row_at f S k) r)
        → bit (cond (ltb k f.size) (row_at f (soon f i) k) 0) r ≤ bit (S k) r
    go (yes hi) rec = omega (arith, ap (λ (t : Bool). bit (cond t (row_at f (soon f i) k) 0) r) (lt-ltb k f.size hi), rec hi, big k r lo hi)
    go (no n) rec = omega (arith, ap (λ (t : Bool). bit (cond t (row_at f (soon f i) k) 0) r) (le-ltb k f.size (omega arith)), bit_zero r)

module _ (may : ℕ → Bool) (regs : ℕ) (w tries : List ℕ) where
  -- document 01's row of the same rows is in it
  plain_in : (S : ℕ → ℕ) (k r : ℕ) → bit (row_at (flow regs w) S k) r ≤ bit (row_at (raising may regs w tries) S k) r
  unfolding joined
  plain_in S k r = omega (arith, row_at_bit (flow regs w) S k r, row_at_bit (raising may regs w tries) S k r, bit_zero r)

  module _ (first first' : ℕ) (le : first ≤ count w) (le' : first' ≤ count w) (rows rows' : List ℕ) (full lost full' lost' : ℕ)
      (a : Found (flow regs w) first rows full lost)
      (b : Found (raising may regs w tries) first' rows' full' lost') where
    -- at each position from where both sweeps began on
    pub more_rows : (k : ℕ) → first ≤ k → first' ≤ k → row rows k ⊑ row rows' k
    more_rows k lo lo' r = omega (
      arith,
      (found_least (flow regs w) first le rows full lost a).least (soon (flow regs w) (count w)) (soon_solves (flow regs w) (start_of (flow regs w) first)) k
          (omega (arith, start_le (flow regs w) first)) r,
      soon_within (flow regs w) start closed (row rows') big (count w) k r (omega (arith, start_le (raising may regs w tries) first')),
    )
      where
        start : ℕ
        start = start_of (raising may regs w tries) first'

        closed : Closed (flow regs w) start
        closed j l h s m = start_closed (raising may regs w tries) first' j l h s (by_step (raising may regs w tries) j m)

        solves : Solution (raising may regs w tries) start (row rows')
        solves = (found_least (raising may regs w tries) first' le' rows' full' lost' b).solves

        big : (j q : ℕ) → start ≤ j → j < count w → bit (row_at (flow regs w) (row rows') j) q ≤ bit (row rows' j) q
        big j q l h = omega (arith, plain_in (row rows') j q, ap (λ (x : ℕ). bit x q) (solves.each j l h))

    -- so lists only grow
    pub more_kept : (v : Level) → first ≤ v.resume → first' ≤ v.resume → ((h : ℕ) → In h v.handlers → (first ≤ h) × (first' ≤ h)) → (r : ℕ)
        → In r (kept regs (row rows) v) → In r (kept regs (row rows') v)
    more_kept v l l' hs r m =
        let (k, e, lr, b) = kept_only regs (row rows) v r m in
        ⊎_elim
        (λ p. kept_resume regs (row rows') v r lr (omega (arith, b, ap (λ (x : ℕ). bit (row rows x) r) p.0, more_rows v.resume l l' r)) p.1)
        (λ i. kept_handler regs (row rows') v k r i lr (omega (arith, b, more_rows k (hs k i).0 (hs k i).1 r))) e
