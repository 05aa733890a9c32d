-- What is needed by paths is what stands in the least rows, where nothing leaves for a handler. Assumes nothing.
use mathlib.Core.Path.{◌≡◌, ap, ◌∙◌}
use mathlib.Core.List.{List, []}
use mathlib.Core.Bool.{Bool, cond}
use Prim.Native.Nat.{ℕ, zero, suc, ◌<◌, zero-le}
use native.Mathlib.Decide.{dec_lt}
use native.Mathlib.Omega.{arith}
use borrow.Author.Tests.{lt-ltb, le-ltb}
use Rattle.flow.specs.Set.{bit}
use Rattle.flow.specs.Flow.{Flow, joined, row_at, Least}
use Rattle.flow.proofs.Bits.{bit_lt, bit_zero}
use Rattle.flow.proofs.Rows.{joined_has, joined_in, row_at_bit}
use Rattle.flow.proofs.Needed.{soon, soon_solves}
use Rattle.needed.specs.Path.{Needs, here, later}

module _ (f : Flow) (r : ℕ) where
  -- what is used soon is needed
  soon_needs : ((k : ℕ) → f.raises k ≡ []) → (i k : ℕ) → 0 < bit (soon f i k) r → Needs f r k
  unfolding soon joined
  soon_needs calm zero k h = absurd (omega (arith, bit_zero r))
  soon_needs calm (suc i) k h = go (dec_lt k f.size) (λ s h'. soon_needs calm i s h')
    where
      go : Dec (k < f.size) → ((s : ℕ) → 0 < bit (soon f i s) r → Needs f r s) → Needs f r k
      go (no n) rec = absurd (omega (arith, h, ap (λ (t : Bool). bit (cond t (row_at f (soon f i) k) 0) r) (le-ltb k f.size (omega arith)), bit_zero r))
      go (yes l) rec = at (dec_lt 0 (bit (f.used k) r))
        where
          now' : bit (soon f (suc i) k) r ≡ bit (row_at f (soon f i) k) r
          now' = ap (λ (t : Bool). bit (cond t (row_at f (soon f i) k) 0) r) (lt-ltb k f.size l)

          none : bit (joined (soon f i) (f.raises k)) r ≡ 0
          none = ap (λ (l : List ℕ). bit (joined (soon f i) l) r) (calm k) ∙ bit_zero r

          at : Dec (0 < bit (f.used k) r) → Needs f r k
          at (yes u) = here l u
          at (no u) =
              let (s, m, b) = joined_has (soon f i) r (f.after k) (omega (arith, h, now', none, row_at_bit f (soon f i) k r)) in
              later l (omega (arith, h, now', none, row_at_bit f (soon f i) k r, bit_lt (joined (soon f i) (f.after k)) r)) m (rec s b)

  module _ (R : ℕ → ℕ) (l : Least f 0 R) where
    -- a register of a least row is needed
    pub row_needs : ((k : ℕ) → f.raises k ≡ []) → (k : ℕ) → 0 < bit (R k) r → Needs f r k
    row_needs calm k b = soon_needs calm f.size k (omega (arith, l.least (soon f f.size) (soon_solves f 0) k zero-le r))

    -- and what is needed stands in its row
    pub needs_row : {k : ℕ} → Needs f r k → 0 < bit (R k) r
    needs_row {k} (here h u) = omega (arith, u, ap (λ (x : ℕ). bit x r) (l.solves.each k zero-le h), row_at_bit f R k r)
    needs_row {k} (later {s = s} h g m n) =
        omega (arith, g, needs_row n, joined_in R r (f.after k) s m, ap (λ (x : ℕ). bit x r) (l.solves.each k zero-le h), row_at_bit f R k r)
