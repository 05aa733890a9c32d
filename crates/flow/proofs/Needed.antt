-- No register stands in a least row idly: some choices, at most as many as there are positions, lead to a read of it. Assumes nothing.
use mathlib.Core.Path.{◌≡◌, refl, sym, ap, ◌∙◌, subst}
use mathlib.Core.Logic.{⊎_elim, ◌⊎◌}
use mathlib.Core.List.{List, [], ◌∷◌, head-eq_of_cons-eq, tail-eq_of_cons-eq}
use mathlib.Core.Bool.{Bool, cond}
use Prim.Native.Nat.{ℕ, zero, suc, ◌+◌, ◌-◌, ◌≤◌, ◌<◌, zero-le}
use native.Mathlib.Nat.{le_antisymm}
use native.Mathlib.Decide.{dec_le, dec_lt}
use native.Mathlib.Omega.{arith}
use borrow.Author.Tests.{ltb-true, lt-ltb, le-ltb}
use lib.Dec.{ltb}
use lib.ListN.{length, get_or, drop}
use Rattle.flow.specs.Set.{bit}
use Rattle.flow.specs.Flow.{Flow, row_at, Solution, Least}
use Rattle.flow.specs.Sweep.{tally}
use Rattle.flow.specs.Run.{file_after, chosen}
use Rattle.flow.specs.Demand.{TellsApart}
use Rattle.flow.proofs.Bits.{bit_lt, bit_zero, bit_ext}
use Rattle.flow.proofs.Tally.{tally_more, tally_le}
use Rattle.flow.proofs.Rows.{In, row_at_mono, row_at_from}
use Rattle.flow.proofs.Members.{listed_in}
use Rattle.flow.proofs.Steps.{reads_step, values_tell, wrote_kept, leave_for, go_to}

-- a number that is at most m and never falls rests within m steps
rests : (c : ℕ → ℕ) (m : ℕ) → ((i : ℕ) → c i ≤ m) → (i : ℕ) × (i ≤ m) × (c (suc i) ≤ c i)
rests c m top = go m 0 (omega arith) zero-le
  where
    go : (d i : ℕ) → i + d ≡ m → i ≤ c i → (j : ℕ) × (j ≤ m) × (c (suc j) ≤ c j)
    go zero i e h = (i, omega arith, omega (arith, top (suc i)))
    go (suc d) i e h = at (dec_le (c (suc i)) (c i)) (λ l. go d (suc i) (omega arith) l)
      where
        at : Dec (c (suc i) ≤ c i) → (suc i ≤ c (suc i) → (j : ℕ) × (j ≤ m) × (c (suc j) ≤ c j)) → (j : ℕ) × (j ≤ m) × (c (suc j) ≤ c j)
        at (yes q) rec = (i, omega arith, q)
        at (no n) rec = rec (omega arith)

-- the registers used within i steps from k, and not given up before
unfoldable pub soon : Flow → ℕ → ℕ → ℕ
soon f zero k = 0
soon f (suc i) k = cond (ltb k f.size) (row_at f (soon f i) k) 0

module _ (f : Flow) where
  soon_in : (i k : ℕ) → k < f.size → soon f (suc i) k ≡ row_at f (soon f i) k
  unfolding soon
  soon_in i k l = ap (λ (t : Bool). cond t (row_at f (soon f i) k) 0) (lt-ltb k f.size l)

  soon_past : (i k : ℕ) → f.size ≤ k → soon f i k ≡ 0
  unfolding soon
  soon_past zero k l = refl
  soon_past (suc i) k l = ap (λ (t : Bool). cond t (row_at f (soon f i) k) 0) (le-ltb k f.size l)

  module _ (r : ℕ) where
    -- at register r, what is soon in i steps is soon in j
    abbrev Fewer : ℕ → ℕ → Type 0
    Fewer i j = (k : ℕ) → bit (soon f i k) r ≤ bit (soon f j k) r

    fewer_next : (i j : ℕ) → Fewer i j → Fewer (suc i) (suc j)
    fewer_next i j h k = go (dec_lt k f.size)
      where
        at : {x y : ℕ} → x ≡ y → bit x r ≡ bit y r
        at e = ap (λ (x : ℕ). bit x r) e

        go : Dec (k < f.size) → bit (soon f (suc i) k) r ≤ bit (soon f (suc j) k) r
        go (yes l) = omega (arith, at (soon_in i k l), at (soon_in j k l), row_at_mono f (soon f i) (soon f j) k r (λ s m. h s))
        go (no n) = omega (arith, at (soon_past (suc i) k (omega arith)), at (soon_past (suc j) k (omega arith)))

    grows : (i : ℕ) → Fewer i (suc i)
    unfolding soon
    grows zero k = omega (arith, bit_zero r)
    grows (suc i) k = fewer_next i (suc i) (grows i) k

    grows_by : (d i : ℕ) → Fewer i (d + i)
    grows_by zero i k = rw zero_plus (omega arith)
      where
        zero_plus : 0 + i ≡ i
        zero_plus = omega arith
    grows_by (suc d) i k = rw suc_plus (omega (arith, grows_by d i k, grows (d + i) k))
      where
        suc_plus : suc d + i ≡ suc (d + i)
        suc_plus = omega arith

    has : ℕ → ℕ → Bool
    has i k = ltb 0 (bit (soon f i k) r)

    -- the layers rest once, at most n up
    rest : (j : ℕ) × (j ≤ f.size) × (tally (has (suc j)) 0 f.size ≤ tally (has j) 0 f.size)
    rest = rests (λ i. tally (has i) 0 f.size) f.size (λ i. tally_le (has i) 0 f.size)

    resting : Fewer (suc rest.0) rest.0
    unfolding has
    resting k = go (dec_le (bit (soon f (suc j) k) r) (bit (soon f j k) r)) (dec_lt k f.size)
      where
        j : ℕ
        j = rest.0

        go : Dec (bit (soon f (suc j) k) r ≤ bit (soon f j k) r) → Dec (k < f.size) → bit (soon f (suc j) k) r ≤ bit (soon f j k) r
        go (yes l) d = l
        go (no n) (no d) = omega (arith, ap (λ (x : ℕ). bit x r) (soon_past (suc j) k (omega arith)), bit_zero r)
        go (no n) (yes d) = absurd (omega (
          arith,
          rest.2,
          tally_more (has j) (has (suc j)) 0 (λ p e. lt-ltb 0 (bit (soon f (suc j) p) r) (omega (arith, grows j p, ltb-true 0 (bit (soon f j p) r) e)))
              f.size k zero-le (omega arith) (le-ltb 0 (bit (soon f j k) r) (omega (arith, bit_lt (soon f (suc j) k) r)))
              (lt-ltb 0 (bit (soon f (suc j) k) r) (omega arith)),
        ))

    -- so layer n holds all layers
    all : (i : ℕ) → Fewer i rest.0
    unfolding soon
    all zero k = omega (arith, bit_zero r)
    all (suc i) k = omega (arith, fewer_next i rest.0 (all i) k, resting k)

    top : (i : ℕ) → Fewer i f.size
    top i k = omega (arith, all i k, subst (λ (n : ℕ). Fewer rest.0 n) sum (grows_by (f.size - rest.0) rest.0) k)
      where
        sum : f.size - rest.0 + rest.0 ≡ f.size
        sum = omega (arith, rest.1)

  pub soon_solves : (start : ℕ) → Solution f start (soon f f.size)
  soon_solves start = record {
    last = λ k l. soon_past f.size k l;
    each = λ k lo hi. bit_ext (soon f f.size k) (soon f (suc f.size) k) (λ r. le_antisymm (grows r f.size k) (top r (suc f.size) k))
        ∙ soon_in f.size k hi;
  }

  -- ---- a register that is soon read is told by some choices

  module _ (r : ℕ) (lr : r < f.regs) where
    tells_here : (k : ℕ) → k < f.size → 0 < bit (f.used k) r → TellsApart f r k (0 ∷ [])
    tells_here k l u news a b ne e =
        ne (values_tell f (f.used k) a b (head-eq_of_cons-eq (sym (reads_step f 0 [] news k a l) ∙ e ∙ reads_step f 0 [] news k b l)) r
        (listed_in f.regs (f.used k) r lr u))

    tells_on : (k s choice : ℕ) (choices : List ℕ) → k < f.size → ((new file : List ℕ) → get_or (file_after f k choice new file) r 0 ≡ get_or file r 0)
        → chosen f k choice ≡ s → TellsApart f r s choices
        → TellsApart f r k (choice ∷ choices)
    tells_on k s choice choices l g q tells news a b ne e =
        tells (drop 1 news) (next a) (next b) (λ h. ne (sym (same a) ∙ h ∙ same b))
        (rw (← q) (tail-eq_of_cons-eq (sym (reads_step f choice choices news k a l) ∙ e ∙ reads_step f choice choices news k b l)))
      where
        next : List ℕ → List ℕ
        next file = file_after f k choice (get_or news 0 []) file

        same : (file : List ℕ) → get_or (next file) r 0 ≡ get_or file r 0
        same file = g (get_or news 0 []) file

    path : (i k : ℕ) → 0 < bit (soon f i k) r → (choices : List ℕ) × (length choices ≤ i) × TellsApart f r k choices
    unfolding soon
    path zero k h = absurd (omega (arith, bit_zero r))
    path (suc i) k h = go (dec_lt k f.size) (λ s h'. path i s h')
      where
        go : Dec (k < f.size) → ((s : ℕ) → 0 < bit (soon f i s) r → (choices : List ℕ) × (length choices ≤ i) × TellsApart f r s choices) → (choices : List ℕ)
            × (length choices ≤ suc i) × TellsApart f r k choices
        go (no n) rec = absurd (omega (arith, h, ap (λ (x : ℕ). bit x r) (soon_past (suc i) k (omega arith)), bit_zero r))
        go (yes l) rec = at (dec_lt 0 (bit (f.used k) r))
          where
            now' : bit (soon f (suc i) k) r ≡ bit (row_at f (soon f i) k) r
            now' = ap (λ (x : ℕ). bit x r) (soon_in i k l)

            at : Dec (0 < bit (f.used k) r) → (choices : List ℕ) × (length choices ≤ suc i) × TellsApart f r k choices
            at (yes u) = (0 ∷ [], omega arith, tells_here k l u)
            at (no u) =
                let (s, b, v) = row_at_from f (soon f i) k r (omega arith) (omega (arith, h, now')) in
                let (choices, len, tells) = rec s b in
                let (choice, q, same) = way s v in
                (choice ∷ choices, omega arith, tells_on k s choice choices l same q tells)
              where
                way : (s : ℕ) → (In s (f.raises k) ⊎ (In s (f.after k) × (bit (f.given_up k) r ≡ 0)))
                    → (choice : ℕ) × (chosen f k choice ≡ s) × ((new file : List ℕ) → get_or (file_after f k choice new file) r 0 ≡ get_or file r 0)
                way s v = ⊎_elim
                    (λ m. let (c, q, e) = leave_for f k s m in (c, q, λ new file. ap (λ (x : List ℕ). get_or x r 0) (e new file)))
                    (λ m. let (c, q, e) = go_to f k s m.0 in (
                      c,
                      q,
                      λ new file. ap (λ (x : List ℕ). get_or x r 0) (e new file) ∙ wrote_kept (f.given_up k) new
                          file f.regs r lr m.1,
                    )) v

    -- every register of a least row is read, within as many steps as there are positions
    pub needed : (start : ℕ) (R : ℕ → ℕ) → Least f start R → (k : ℕ) → start ≤ k → 0 < bit (R k) r → (choices : List ℕ) × (length choices ≤ f.size)
        × TellsApart f r k choices
    needed start R l k lo b = path f.size k (omega (arith, l.least (soon f f.size) (soon_solves start) k lo r))
