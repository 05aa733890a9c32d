-- The sweeps find the least solution of the row equations. Assumes nothing.
use mathlib.Core.Path.{◌≡◌, refl, sym, ap, ap₂, ◌∙◌, subst}
use mathlib.Core.Logic.{⊎_elim, ◌⊎◌, inl, inr}
use mathlib.Core.List.Memᴰ
use mathlib.Core.List.{List, [], ◌∷◌, Memᴰ}
use mathlib.Core.List.{List-discrete}
use Prim.Native.Nat.{ℕ, zero, suc, ◌+◌, ◌-◌, ◌^◌, ◌≤◌, ◌<◌, max}
use native.Mathlib.Nat.{le_refl, le_antisymm}
use native.Mathlib.Decide.{ℕ_discrete, dec_le, dec_lt}
use native.Mathlib.Omega.{arith}
use lib.Bits.{bit_or, or_lt}
use lib.ListN.{length, set, length-set, length-replicate}
use lib.Pow.{pow_pos}
use lib.Seq.{get_or-set_same, get_or-set_other}
use Rattle.flow.specs.Set.{bit, minus, ◌⊑◌}
use Rattle.flow.specs.Flow.{Flow, joined, onto, row_at, reach, Solution, Least, Closed}
use Rattle.flow.specs.Sweep.{row, empty, sweep, swept, below, backs, Again, Sweeps, done, more}
use Rattle.flow.proofs.Bits.{bit_lt, bit_zero, bit_ext, or_bit, minus_bit, minus_lt}
use Rattle.flow.proofs.Tally.{below_none, tally_none}
pub use Rattle.laws.proofs.Counting.{zeros_at}

abbrev pub In : ℕ → List ℕ → Type 0
In s ss = Memᴰ s ss

-- ---- empty rows

pub empty_long : (f : Flow) → length (empty f) ≡ suc f.size
empty_long f = length-replicate {A = ℕ} (suc f.size) 0

pub empty_row : (f : Flow) (k : ℕ) → row (empty f) k ≡ 0
empty_row f k = zeros_at (suc f.size) k

-- ---- joins: the same at equal rows, no less at larger ones, and a bit of one is a bit of a member

pub joined_cong : (R S : ℕ → ℕ) (ss : List ℕ) → ((s : ℕ) → In s ss → R s ≡ S s) → joined R ss ≡ joined S ss
unfolding joined
joined_cong R S [] h = refl
joined_cong R S (s ∷ ss) h = ap₂ bit_or (h s (Memᴰ.head refl)) (joined_cong R S ss (λ t m. h t (Memᴰ.tail m)))

pub joined_mono : (R S : ℕ → ℕ) (r : ℕ) (ss : List ℕ) → ((s : ℕ) → In s ss → bit (R s) r ≤ bit (S s) r) → bit (joined R ss) r ≤ bit (joined S ss) r
unfolding joined
joined_mono R S r [] h = le_refl _
joined_mono R S r (s ∷ ss) h =
    omega (arith, or_bit (R s) (joined R ss) r, or_bit (S s) (joined S ss) r, h s (Memᴰ.head refl), joined_mono R S r ss (λ t m. h t (Memᴰ.tail m)))

pub joined_has : (R : ℕ → ℕ) (r : ℕ) (ss : List ℕ) → 0 < bit (joined R ss) r → (s : ℕ) × In s ss × (0 < bit (R s) r)
unfolding joined
joined_has R r [] h = absurd (omega (arith, bit_zero r))
joined_has R r (s ∷ ss) h = go (dec_lt 0 (bit (R s) r)) (λ h'. joined_has R r ss h')
  where
    go : Dec (0 < bit (R s) r) → (0 < bit (joined R ss) r → (t : ℕ) × In t ss × (0 < bit (R t) r)) → (t : ℕ) × In t (s ∷ ss) × (0 < bit (R t) r)
    go (yes l) up = (s, Memᴰ.head refl, l)
    go (no n) up = let w = up (omega (arith, or_bit (R s) (joined R ss) r)) in (w.0, Memᴰ.tail w.1, w.2)

pub joined_in : (R : ℕ → ℕ) (r : ℕ) (ss : List ℕ) (s : ℕ) → In s ss → bit (R s) r ≤ bit (joined R ss) r
unfolding joined
joined_in R r [] s m = absurd (Memᴰ.not-nil m)
joined_in R r (t ∷ ss) s m = ⊎_elim
    (λ e. omega (arith, or_bit (R t) (joined R ss) r, ap (λ (x : ℕ). bit (R x) r) e))
    (λ m'. omega (arith, or_bit (R t) (joined R ss) r, joined_in R r ss s m')) (Memᴰ.cases_cons m)

-- rows of registers below w join to such rows
pub joined_lt : (w : ℕ) (R : ℕ → ℕ) (ss : List ℕ) → ((s : ℕ) → R s < 2 ^ w) → joined R ss < 2 ^ w
unfolding joined
joined_lt w R [] h = pow_pos w
joined_lt w R (s ∷ ss) h = or_lt w (R s) (joined R ss) (h s) (joined_lt w R ss h)

-- ---- a row with the rows of handlers

pub onto_bit : (R : ℕ → ℕ) (r : ℕ) (hs : List ℕ) (x : ℕ) → bit (onto R x hs) r ≡ max (bit x r) (bit (joined R hs) r)
unfolding joined
onto_bit R r [] x = omega (arith, bit_zero r)
onto_bit R r (h ∷ hs) x = omega (arith, onto_bit R r hs (bit_or x (R h)), or_bit x (R h) r, or_bit (R h) (joined R hs) r)

onto_cong : (R S : ℕ → ℕ) (hs : List ℕ) (x : ℕ) → ((s : ℕ) → In s hs → R s ≡ S s) → onto R x hs ≡ onto S x hs
onto_cong R S [] x e = refl
onto_cong R S (h ∷ hs) x e = ap (λ (y : ℕ). onto R (bit_or x y) hs) (e h (Memᴰ.head refl)) ∙ onto_cong R S hs (bit_or x (S h))
    (λ t m. e t (Memᴰ.tail m))

onto_lt : (w : ℕ) (R : ℕ → ℕ) (hs : List ℕ) (x : ℕ) → x < 2 ^ w → ((s : ℕ) → R s < 2 ^ w) → onto R x hs < 2 ^ w
onto_lt w R [] x l h = l
onto_lt w R (g ∷ hs) x l h = onto_lt w R hs (bit_or x (R g)) (or_lt w x (R g) l (h g)) h

module _ (f : Flow) where
  -- what comes next is a handler, or after
  pub by_raise : (k : ℕ) {s : ℕ} → In s (f.raises k) → In s (reach f k)
  by_raise k m = Memᴰ.append_left (f.after k) m

  pub by_step : (k : ℕ) {s : ℕ} → In s (f.after k) → In s (reach f k)
  by_step k m = Memᴰ.append_right (f.raises k) m

  -- a row's bit: used, or after and not given up, or a handler's
  pub row_at_bit : (R : ℕ → ℕ) (k r : ℕ) → bit (row_at f R k) r ≡ max (max (bit (f.used k) r) (bit (joined R (f.after k)) r - bit (f.given_up k) r))
      (bit (joined R (f.raises k)) r)
  unfolding row_at
  row_at_bit R k r = onto_bit R r (f.raises k) (bit_or (f.used k) (minus (joined R (f.after k)) (f.given_up k)))
      ∙ ap (λ (x : ℕ). max x (bit (joined R (f.raises k)) r)) (or_bit (f.used k) (minus (joined R (f.after k)) (f.given_up k)) r
      ∙ ap (λ (x : ℕ). max (bit (f.used k) r) x) (minus_bit (joined R (f.after k)) (f.given_up k) r))

  pub row_at_cong : (R S : ℕ → ℕ) (k : ℕ) → ((s : ℕ) → In s (reach f k) → R s ≡ S s) → row_at f R k ≡ row_at f S k
  unfolding row_at
  row_at_cong R S k h = ap (λ (x : ℕ). onto R (bit_or (f.used k) (minus x (f.given_up k))) (f.raises k))
      (joined_cong R S (f.after k) (λ s m. h s (by_step k m)))
      ∙ onto_cong R S (f.raises k) (bit_or (f.used k) (minus (joined S (f.after k)) (f.given_up k))) (λ s m. h s (by_raise k m))

  pub row_at_mono : (R S : ℕ → ℕ) (k r : ℕ) → ((s : ℕ) → In s (reach f k) → bit (R s) r ≤ bit (S s) r) → bit (row_at f R k) r ≤ bit (row_at f S k) r
  row_at_mono R S k r h =
      omega (
        arith,
        row_at_bit R k r,
        row_at_bit S k r,
        joined_mono R S r (f.after k) (λ s m. h s (by_step k m)),
        joined_mono R S r (f.raises k)
            (λ s m. h s (by_raise k m)),
      )

  pub row_at_lt : (w : ℕ) (R : ℕ → ℕ) (k : ℕ) → f.used k < 2 ^ w → ((s : ℕ) → R s < 2 ^ w) → row_at f R k < 2 ^ w
  unfolding row_at
  row_at_lt w R k u h = onto_lt w R (f.raises k) (bit_or (f.used k) (minus (joined R (f.after k)) (f.given_up k)))
      (or_lt w (f.used k) (minus (joined R (f.after k)) (f.given_up k)) u (minus_lt w (joined R (f.after k)) (f.given_up k) (joined_lt w R (f.after k) h)))
      h

  -- a register of a row that is not used there comes from one next row, by a step that does not give it up, or by a raise
  pub row_at_from : (R : ℕ → ℕ) (k r : ℕ) → bit (f.used k) r ≡ 0 → 0 < bit (row_at f R k) r
      → (s : ℕ) × (0 < bit (R s) r) × (In s (f.raises k) ⊎ (In s (f.after k) × (bit (f.given_up k) r ≡ 0)))
  row_at_from R k r z h = go (dec_lt 0 (bit (joined R (f.raises k)) r))
    where
      go : Dec (0 < bit (joined R (f.raises k)) r) → (s : ℕ) × (0 < bit (R s) r) × (In s (f.raises k) ⊎ (In s (f.after k) × (bit (f.given_up k) r ≡ 0)))
      go (yes l) = let (s, m, b) = joined_has R r (f.raises k) l in (s, b, inl m)
      go (no n) =
          let (s, m, b) = joined_has R r (f.after k) (omega (arith, h, row_at_bit R k r)) in
          (s, b, inr (m, omega (arith, h, row_at_bit R k r, bit_lt (joined R (f.after k)) r)))

  -- and whatever rows have it there, the row found from them has it
  pub row_at_to : (S : ℕ → ℕ) (k r s : ℕ) → (In s (f.raises k) ⊎ (In s (f.after k) × (bit (f.given_up k) r ≡ 0))) → bit (S s) r ≤ bit (row_at f S k) r
  row_at_to S k r s w = ⊎_elim
      (λ m. omega (arith, row_at_bit S k r, joined_in S r (f.raises k) s m))
      (λ m. omega (arith, row_at_bit S k r, m.1, joined_in S r (f.after k) s m.0)) w

  pub next_in : (k r s : ℕ) → (In s (f.raises k) ⊎ (In s (f.after k) × (bit (f.given_up k) r ≡ 0))) → In s (reach f k)
  next_in k r s w = ⊎_elim (λ m. by_raise k m) (λ m. by_step k m.0) w

  -- ---- one sweep

  module _ (start : ℕ) where
    pub length_sweep : (d : ℕ) (rows : List ℕ) → length (sweep f start d rows) ≡ length rows
    unfolding sweep
    length_sweep zero rows = refl
    length_sweep (suc d) rows = length_sweep d (set rows (start + d) (row_at f (row rows) (start + d))) ∙ length-set rows (start + d) _

    -- rows that are not swept stay
    pub sweep_out : (d : ℕ) (rows : List ℕ) (k : ℕ) → (k < start) ⊎ (start + d ≤ k) → row (sweep f start d rows) k ≡ row rows k
    unfolding sweep
    sweep_out zero rows k h = refl
    sweep_out (suc d) rows k h =
        sweep_out d (set rows (start + d) _) k (⊎_elim (λ l. inl l) (λ l. inr (omega arith)) h)
        ∙ get_or-set_other rows (start + d) k _ 0 (⊎_elim (λ l e. omega arith) (λ l e. omega arith) h)

    -- a swept row solves its equation, with the rows above it as they came out and those at and below it as they were
    pub sweep_at : (d : ℕ) (rows : List ℕ) (k : ℕ) (X : ℕ → ℕ) → start + d ≤ length rows → start ≤ k → k < start + d
        → ((s : ℕ) → In s (reach f k) → k < s → X s ≡ row (sweep f start d rows) s)
        → ((s : ℕ) → In s (reach f k) → s ≤ k → X s ≡ row rows s)
        → row (sweep f start d rows) k ≡ row_at f X k
    unfolding sweep
    sweep_at zero rows k X fits lo hi up dn = absurd (omega arith)
    sweep_at (suc d) rows k X fits lo hi up dn = go (ℕ_discrete k (start + d))
        (λ ne. sweep_at d (set rows (start + d) v) k X (omega (arith, length-set rows (start + d) v)) lo (omega arith)
        up (λ s m l. dn s m l ∙ sym (get_or-set_other rows (start + d) s v 0 (λ e. ne (omega arith)))))
      where
        v : ℕ
        v = row_at f (row rows) (start + d)

        out : List ℕ
        out = sweep f start d (set rows (start + d) v)

        go : Dec (k ≡ start + d) → ((k ≡ start + d → ⊥) → row out k ≡ row_at f X k) → row out k ≡ row_at f X k
        go (yes e) rec =
            sweep_out d (set rows (start + d) v) k (inr (omega arith))
            ∙ ap (λ (x : ℕ). row (set rows (start + d) v) x) e
            ∙ get_or-set_same rows (start + d) v 0 (omega arith)
            ∙ ap (λ (x : ℕ). row_at f (row rows) x) (sym e)
            ∙ row_at_cong (row rows) X k (λ s m. sym (side s m (dec_le s k)))
          where
            side : (s : ℕ) → In s (reach f k) → Dec (s ≤ k) → X s ≡ row rows s
            side s m (yes l) = dn s m l
            side s m (no n) = up s m (omega arith)
                ∙ sweep_out d (set rows (start + d) v) s (inr (omega arith))
                ∙ get_or-set_other rows (start + d) s v 0 (λ e'. n (omega arith))
        go (no ne) rec = rec ne

    -- the last sweep leaves a solution
    last_solves : (rows : List ℕ) → start ≤ f.size → f.size ≤ length rows → ((k : ℕ) → f.size ≤ k → row rows k ≡ 0) → ¬ Again f start rows
        → Solution f start (row (swept f start rows))
    last_solves rows le fits z stop = record {
      last = λ k l. sweep_out d rows k (inr (omega arith)) ∙ z k l;
      each = λ k lo hi. sweep_at d rows k (row out) (omega arith) lo (omega arith) (λ s m l. refl) (λ s m l. ap (λ (x : List ℕ). row x s)
          (still k lo hi s m l (List-discrete ℕ_discrete out rows)));
    }
      where
        d : ℕ
        d = f.size - start

        out : List ℕ
        out = swept f start rows

        still : (k : ℕ) → start ≤ k → k < f.size → (s : ℕ) → In s (reach f k) → s ≤ k → Dec (out ≡ rows) → out ≡ rows
        still k lo hi s m l (yes e) = e
        still k lo hi s m l (no n) = go (dec_lt 0 (backs f start))
          where
            go : Dec (0 < backs f start) → out ≡ rows
            go (yes b) = absurd (stop (n, b))
            go (no b) = absurd (omega (
              arith,
              below_none (suc k) (reach f k) (tally_none (λ j. below (suc j) (reach f j)) start d (omega arith) k lo
                  (omega arith)) s m,
            ))

    -- a sweep stays in every solution S from `lo` on, also where S solves only the equations from there on
    module _ (lo : ℕ) (closed : Closed f lo) (S : ℕ → ℕ) (sol : Solution f lo S) where
      abbrev pub Within : List ℕ → Type 0
      Within rows = (k : ℕ) → lo ≤ k → row rows k ⊑ S k

      sweep_within : (d : ℕ) (rows : List ℕ) → start + d ≤ f.size → f.size ≤ length rows → Within rows → Within (sweep f start d rows)
      unfolding sweep
      sweep_within zero rows le fits h = h
      sweep_within (suc d) rows le fits h = sweep_within d (set rows p v) (omega arith) (omega (arith, length-set rows p v)) step
        where
          p : ℕ
          p = start + d

          v : ℕ
          v = row_at f (row rows) p

          step : Within (set rows p v)
          step k l r = go (ℕ_discrete k p)
            where
              go : Dec (k ≡ p) → bit (row (set rows p v) k) r ≤ bit (S k) r
              go (yes e) = subst (λ (x : ℕ). bit (row (set rows p v) x) r ≤ bit (S x) r) (sym e)
                  (omega (
                    arith,
                    row_at_mono (row rows) S p r (λ s m. h s (closed p (omega arith) (omega arith) s m) r),
                    ap (λ (x : ℕ). bit x r) (sol.each p (omega arith) (omega arith)),
                    ap (λ (x : ℕ). bit x r) (get_or-set_same rows p v 0 (omega arith)),
                  ))
              go (no n) = omega (arith, h k l r, ap (λ (x : ℕ). bit x r) (get_or-set_other rows p k v 0 n))

      pub sweeps_within : start ≤ f.size → {rows out : List ℕ} {c : ℕ} → Sweeps f start rows c out → f.size ≤ length rows → Within rows → Within out
      sweeps_within le {rows} (done e) fits h = sweep_within (f.size - start) rows (omega arith) fits h
      sweeps_within le {rows} (more e s) fits h =
          sweeps_within le s (omega (arith, length_sweep (f.size - start) rows)) (sweep_within (f.size - start) rows (omega arith) fits h)

    -- ---- all sweeps

    module _ (le : start ≤ f.size) where
      -- rows that are not swept stay
      pub sweeps_out : {rows out : List ℕ} {c : ℕ} → Sweeps f start rows c out → (k : ℕ) → (k < start) ⊎ (f.size ≤ k) → row out k ≡ row rows k
      sweeps_out {rows} (done e) k h = sweep_out (f.size - start) rows k (⊎_elim (λ l. inl l) (λ l. inr (omega arith)) h)
      sweeps_out {rows} (more e s) k h = sweeps_out s k h ∙ sweep_out (f.size - start) rows k (⊎_elim (λ l. inl l) (λ l. inr (omega arith)) h)

      pub sweeps_solve : {rows out : List ℕ} {c : ℕ} → Sweeps f start rows c out → f.size ≤ length rows → ((k : ℕ) → f.size ≤ k → row rows k ≡ 0)
          → Solution f start (row out)
      sweeps_solve {rows} (done e) fits z = last_solves rows le fits z e
      sweeps_solve {rows} (more e s) fits z = sweeps_solve s
          (omega (arith, length_sweep (f.size - start) rows))
          (λ k l. sweep_out (f.size - start) rows k (inr (omega arith)) ∙ z k l)

      -- from empty rows the sweeps end in the least solution
      pub sweeps_least : Closed f start → {rows out : List ℕ} {c : ℕ} → Sweeps f start rows c out → f.size ≤ length rows → ((k : ℕ) → row rows k ≡ 0)
          → Least f start (row out)
      sweeps_least closed s fits z = record {
        solves = sweeps_solve s fits (λ k l. z k);
        least = λ S sol. sweeps_within start closed S sol le s fits (λ k lo r. omega (arith, ap (λ (x : ℕ). bit x r) (z k), bit_zero r));
      }

  -- ---- registers not below the register count never appear

  module _ (w : ℕ) (small : (k : ℕ) → f.used k < 2 ^ w) (start : ℕ) (le : start ≤ f.size) where
    sweep_lt : (d : ℕ) (rows : List ℕ) → start + d ≤ f.size → f.size ≤ length rows → ((k : ℕ) → row rows k < 2 ^ w) → (k : ℕ) → row (sweep f start d rows) k <
        2 ^ w
    unfolding sweep
    sweep_lt zero rows l fits h = h
    sweep_lt (suc d) rows l fits h = sweep_lt d (set rows p v) (omega arith) (omega (arith, length-set rows p v)) (λ k. go k (ℕ_discrete k p))
      where
        p : ℕ
        p = start + d

        v : ℕ
        v = row_at f (row rows) p

        go : (k : ℕ) → Dec (k ≡ p) → row (set rows p v) k < 2 ^ w
        go k (yes e) = rw e (subst (λ (x : ℕ). x < 2 ^ w) (sym (get_or-set_same rows p v 0 (omega arith))) (row_at_lt w (row rows) p (small p) h))
        go k (no n) = subst (λ (x : ℕ). x < 2 ^ w) (sym (get_or-set_other rows p k v 0 n)) (h k)

    pub sweeps_lt : {rows out : List ℕ} {c : ℕ} → Sweeps f start rows c out → f.size ≤ length rows → ((k : ℕ) → row rows k < 2 ^ w) → (k : ℕ)
        → row out k < 2 ^ w
    sweeps_lt {rows} (done e) fits h = sweep_lt (f.size - start) rows (omega arith) fits h
    sweeps_lt {rows} (more e s) fits h = sweeps_lt s (omega (arith, length_sweep start (f.size - start) rows))
        (sweep_lt (f.size - start) rows (omega arith) fits h)

  -- two least solutions are the same, from the start on
  pub least_one : (start : ℕ) (R S : ℕ → ℕ) → Least f start R → Least f start S → (k : ℕ) → start ≤ k → R k ≡ S k
  least_one start R S a b k l = bit_ext (R k) (S k) (λ r. le_antisymm (a.least S b.solves k l r) (b.least R a.solves k l r))
