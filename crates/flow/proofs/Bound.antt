-- How many sweeps there are: they end, after at most one for each jump to its own position or back and two more. Assumes nothing.
-- A bit that sweep i + 1 adds is traced forward to a jump back whose own row it adds there, from a bit that sweep i added; so a bit of
-- sweep i + 1 has i jumps back behind it, each in a row of its own.
use mathlib.Core.Path.{◌≡◌, refl, ap, ap₂}
use mathlib.Core.Logic.{◌⊎◌, inl, inr, ◌≢◌}
use mathlib.Core.List.{List, [], ◌∷◌, List-discrete}
use mathlib.Core.Bool.{Bool, true, false, cond, ◌&&◌}
use Prim.Native.Nat.{ℕ, zero, suc, ◌+◌, ◌-◌, ◌≤◌, ◌<◌}
use native.Mathlib.Nat.{le_refl, le-add_left, le-add_right}
use native.Mathlib.Decide.{ℕ_discrete, dec_le, dec_lt}
use native.Mathlib.Omega.{arith}
use borrow.Author.Tests.{ltb-true, lt-ltb, le-ltb}
use lib.Dec.{ltb}
use lib.ListN.{length, set, length-set}
use lib.Seq.{get_or-set_same, get_or-set_other}
use Rattle.flow.specs.Set.{bit, ◌⊑◌}
use Rattle.flow.specs.Flow.{Flow, reach, row_at}
use Rattle.flow.specs.Sweep.{row, sweep, swept, below, tally, backs, Again, Sweeps, done, more}
use Rattle.flow.proofs.Bits.{bit_lt, bit_zero, bit_apart}
use Rattle.flow.proofs.Tally.{below_some, tally_mono, tally_more}
use Rattle.flow.proofs.Rows.{In, row_at_bit, row_at_mono, row_at_from, row_at_to, next_in, length_sweep, sweep_out, sweep_at}

-- two lists of one length that differ do so at some row
differ_at : (a b : List ℕ) → length a ≡ length b → a ≢ b → (k : ℕ) × (row a k ≢ row b k)
differ_at [] [] l n = absurd (n refl)
differ_at [] (y ∷ b) l n = absurd (omega arith)
differ_at (x ∷ a) [] l n = absurd (omega arith)
differ_at (x ∷ a) (y ∷ b) l n = go (ℕ_discrete x y) (λ h. differ_at a b (omega arith) h)
  where
    go : Dec (x ≡ y) → (a ≢ b → (k : ℕ) × (row a k ≢ row b k)) → (k : ℕ) × (row (x ∷ a) k ≢ row (y ∷ b) k)
    go (yes e) rec = let w = rec (λ h. n (ap₂ (λ (z : ℕ) (t : List ℕ). z ∷ t) e h)) in (suc w.0, w.1)
    go (no ne) rec = (0, ne)

-- A above k, B at k and below
mix : ℕ → (ℕ → ℕ) → (ℕ → ℕ) → ℕ → ℕ
mix k A B s = cond (ltb k s) (A s) (B s)

mix_up : (k : ℕ) (A B : ℕ → ℕ) (s : ℕ) → k < s → mix k A B s ≡ A s
unfolding mix
mix_up k A B s l = ap (λ (t : Bool). cond t (A s) (B s)) (lt-ltb k s l)

mix_dn : (k : ℕ) (A B : ℕ → ℕ) (s : ℕ) → s ≤ k → mix k A B s ≡ B s
unfolding mix
mix_dn k A B s l = ap (λ (t : Bool). cond t (A s) (B s)) (le-ltb k s l)

at : {x y : ℕ} (r : ℕ) → x ≡ y → bit x r ≡ bit y r
at r e = ap (λ (x : ℕ). bit x r) e

module _ (f : Flow) (start : ℕ) (le : start ≤ f.size) where
  -- each row is in what it would be found to be
  abbrev Grows : List ℕ → Type 0
  Grows rows = (k : ℕ) → start ≤ k → k < f.size → row rows k ⊑ row_at f (row rows) k

  -- a row that is found adds and never takes away
  step_grows : (p : ℕ) (rows : List ℕ) → start ≤ p → p < f.size → f.size ≤ length rows → Grows rows
      → ((k : ℕ) → row rows k ⊑ row (set rows p (row_at f (row rows) p)) k) × Grows (set rows p (row_at f (row rows) p))
  step_grows p rows lo' hi' fits g = (up, grows)
    where
      v : ℕ
      v = row_at f (row rows) p

      there : row (set rows p v) p ≡ v
      there = get_or-set_same rows p v 0 (omega arith)

      up : (k : ℕ) → row rows k ⊑ row (set rows p v) k
      up k r = go (ℕ_discrete k p)
        where
          go : Dec (k ≡ p) → bit (row rows k) r ≤ bit (row (set rows p v) k) r
          go (yes e) = rw e (omega (arith, g p lo' hi' r, at r there))
          go (no n) = omega (arith, at r (get_or-set_other rows p k v 0 n))

      grows : Grows (set rows p v)
      grows k lo hi r = go (ℕ_discrete k p)
        where
          wider : bit (row_at f (row rows) k) r ≤ bit (row_at f (row (set rows p v)) k) r
          wider = row_at_mono f (row rows) (row (set rows p v)) k r (λ s m. up s r)

          go : Dec (k ≡ p) → bit (row (set rows p v) k) r ≤ bit (row_at f (row (set rows p v)) k) r
          go (yes e) = omega (arith, wider, ap (λ (x : ℕ). bit (row (set rows p v) x) r) e, at r there, ap (λ (x : ℕ). bit (row_at f (row rows) x) r) e)
          go (no n) = omega (arith, wider, g k lo hi r, at r (get_or-set_other rows p k v 0 n))

  sweep_grows : (d : ℕ) (rows : List ℕ) → start + d ≤ f.size → f.size ≤ length rows → Grows rows
      → ((k : ℕ) → row rows k ⊑ row (sweep f start d rows) k) × Grows (sweep f start d rows)
  unfolding sweep
  sweep_grows zero rows l fits g = (λ k r. le_refl _, g)
  sweep_grows (suc d) rows l fits g =
      let s = step_grows (start + d) rows (omega arith) (omega arith) fits g in
      let w = sweep_grows d (set rows (start + d) (row_at f (row rows) (start + d))) (omega arith)
      (omega (arith, length-set rows (start + d) (row_at f (row rows) (start + d)))) s.1 in
      (λ k r. omega (arith, s.0 k r, w.0 k r), w.1)

  next : List ℕ → List ℕ
  next rows = swept f start rows

  next_long : (rows : List ℕ) → length (next rows) ≡ length rows
  unfolding next
  next_long rows = length_sweep f start (f.size - start) rows

  next_grows : (rows : List ℕ) → f.size ≤ length rows → Grows rows → ((k : ℕ) → row rows k ⊑ row (next rows) k) × Grows (next rows)
  unfolding next
  next_grows rows fits g = sweep_grows (f.size - start) rows (omega arith) fits g

  -- register r comes into row k
  abbrev New : List ℕ → List ℕ → ℕ → ℕ → Type 0
  New rows rows' k r = bit (row rows k) r < bit (row rows' k) r

  abbrev is_back : ℕ → Bool
  is_back k = below (suc k) (reach f k)

  new_inside : (rows : List ℕ) (k r : ℕ) → New rows (next rows) k r → (start ≤ k) × (k < f.size)
  unfolding next
  new_inside rows k r n = go (dec_le start k) (dec_lt k f.size)
    where
      stays : (k < start) ⊎ (start + (f.size - start) ≤ k) → ⊥
      stays h = omega (arith, n, at r (sweep_out f start (f.size - start) rows k h))

      go : Dec (start ≤ k) → Dec (k < f.size) → (start ≤ k) × (k < f.size)
      go (yes a) (yes b) = (a, b)
      go (no a) q = absurd (stays (inl (omega arith)))
      go (yes a) (no b) = absurd (stays (inr (omega arith)))

  -- a bit that the second of two sweeps adds comes over a jump back from one that the first added
  abbrev Traced : List ℕ → ℕ → Type 0
  Traced prev r = (p : ℕ) × (s : ℕ) × (is_back p ≡ true) × New (next prev) (next (next prev)) p r × New prev (next prev) s r

  trace : (prev : List ℕ) → f.size ≤ length prev → (r m k : ℕ) → f.size ≤ m + k → New (next prev) (next (next prev)) k r → Traced prev r
  unfolding next
  trace prev fits r zero k fuel new = absurd (omega (arith, (new_inside (next prev) k r new).1))
  trace prev fits r (suc m) k fuel new = go w (dec_le w.0 k) (λ s l n. trace prev fits r m s (omega arith) n)
    where
      rows : List ℕ
      rows = next prev

      rows' : List ℕ
      rows' = next rows

      lo : start ≤ k
      lo = (new_inside rows k r new).0

      hi : k < f.size
      hi = (new_inside rows k r new).1

      X : ℕ → ℕ
      X = mix k (row rows) (row prev)

      X' : ℕ → ℕ
      X' = mix k (row rows') (row rows)

      found : (old : List ℕ) → f.size ≤ length old → bit (row (next old) k) r ≡ bit (row_at f (mix k (row (next old)) (row old)) k) r
      found old l = at r (sweep_at f start (f.size - start) old k (mix k (row (next old)) (row old)) (omega arith) lo (omega (arith, hi))
          (λ s i h. mix_up k (row (next old)) (row old) s h) (λ s i h. mix_dn k (row (next old)) (row old) s h))

      was : bit (row rows k) r ≡ bit (row_at f X k) r
      was = found prev fits

      now' : bit (row rows' k) r ≡ bit (row_at f X' k) r
      now' = found rows (omega (arith, next_long prev))

      Via : Type 0
      Via = (s : ℕ) × (0 < bit (X' s) r) × (In s (f.raises k) ⊎ (In s (f.after k) × (bit (f.given_up k) r ≡ 0)))

      w : Via
      w = row_at_from f X' k r (omega (arith, new, was, now', row_at_bit f X k r, bit_lt (row_at f X' k) r)) (omega (arith, new, now'))

      go : (v : Via) → Dec (v.0 ≤ k) → ((s : ℕ) → k < s → New rows rows' s r → Traced prev r) → Traced prev r
      go (s, h, v) (yes l) rec = (
        k,
        s,
        below_some (suc k) (reach f k) s (next_in f k r s v) (omega arith),
        new,
        omega (
          arith,
          h,
          new,
          was,
          now',
          bit_lt (row_at f X' k) r,
          row_at_to f X k r s v,
          at r (mix_dn k (row rows) (row prev) s l),
          at r
              (mix_dn k (row rows') (row rows) s l),
        ),
      )
      go (s, h, v) (no n) rec =
          rec s (omega arith)
          (omega (
            arith,
            h,
            new,
            was,
            now',
            bit_lt (row_at f X' k) r,
            row_at_to f X k r s v,
            at r (mix_up k (row rows) (row prev) s (omega arith)),
            at r
                (mix_up k (row rows') (row rows) s (omega arith)),
          ))

  -- the jumps back whose row has register r
  holds : List ℕ → ℕ → ℕ → Bool
  holds rows r k = is_back k && ltb 0 (bit (row rows k) r)

  held : List ℕ → ℕ → ℕ
  held rows r = tally (holds rows r) start (f.size - start)

  and_left : (a b : Bool) → (a && b) ≡ true → a ≡ true
  and_left true b e = refl
  and_left false b e = e

  held_le : (rows : List ℕ) (r : ℕ) → held rows r ≤ backs f start
  unfolding held holds
  held_le rows r = tally_mono (holds rows r) is_back start (λ k e. and_left (is_back k) (ltb 0 (bit (row rows k) r)) e) (f.size - start)

  held_more : (rows : List ℕ) (r p : ℕ) → ((k : ℕ) → row rows k ⊑ row (next rows) k) → is_back p ≡ true → New rows (next rows) p r → held rows r < held
      (next rows) r
  unfolding held holds
  held_more rows r p up b new =
      let (lo, hi) = new_inside rows p r new in
      tally_more (holds rows r) (holds (next rows) r) start (λ k. wider (is_back k) (bit (row rows k) r) (bit (row (next rows) k) r) (up k r))
      (f.size - start) p lo (omega arith)
      (rw b (le-ltb 0 (bit (row rows p) r) (omega (arith, bit_lt (row (next rows) p) r))))
      (rw b (lt-ltb 0 (bit (row (next rows) p) r) (omega arith)))
    where
      wider : (a : Bool) (x y : ℕ) → x ≤ y → (a && ltb 0 x) ≡ true → (a && ltb 0 y) ≡ true
      wider true x y l e = lt-ltb 0 y (omega (arith, ltb-true 0 x e))
      wider false x y l e = e

  -- each bit that sweep i added, prev to rows, has i - 1 jumps back behind it
  abbrev Deep : ℕ → List ℕ → Type 0
  Deep i prev = (k r : ℕ) → New prev (next prev) k r → i ≤ suc (held (next prev) r)

  deep_next : (i : ℕ) (prev : List ℕ) → f.size ≤ length prev → Grows prev → Deep i prev → Deep (suc i) (next prev)
  deep_next i prev fits g deep k r new =
      let (p, s, b, here, there) = trace prev fits r f.size k (le-add_right f.size k) new in
      let up = (next_grows (next prev) (omega (arith, next_long prev)) (next_grows prev fits g).1).0 in
      omega (arith, deep s r there, held_more (next prev) r p up b here)

  -- a sweep that changed something added a bit
  fresh : (rows : List ℕ) → f.size ≤ length rows → Grows rows → next rows ≢ rows → (k : ℕ) × (r : ℕ) × New rows (next rows) k r
  fresh rows fits g n =
      let (k, ne) = differ_at (next rows) rows (next_long rows) n in
      let (r, apart) = bit_apart (row (next rows) k + row rows k) (row (next rows) k) (row rows k) (le-add_right _ _) (le-add_left _ _) ne in
      (k, r, less ((next_grows rows fits g).0 k r) apart)
    where
      less : {x y : ℕ} → x ≤ y → y ≢ x → x < y
      less l ne = omega arith

  again? : (rows : List ℕ) → Dec (Again f start rows)
  again? rows = go (List-discrete ℕ_discrete (swept f start rows) rows) (dec_lt 0 (backs f start))
    where
      go : Dec (swept f start rows ≡ rows) → Dec (0 < backs f start) → Dec (Again f start rows)
      go (yes e) q = no (λ a. a.0 e)
      go (no n) (yes b) = yes (n, b)
      go (no n) (no b) = no (λ a. b a.1)

  -- the sweeps from some rows, at most m of them
  abbrev Few : List ℕ → ℕ → Type 0
  Few rows m = (c : ℕ) × (out : List ℕ) × Sweeps f start rows c out × (c ≤ m)

  -- what follows i sweeps, the last of which changed something
  rest : (m i : ℕ) (prev : List ℕ) → f.size ≤ length prev → Grows prev → Again f start prev → Deep i prev → i + m ≡ suc (suc (backs f start))
      → Few (next prev) m
  unfolding next
  rest zero i prev fits g a deep total =
      let (k, r, new) = fresh prev fits g a.0 in
      absurd (omega (arith, deep k r new, held_le (next prev) r))
  rest (suc m) i prev fits g a deep total = go (again? (next prev))
      (λ a'. rest m (suc i) (next prev) (omega (arith, next_long prev)) (next_grows prev fits g).1 a' (deep_next i prev fits g deep) (omega arith))
    where
      go : Dec (Again f start (next prev)) → (Again f start (next prev) → Few (next (next prev)) m) → Few (next prev) (suc m)
      go (yes a') rec = let (c, out, s, l) = rec a' in (suc c, out, more a' s, omega arith)
      go (no n) rec = (1, next (next prev), done n, omega arith)

  -- The sweeps from empty rows end, after at most two more than there are jumps back.
  pub bounded : (rows : List ℕ) → f.size ≤ length rows → ((k : ℕ) → row rows k ≡ 0) → (c : ℕ) × (out : List ℕ) × Sweeps f start rows c out
      × (c ≤ backs f start + 2)
  unfolding next
  bounded rows fits z = go (again? rows)
    where
      g : Grows rows
      g k lo hi r = omega (arith, at r (z k), bit_zero r)

      go : Dec (Again f start rows) → Few rows (backs f start + 2)
      go (yes a) = let (c, out, s, l) = rest (suc (backs f start)) 1 rows fits g a (λ k r n. omega arith) (omega arith) in (suc c, out, more a s, omega arith)
      go (no n) = (1, next rows, done n, omega arith)
