-- Laws of the stepping machine's parts. Assumes nothing.
use mathlib.Core.Path.{◌≡◌, refl, sym, ap, ap₂, ◌∙◌}
use mathlib.Core.Logic.{⊎_elim, ◌⊎◌, inl, inr}
use mathlib.Core.List.Memᴰ
use mathlib.Core.List.{List, [], ◌∷◌, ◌++◌, map, Memᴰ, head-eq_of_cons-eq}
use mathlib.Core.List.{tail-eq_of_cons-eq}
use mathlib.Core.Bool.{Bool, cond}
use Prim.Native.Nat.{ℕ, zero, suc, ◌+◌, ◌≤◌, ◌<◌}
use native.Mathlib.Nat.{zero-add, add-suc, suc-add, add-zero}
use native.Mathlib.Decide.{dec_lt}
use native.Mathlib.Omega.{arith}
use borrow.Author.Tests.{lt-ltb, le-ltb}
use lib.Dec.{ltb}
use lib.ListN.{length, get_or, drop}
use Rattle.flow.specs.Set.{bit}
use Rattle.flow.specs.Flow.{Flow}
use Rattle.flow.specs.Listed.{listed}
use Rattle.flow.specs.Run.{run, reads, values_of, wrote, rewritten, file_after, chosen}
use Rattle.flow.specs.Demand.{Agree}

-- ---- values

map_agree : (l a b : List ℕ) → Agree l a b → map (λ r. get_or a r 0) l ≡ map (λ r. get_or b r 0) l
map_agree [] a b e = refl
map_agree (x ∷ l) a b e = ap₂ (λ (y : ℕ) (t : List ℕ). y ∷ t) (e x (Memᴰ.head refl)) (map_agree l a b (λ r m. e r (Memᴰ.tail m)))

map_tells : (l a b : List ℕ) → map (λ r. get_or a r 0) l ≡ map (λ r. get_or b r 0) l → Agree l a b
map_tells [] a b e r m = absurd (Memᴰ.not-nil m)
map_tells (x ∷ l) a b e r m =
    ⊎_elim (λ q. rw q (head-eq_of_cons-eq e)) (λ m'. map_tells l a b (tail-eq_of_cons-eq e) r m') (Memᴰ.cases_cons m)

module _ (f : Flow) (s : ℕ) (a b : List ℕ) where
  pub values_same : Agree (listed f.regs 0 s) a b → values_of f s a ≡ values_of f s b
  values_same e = map_agree (listed f.regs 0 s) a b e

  pub values_tell : values_of f s a ≡ values_of f s b → Agree (listed f.regs 0 s) a b
  values_tell e = map_tells (listed f.regs 0 s) a b e

-- ---- writes

wrote_from : (s : ℕ) (new file : List ℕ) (p m i : ℕ) → i < m → get_or (wrote s new file p m) i 0 ≡ cond (ltb 0 (bit s (p + i))) (get_or new (p + i) 0)
    (get_or file (p + i) 0)
wrote_from s new file p zero i l = absurd (omega arith)
wrote_from s new file p (suc m) zero l = rw add-zero
wrote_from s new file p (suc m) (suc i) l = wrote_from s new file (suc p) m i (omega arith) ∙ rw (suc-add, ← add-suc)

module _ (s : ℕ) (new file : List ℕ) (m r : ℕ) (l : r < m) where
  wrote_at : get_or (wrote s new file 0 m) r 0 ≡ cond (ltb 0 (bit s r)) (get_or new r 0) (get_or file r 0)
  wrote_at = wrote_from s new file 0 m r l ∙ rw zero-add

  pub wrote_kept : bit s r ≡ 0 → get_or (wrote s new file 0 m) r 0 ≡ get_or file r 0
  wrote_kept z = wrote_at ∙ ap (λ (t : Bool). cond t (get_or new r 0) (get_or file r 0)) (le-ltb 0 (bit s r) (omega arith))

  pub wrote_new : 0 < bit s r → get_or (wrote s new file 0 m) r 0 ≡ get_or new r 0
  wrote_new h = wrote_at ∙ ap (λ (t : Bool). cond t (get_or new r 0) (get_or file r 0)) (lt-ltb 0 (bit s r) h)

-- ---- moves

-- a choice picks a position of "after", or n
pub picked : (l : List ℕ) (i n : ℕ) → (get_or l i n ≡ n) ⊎ Memᴰ (get_or l i n) l
picked [] i n = inl refl
picked (x ∷ l) zero n = inr (Memᴰ.head refl)
picked (x ∷ l) (suc i) n = ⊎_elim (λ e. inl e) (λ m. inr (Memᴰ.tail m)) (picked l i n)

-- some choice picks any position of "after"
pub pick_of : (l : List ℕ) (s n : ℕ) → Memᴰ s l → (i : ℕ) × (get_or l i n ≡ s)
pick_of [] s n m = absurd (Memᴰ.not-nil m)
pick_of (x ∷ l) s n m = ⊎_elim (λ e. (0, sym e)) (λ m'. let w = pick_of l s n m' in (suc w.0, w.1)) (Memᴰ.cases_cons m)

-- a choice below the first list's length picks of it, any other of the second
picked_low : (l l' : List ℕ) (i n : ℕ) → i < length l → Memᴰ (get_or (l ++ l') i n) l
picked_low [] l' i n h = absurd (omega arith)
picked_low (x ∷ l) l' zero n h = Memᴰ.head refl
picked_low (x ∷ l) l' (suc i) n h = Memᴰ.tail (picked_low l l' i n (omega arith))

picked_high : (l l' : List ℕ) (i n : ℕ) → length l ≤ i → (get_or (l ++ l') i n ≡ n) ⊎ Memᴰ (get_or (l ++ l') i n) l'
picked_high [] l' i n h = picked l' i n
picked_high (x ∷ l) l' zero n h = absurd (omega arith)
picked_high (x ∷ l) l' (suc i) n h = picked_high l l' i n (omega arith)

pick_low : (l l' : List ℕ) (s n : ℕ) → Memᴰ s l → (i : ℕ) × (i < length l) × (get_or (l ++ l') i n ≡ s)
pick_low [] l' s n m = absurd (Memᴰ.not-nil m)
pick_low (x ∷ l) l' s n m = ⊎_elim (λ e. (0, omega arith, sym e)) (λ m'. let (i, h, e) = pick_low l l' s n m' in (suc i, omega arith, e))
    (Memᴰ.cases_cons m)

pick_high : (l l' : List ℕ) (s n : ℕ) → Memᴰ s l' → (i : ℕ) × (length l ≤ i) × (get_or (l ++ l') i n ≡ s)
pick_high [] l' s n m = let (i, e) = pick_of l' s n m in (i, omega arith, e)
pick_high (x ∷ l) l' s n m = let (i, h, e) = pick_high l l' s n m in (suc i, omega arith, e)

-- what a choice does at k: it leaves for a handler with the file as it is, or writes and goes where "after" names, or to n
module _ (f : Flow) (k choice : ℕ) where
  abbrev pub Moves : Type 0
  Moves = ((new file : List ℕ) → file_after f k choice new file ≡ file) × Memᴰ (chosen f k choice) (f.raises k)

  abbrev pub Goes : Type 0
  Goes = ((new file : List ℕ) → file_after f k choice new file ≡ rewritten f k new file) × ((chosen f k choice ≡ f.size) ⊎ Memᴰ (chosen f k choice)
      (f.after k))

  raised : choice < length (f.raises k) → (new file : List ℕ) → file_after f k choice new file ≡ file
  raised l new file = ap (λ (t : Bool). cond t file (rewritten f k new file)) (lt-ltb choice (length (f.raises k)) l)

  stepped : length (f.raises k) ≤ choice → (new file : List ℕ) → file_after f k choice new file ≡ rewritten f k new file
  stepped l new file = ap (λ (t : Bool). cond t file (rewritten f k new file)) (le-ltb choice (length (f.raises k)) l)

  pub moves : Moves ⊎ Goes
  moves = go (dec_lt choice (length (f.raises k)))
    where
      go : Dec (choice < length (f.raises k)) → Moves ⊎ Goes
      go (yes l) = inl (raised l, picked_low (f.raises k) (f.after k) choice f.size l)
      go (no n) = inr (stepped (omega arith), picked_high (f.raises k) (f.after k) choice f.size (omega arith))

-- some choice leaves for a handler, and some goes where "after" names
module _ (f : Flow) (k s : ℕ) where
  pub leave_for : Memᴰ s (f.raises k) → (choice : ℕ) × (chosen f k choice ≡ s) × ((new file : List ℕ) → file_after f k choice new file ≡ file)
  leave_for m = let (i, l, e) = pick_low (f.raises k) (f.after k) s f.size m in (i, e, raised f k i l)

  pub go_to : Memᴰ s (f.after k) → (choice : ℕ) × (chosen f k choice ≡ s) × ((new file : List ℕ) → file_after f k choice new file ≡ rewritten f k new file)
  go_to m = let (i, l, e) = pick_high (f.raises k) (f.after k) s f.size m in (i, e, stepped f k i l)

module _ (f : Flow) (choice : ℕ) (choices : List ℕ) (news : List (List ℕ)) (k : ℕ) (file : List ℕ) where
  later : List (ℕ × List ℕ)
  later = (k, values_of f (f.used k) file) ∷ run f choices (drop 1 news) (chosen f k choice) (file_after f k choice (get_or news 0 []) file)

  pub run_step : k < f.size → run f (choice ∷ choices) news k file ≡ (k, values_of f (f.used k) file) ∷ run f choices (drop 1 news) (chosen f k choice)
      (file_after f k choice (get_or news 0 []) file)
  unfolding run later
  run_step l = ap (λ (t : Bool). cond t later []) (lt-ltb k f.size l)

  pub reads_step : k < f.size → reads f (choice ∷ choices) news k file ≡ values_of f (f.used k) file ∷ reads f choices (drop 1 news) (chosen f k choice)
      (file_after f k choice (get_or news 0 []) file)
  reads_step l = ap (map (λ (s : ℕ × List ℕ). s.1)) (run_step l)

  pub run_end : f.size ≤ k → run f (choice ∷ choices) news k file ≡ []
  unfolding run later
  run_end l = ap (λ (t : Bool). cond t later []) (le-ltb k f.size l)
