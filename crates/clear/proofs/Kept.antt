-- Exactly the named constants are kept, and in their order; freed entries are 0, and those past the old count stay. Assumes nothing.
use Prim.Native.Nat.{ℕ, zero, suc, ◌+◌, ◌-◌, ◌≤◌, ◌<◌}
use native.Mathlib.Nat.{eq-or-lt_of_le}
use native.Mathlib.Omega.{arith}
use mathlib.Core.Path.{◌≡◌, refl, sym, ap, ◌∙◌}
use mathlib.Core.Logic.{⊎_elim}
use mathlib.Core.Bool.{Bool, true, false, ◌||◌, false≢true}
use mathlib.Core.List.{List, [], ◌∷◌, ◌++◌, append-nil, append_assoc}
use lib.Dec.{eqb}
use lib.ListN.{length, get_or, drop, replicate, length-append, length-replicate, length-drop, get_or-replicate, get_or-append}
use lib.Seq.{get_or_at, get_or-append-add, drop_at}
use borrow.Author.Tests.{eqb-true, eq-eqb}
use mir.Val.{bool_byte}
use Rattle.laws.specs.All.{many}
use Rattle.laws.specs.Each.{each}
use Rattle.laws.specs.Some.{some}
use Rattle.laws.proofs.Branch.{and-true}
use Rattle.laws.proofs.Many.{many_few}
use Rattle.laws.proofs.Some.{passes_at}
use Rattle.chunk.specs.Chunk.{chunk_count, operand_at, names}
use Rattle.named.specs.Unused.{names_it, constant_named, packed_at, packed_list, pooled}

below_suc : (i m : ℕ) → i < suc m → i ≤ m
below_suc i m h = omega arith

-- ---- a constant is named by an instruction with the mark

pub named_by : (w : List ℕ) (i k : ℕ) → k < chunk_count w → names w k ≡ true → operand_at w k ≡ i → constant_named w i ≡ true
unfolding constant_named
named_by w i k h n e = passes_at (names_it w i) k (chunk_count w) h (rw (n, eq-eqb (operand_at w k) i e))

pub record Naming (w : List ℕ) (i : ℕ) : Type 0 where
  pub by : ℕ
  pub there : by < chunk_count w
  pub mark : names w by ≡ true
  pub is : operand_at w by ≡ i

record Passing (f : ℕ → Bool) (n : ℕ) : Type 0 where
  at : ℕ
  inside : at < n
  passes : f at ≡ true

some_place : (f : ℕ → Bool) (n : ℕ) → some f n ≡ true → Passing f n
unfolding some
some_place f zero e = absurd (false≢true e)
some_place f (suc n) e = go (f n) refl (some f n) refl (some_place f n) e
  where
    go : (a : Bool) → f n ≡ a → (b : Bool) → some f n ≡ b → (some f n ≡ true → Passing f n) → some f n || f n ≡ true → Passing f (suc n)
    go true p b q ih e = record { at = n; inside = omega arith; passes = p }
    go false p true q ih e = let x = ih q in record { at = x.at; inside = omega (arith, x.inside); passes = x.passes }
    go false p false q ih e = absurd (false≢true (rw (p, q) at e))

pub naming : (w : List ℕ) (i : ℕ) → constant_named w i ≡ true → Naming w i
unfolding constant_named
naming w i e =
    let x = some_place (names_it w i) (chunk_count w) e in
    let p = and-true (names w x.at) (eqb (operand_at w x.at) i) x.passes in
    record { by = x.at; there = x.inside; mark = p.0; is = eqb-true (operand_at w x.at) i p.1 }

-- ---- numbers keep the order, and every number below the new count is one constant's

pub record Place (f : ℕ → Bool) (m j : ℕ) : Type 0 where
  pub place : ℕ
  pub below : place < m
  pub passes : f place ≡ true
  pub number : many f place ≡ j

module _ (f : ℕ → Bool) where
  pub many_up : (i m : ℕ) → i ≤ m → many f i ≤ many f m
  unfolding many
  many_up i zero h = let e : i ≡ 0 = omega arith in rw e (omega arith)
  many_up i (suc m) h = ⊎_elim (λ q. rw q (omega arith)) (λ q. omega (arith, many_up i m (below_suc i m q))) (eq-or-lt_of_le h)

  pub in_order : (i m : ℕ) → i < m → f i ≡ true → many f i < many f m
  unfolding many
  in_order i m h e = let s : many f (suc i) ≡ many f i + 1 = rw e in omega (arith, many_up (suc i) m h)

  pub onto : (m j : ℕ) → j < many f m → Place f m j
  unfolding many
  onto zero j h = absurd (omega arith)
  onto (suc m) j h = go (f m) refl h (onto m j)
    where
      wider : Place f m j → Place f (suc m) j
      wider x = record { place = x.place; below = omega (arith, x.below); passes = x.passes; number = x.number }

      le_of : j < many f m + 1 → j ≤ many f m
      le_of l = omega arith

      go : (b : Bool) → f m ≡ b → j < many f m + bool_byte (f m) → (j < many f m → Place f m j) → Place f (suc m) j
      go true e l ih =
          ⊎_elim (λ q. record { place = m; below = omega arith; passes = e; number = sym q }) (λ q. wider (ih q))
          (eq-or-lt_of_le (le_of (rw e at l)))
      go false e l ih = let q : j < many f m + 0 = rw e at l in wider (ih (omega arith))

  -- ---- the entries

  pub kept_length : (m : ℕ) (l : List ℕ) → length (packed_list f m l) ≡ many f m
  unfolding packed_list each many
  kept_length zero l = refl
  kept_length (suc m) l = go (f m) refl (kept_length m l)
    where
      go : (b : Bool) → f m ≡ b → length (each (packed_at f l) m) ≡ many f m → length (each (packed_at f l) m ++ packed_at f l m) ≡ many f m + bool_byte (f m)
      go true e ih = rw e (length-append (each (packed_at f l) m) (get_or l m 0 ∷ []) ∙ ap (λ (x : ℕ). x + 1) ih)
      go false e ih = rw (e, append-nil (each (packed_at f l) m)) (omega arith)

  kept_at : (m : ℕ) (l : List ℕ) (i : ℕ) → i < m → f i ≡ true → get_or (packed_list f m l) (many f i) 0 ≡ get_or l i 0
  unfolding packed_list each
  kept_at zero l i h e = absurd (omega arith)
  kept_at (suc m) l i h e =
      ⊎_elim
      (λ q. rw (rw q at e, q) (get_or_at (each (packed_at f l) m) (get_or l m 0) [] 0 (many f m) (kept_length m l)))
      (λ q.
      get_or-append (each (packed_at f l) m) (packed_at f l m) 0 (many f i) (rw (kept_length m l) (in_order i m q e))
      ∙ kept_at m l i q e)
      (eq-or-lt_of_le (below_suc i m h))

  module _ (m : ℕ) (l : List ℕ) where
    -- a kept constant stands at its number
    pub pooled_kept : (i : ℕ) → i < m → f i ≡ true → get_or (pooled f m l) (many f i) 0 ≡ get_or l i 0
    unfolding pooled
    pooled_kept i h e =
        get_or-append (packed_list f m l) (replicate (m - many f m) 0 ++ drop m l) 0 (many f i) (rw (kept_length m l) (in_order i m h e)) ∙ kept_at m l i h e

    -- from the new count to the old one there is 0
    pub pooled_freed : (j : ℕ) → many f m ≤ j → j < m → get_or (pooled f m l) j 0 ≡ 0
    unfolding pooled
    pooled_freed j h q =
        let e : j ≡ length (packed_list f m l) + (j - many f m) = omega (arith, kept_length m l) in
        let n : j - many f m < length {A = ℕ} (replicate (m - many f m) 0) = rw (length-replicate {A = ℕ} (m - many f m) 0) (omega arith) in
        ap (λ (x : ℕ). get_or (packed_list f m l ++ (replicate (m - many f m) 0 ++ drop m l)) x 0) e
        ∙ get_or-append-add (packed_list f m l) (replicate (m - many f m) 0 ++ drop m l) (j - many f m) 0
        ∙ get_or-append (replicate (m - many f m) 0) (drop m l) 0 (j - many f m) n
        ∙ get_or-replicate (m - many f m) (j - many f m) 0 0 (omega arith)

    front_length : length (packed_list f m l ++ replicate (m - many f m) 0) ≡ m
    front_length = length-append (packed_list f m l) (replicate (m - many f m) 0) ∙ omega (
      arith,
      kept_length m l,
      length-replicate {A = ℕ} (m - many f m) 0,
      many_few f m,
    )

    -- past the old count nothing changes
    pub pooled_past : drop m (pooled f m l) ≡ drop m l
    unfolding pooled
    pooled_past = ap (drop m) (sym (append_assoc (packed_list f m l) (replicate (m - many f m) 0) (drop m l)))
        ∙ drop_at (packed_list f m l ++ replicate (m - many f m) 0) (drop m l) m front_length

    pub pooled_length : m ≤ length l → length (pooled f m l) ≡ length l
    unfolding pooled
    pooled_length h =
        ap length (sym (append_assoc (packed_list f m l) (replicate (m - many f m) 0) (drop m l)))
        ∙ length-append (packed_list f m l ++ replicate (m - many f m) 0) (drop m l)
        ∙ omega (arith, front_length, length-drop m l)
