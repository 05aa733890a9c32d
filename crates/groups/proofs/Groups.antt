-- The figures of two groups joined are the figures of both. Assumes nothing.
use mathlib.Core.Path.{◌≡◌, refl, sym, ap, ◌∙◌}
use mathlib.Core.Bool.{Bool, true, false, cond, ◌||◌}
use mathlib.Core.List.{List, [], ◌∷◌, ◌++◌}
use Prim.Native.Nat.{ℕ, suc, ◌+◌, ◌≤◌, ◌<◌, max, zero-le}
use native.Mathlib.Nat.{zero-add, add_assoc}
use native.Mathlib.Decide.{dec_lt, ℕ_discrete}
use native.Mathlib.Omega.{arith}
use borrow.Author.Tests.{lt-ltb, le-ltb, eq-eqb, ne_eqb}
use lib.Dec.{eqb}
use lib.ListN.{length, length-append}
use Rattle.groups.specs.declared.Figures.{Figures}
use Rattle.groups.specs.Groups.{Met, met, sum_of, longest_of, first_at, any, figures_of, better_of, join_of, moved}

pub sum_append : (xs ys : List Met) → sum_of (xs ++ ys) ≡ sum_of xs + sum_of ys
unfolding sum_of
sum_append [] ys = sym (zero-add (sum_of ys))
sum_append (x ∷ xs) ys = ap (λ (n : ℕ). x.len + n) (sum_append xs ys) ∙ sym (add_assoc x.len (sum_of xs) (sum_of ys))

longest_append : (xs ys : List Met) → longest_of (xs ++ ys) ≡ max (longest_of xs) (longest_of ys)
unfolding longest_of
longest_append [] ys = zero_max (longest_of ys)
  where
    zero_max : (n : ℕ) → n ≡ max 0 n
    zero_max n = omega arith
longest_append (x ∷ xs) ys = ap (max x.len) (longest_append xs ys) ∙ assoc x.len (longest_of xs) (longest_of ys)
  where
    assoc : (a b c : ℕ) → max a (max b c) ≡ max (max a b) c
    assoc a b c = omega arith

any_append : (xs ys : List Met) → any (xs ++ ys) ≡ any xs || any ys
any_append [] ys = refl
any_append (x ∷ xs) ys = refl

-- where n is longer than all of xs, the first with n stands behind them
first_behind : (n : ℕ) (xs ys : List Met) → longest_of xs < n → first_at n (xs ++ ys) ≡ first_at n ys
unfolding first_at longest_of
first_behind n [] ys h = refl
first_behind n (x ∷ xs) ys h =
    ap (λ (t : Bool). cond t x (first_at n (xs ++ ys))) (ne_eqb x.len n (λ e. omega arith)) ∙ first_behind n xs ys (omega arith)

-- where xs has one, it is the first
first_before : (n : ℕ) (x : Met) (xs ys : List Met) → longest_of (x ∷ xs) ≡ n → first_at n ((x ∷ xs) ++ ys) ≡ first_at n (x ∷ xs)
unfolding first_at longest_of
first_before n x [] ys e = ap (λ (t : Bool). cond t x (first_at n ys)) here ∙ sym (ap (λ (t : Bool). cond t x (met 0 0 0)) here)
  where
    here : eqb x.len n ≡ true
    here = eq-eqb x.len n (omega arith)
first_before n x (x' ∷ xs) ys e = go (ℕ_discrete x.len n) (λ h. first_before n x' xs ys h)
  where
    go : Dec (x.len ≡ n) → (longest_of (x' ∷ xs) ≡ n → first_at n ((x' ∷ xs) ++ ys) ≡ first_at n (x' ∷ xs))
        → cond (eqb x.len n) x (first_at n ((x' ∷ xs) ++ ys)) ≡ cond (eqb x.len n) x (first_at n (x' ∷ xs))
    go (yes p) rec = rw (eq-eqb x.len n p)
    go (no p) rec = rw (ne_eqb x.len n p) (rec (omega arith))

length_moved : (n : ℕ) (ys : List Met) → length (moved n ys) ≡ length ys
unfolding moved
length_moved n [] = refl
length_moved n (y ∷ ys) = ap suc (length_moved n ys)

sum_moved : (n : ℕ) (ys : List Met) → sum_of (moved n ys) ≡ sum_of ys
unfolding moved sum_of
sum_moved n [] = refl
sum_moved n (y ∷ ys) = ap (λ (m : ℕ). y.len + m) (sum_moved n ys)

longest_moved : (n : ℕ) (ys : List Met) → longest_of (moved n ys) ≡ longest_of ys
unfolding moved longest_of
longest_moved n [] = refl
longest_moved n (y ∷ ys) = ap (max y.len) (longest_moved n ys)

any_moved : (n : ℕ) (ys : List Met) → any (moved n ys) ≡ any ys
unfolding moved
any_moved n [] = refl
any_moved n (y ∷ ys) = refl

first_at_lem : (n k : ℕ) (ys : List Met) → (first_at k (moved n ys)).at ≡ (first_at k ys).at
unfolding moved first_at
first_at_lem n k [] = refl
first_at_lem n k (y ∷ ys) = go (eqb y.len k) (first_at_lem n k ys)
  where
    go : (t : Bool) → (first_at k (moved n ys)).at ≡ (first_at k ys).at
        → (cond t (met (n + y.body) y.at y.len) (first_at k (moved n ys))).at ≡ (cond t y (first_at k ys)).at
    go true e = refl
    go false e = e

-- the body of the longest moves up
first_body : (n k : ℕ) (y : Met) (ys : List Met) → longest_of (y ∷ ys) ≡ k → (first_at k (moved n (y ∷ ys))).body ≡ n + (first_at k (y ∷ ys)).body
unfolding moved first_at longest_of
first_body n k y [] e = rw (eq-eqb y.len k (omega arith))
first_body n k y (y' ∷ ys) e = go (ℕ_discrete y.len k) (λ h. first_body n k y' ys h)
  where
    go : Dec (y.len ≡ k) → (longest_of (y' ∷ ys) ≡ k → (first_at k (moved n (y' ∷ ys))).body ≡ n + (first_at k (y' ∷ ys)).body)
        → (cond (eqb y.len k) (met (n + y.body) y.at y.len) (first_at k (moved n (y' ∷ ys)))).body ≡ n + (cond (eqb y.len k) y
        (first_at k (y' ∷ ys))).body
    go (yes p) rec = rw (eq-eqb y.len k p)
    go (no p) rec = rw (ne_eqb y.len k p) (rec (omega arith))

abbrev mk : ℕ → ℕ → ℕ → ℕ → Bool → ℕ → ℕ → Figures
mk b l k n t o a = record { bodies = b; levels = l; kept = k; longest = n; found = t; body = o; at = a }

mk_same : {b b' l l' k k' n n' o o' a a' : ℕ} {t t' : Bool} → b ≡ b' → l ≡ l' → k ≡ k' → n ≡ n' → t ≡ t' → o ≡ o' → a ≡ a'
    → mk b l k n t o a ≡ mk b' l' k' n' t' o' a'
mk_same eb el ek en et eo ea = cc

-- two groups, the second's body numbers moved up
module _ (n m : ℕ) where
  levels_add : (xs ys : List Met) → length xs + length ys ≡ length (xs ++ moved n ys)
  levels_add xs ys = omega (arith, length-append xs (moved n ys), length_moved n ys)

  kept_add : (xs ys : List Met) → sum_of xs + sum_of ys ≡ sum_of (xs ++ moved n ys)
  kept_add xs ys = ap (λ (k : ℕ). sum_of xs + k) (sym (sum_moved n ys)) ∙ sym (sum_append xs (moved n ys))

  found_add : (xs ys : List Met) → any xs || any ys ≡ any (xs ++ moved n ys)
  found_add xs ys = ap (λ (t : Bool). any xs || t) (sym (any_moved n ys)) ∙ sym (any_append xs (moved n ys))

  longest_both : (xs ys : List Met) → longest_of (xs ++ moved n ys) ≡ max (longest_of xs) (longest_of ys)
  longest_both xs ys = longest_append xs (moved n ys) ∙ ap (max (longest_of xs)) (longest_moved n ys)

  -- the later group's is reported
  later : (xs : List Met) (y : Met) (ys : List Met) → longest_of (xs ++ moved n (y ∷ ys)) ≡ longest_of (y ∷ ys)
      → first_at (longest_of (y ∷ ys)) (xs ++ moved n (y ∷ ys)) ≡ first_at (longest_of (y ∷ ys)) (moved n (y ∷ ys))
      → mk (n + m) (length xs + length (y ∷ ys)) (sum_of xs + sum_of (y ∷ ys)) (longest_of (y ∷ ys)) (any xs || true)
      (n + (first_at (longest_of (y ∷ ys)) (y ∷ ys)).body) (first_at (longest_of (y ∷ ys)) (y ∷ ys)).at
      ≡ figures_of (n + m) (xs ++ moved n (y ∷ ys))
  unfolding figures_of
  later xs y ys e f = mk_same refl (levels_add xs (y ∷ ys)) (kept_add xs (y ∷ ys)) (sym e) (found_add xs (y ∷ ys))
      (sym (ap (λ (z : Met). z.body) (at ∙ f) ∙ first_body n (longest_of (y ∷ ys)) y ys refl))
      (sym (ap (λ (z : Met). z.at) (at ∙ f) ∙ first_at_lem n (longest_of (y ∷ ys)) (y ∷ ys)))
    where
      at : first_at (longest_of (xs ++ moved n (y ∷ ys))) (xs ++ moved n (y ∷ ys)) ≡ first_at (longest_of (y ∷ ys)) (xs ++ moved n (y ∷ ys))
      at = ap (λ (k : ℕ). first_at k (xs ++ moved n (y ∷ ys))) e

  -- the earlier group's stays
  earlier : (x : Met) (xs ys : List Met) → longest_of ys ≤ longest_of (x ∷ xs)
      → mk (n + m) (length (x ∷ xs) + length ys) (sum_of (x ∷ xs) + sum_of ys) (longest_of (x ∷ xs)) true (first_at (longest_of (x ∷ xs)) (x ∷ xs)).body
      (first_at (longest_of (x ∷ xs)) (x ∷ xs)).at
      ≡ figures_of (n + m) ((x ∷ xs) ++ moved n ys)
  unfolding figures_of
  earlier x xs ys h = mk_same refl (levels_add (x ∷ xs) ys) (kept_add (x ∷ xs) ys) (sym e) refl (sym (ap (λ (z : Met). z.body) at))
      (sym (ap (λ (z : Met). z.at) at))
    where
      e : longest_of ((x ∷ xs) ++ moved n ys) ≡ longest_of (x ∷ xs)
      e = longest_both (x ∷ xs) ys ∙ top (longest_of (x ∷ xs)) (longest_of ys) h
        where
          top : (a b : ℕ) → b ≤ a → max a b ≡ a
          top a b h = omega arith

      at : first_at (longest_of ((x ∷ xs) ++ moved n ys)) ((x ∷ xs) ++ moved n ys) ≡ first_at (longest_of (x ∷ xs)) (x ∷ xs)
      at = ap (λ (k : ℕ). first_at k ((x ∷ xs) ++ moved n ys)) e ∙ first_before (longest_of (x ∷ xs)) x xs (moved n ys) refl

  pub join_law : (xs ys : List Met) → join_of (figures_of n xs) (figures_of m ys) ≡ figures_of (n + m) (xs ++ moved n ys)
  unfolding join_of better_of figures_of moved longest_of
  join_law [] [] = mk_same refl (levels_add [] []) (kept_add [] []) refl refl refl refl
  join_law (x ∷ xs) [] = earlier x xs [] zero-le
  join_law [] (y ∷ ys) = later [] y ys (longest_both [] (y ∷ ys) ∙ low (longest_of (y ∷ ys))) refl
    where
      low : (b : ℕ) → max 0 b ≡ b
      low b = omega arith
  join_law (x ∷ xs) (y ∷ ys) = go (dec_lt (longest_of (x ∷ xs)) (longest_of (y ∷ ys)))
    where
      high : (a b : ℕ) → a < b → max a b ≡ b
      high a b h = omega arith

      go : Dec (longest_of (x ∷ xs) < longest_of (y ∷ ys))
          → join_of (figures_of n (x ∷ xs)) (figures_of m (y ∷ ys)) ≡ figures_of (n + m) ((x ∷ xs) ++ moved n (y ∷ ys))
      go (yes h) = rw (lt-ltb (longest_of (x ∷ xs)) (longest_of (y ∷ ys)) h)
          (later (x ∷ xs) y ys (longest_both (x ∷ xs) (y ∷ ys) ∙ high (longest_of (x ∷ xs)) (longest_of (y ∷ ys)) h) (first_behind (longest_of (y ∷ ys)) (x ∷ xs)
          (moved n (y ∷ ys)) h))
      go (no h) = rw (le-ltb (longest_of (x ∷ xs)) (longest_of (y ∷ ys)) (omega arith)) (earlier x xs (y ∷ ys) (omega arith))
