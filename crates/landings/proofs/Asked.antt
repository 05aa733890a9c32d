-- The last landing tells whether any is in (p, i]: the table in place of the scan. Assumes nothing.
use Prim.Native.Nat.{ℕ, zero, suc, ◌+◌, ◌/◌, ◌≤◌, ◌<◌}
use native.Mathlib.Omega.{arith}
use mathlib.Core.Path.{◌≡◌, refl, sym, ap, ◌∙◌}
use mathlib.Core.Bool.{Bool, true, false, not, cond, ◌&&◌, ◌||◌, false≢true}
use mathlib.Core.List.{List}
use mathlib.Core.Logic.{⊎_elim}
use lib.Dec.{eqb, ltb, leb}
use lib.ListN.{length, get_or}
use borrow.Author.Tests.{lt-ltb, le-leb, ltb-true, ltb-false, leb-true, eqb-true, eqb-false, eq-eqb, ne_eqb}
use mir.Val.{bool_byte}
use Rattle.laws.specs.All.{many}
use Rattle.laws.specs.Some.{some}
use Rattle.laws.proofs.Each.{each_at, each_word}
use Rattle.laws.proofs.Some.{passes_at}
use Rattle.laws.proofs.Branch.{and-true, or_true}
use Rattle.chunk.specs.Chunk.{chunk_count, operand_at, marks_jump, lands}
use Rattle.landings.specs.Landings.{handler_at, jump_lands, handler_lands, landings_at, landings_of, lands_any, handles, handles_any, barred}
use Rattle.landings.specs.Latest.{latest, is_landing}

-- ---- two tests that hold together are one

together : (a b : Bool) → (a ≡ true → b ≡ true) → (b ≡ true → a ≡ true) → a ≡ b
together true b f g = sym (f refl)
together false true f g = g refl
together false false f g = refl

-- ---- the last place that passes

latest_holds : (f : ℕ → Bool) (k p : ℕ) → p < latest f k → (f (latest f k) ≡ true) × (latest f k < k)
unfolding latest
latest_holds f zero p h = absurd (omega arith)
latest_holds f (suc k) p h = go (f k) refl h (latest_holds f k p)
  where
    go : (b : Bool) → f k ≡ b → p < cond b k (latest f k) → (p < latest f k → (f (latest f k) ≡ true) × (latest f k < k))
        → (f (cond b k (latest f k)) ≡ true) × (cond b k (latest f k) < suc k)
    go true e h ih = (e, omega arith)
    go false e h ih = let r = ih h in (r.0, omega (arith, r.1))

latest_last : (f : ℕ → Bool) (k t : ℕ) → f t ≡ true → t < k → t ≤ latest f k
unfolding latest
latest_last f zero t e h = absurd (omega arith)
latest_last f (suc k) t e h = go (f k) refl (latest_last f k t e)
  where
    go : (b : Bool) → f k ≡ b → (t < k → t ≤ latest f k) → t ≤ cond b k (latest f k)
    go true q ih = omega arith
    go false q ih = ih (below (eqb t k) refl)
      where
        below : (c : Bool) → eqb t k ≡ c → t < k
        below true s = absurd (false≢true (sym q ∙ ap f (sym (eqb-true t k s)) ∙ e))
        below false s = let n = eqb-false t k s in near t k n h
          where
            near : (t k : ℕ) → (t ≡ k → ⊥) → t < suc k → t < k
            near t k n h = go' (ltb t k) refl
              where
                go' : (d : Bool) → ltb t k ≡ d → t < k
                go' true r = ltb-true t k r
                go' false r = absurd (n (omega (arith, ltb-false t k r)))

-- ---- some place, and how many

pub record Somewhere (f : ℕ → Bool) (n : ℕ) : Type 0 where
  pub place : ℕ
  pub below : place < n
  pub passes : f place ≡ true

pub somewhere_of : (f : ℕ → Bool) (n : ℕ) → some f n ≡ true → Somewhere f n
unfolding some
somewhere_of f zero e = absurd (false≢true e)
somewhere_of f (suc n) e = go (some f n) (f n) refl refl e (somewhere_of f n)
  where
    go : (a b : Bool) → some f n ≡ a → f n ≡ b → a || b ≡ true → (some f n ≡ true → Somewhere f n) → Somewhere f (suc n)
    go true b p q e ih = let s = ih p in record { place = s.place; below = omega (arith, s.below); passes = s.passes }
    go false b p q e ih = record { place = n; below = omega arith; passes = q ∙ e }

-- a count above 0 has its place, and a place a count above 0
many_where : (f : ℕ → Bool) (n : ℕ) → (many f n ≡ 0 → ⊥) → Somewhere f n
unfolding many
many_where f zero h = absurd (h refl)
many_where f (suc n) h = go (f n) refl h (many_where f n)
  where
    go : (b : Bool) → f n ≡ b → (many f n + bool_byte b ≡ 0 → ⊥) → ((many f n ≡ 0 → ⊥) → Somewhere f n) → Somewhere f (suc n)
    go true e h ih = record { place = n; below = omega arith; passes = e }
    go false e h ih =
        let s = ih (λ z. h (omega arith)) in
        record { place = s.place; below = omega (arith, s.below); passes = s.passes }

many_there : (f : ℕ → Bool) (n k : ℕ) → k < n → f k ≡ true → 0 < many f n
unfolding many
many_there f zero k h e = absurd (omega arith)
many_there f (suc n) k h e = go (ltb k n) refl (λ l. many_there f n k l e)
  where
    go : (b : Bool) → ltb k n ≡ b → (k < n → 0 < many f n) → 0 < many f n + bool_byte (f n)
    go true q ih = omega (arith, ih (ltb-true k n q))
    go false q ih =
        let s : k ≡ n = omega (arith, ltb-false k n q) in
        let g : f n ≡ true = rw s at e in
        rw g (omega arith)

-- ---- the table

pub table_long : (w tries : List ℕ) → length (landings_of w tries) ≡ chunk_count w + 1
unfolding landings_of
table_long w tries = each_word (landings_at w tries) (chunk_count w + 1)

pub table_at : (w tries : List ℕ) (t : ℕ) → t ≤ chunk_count w → get_or (landings_of w tries) t 0 ≡ landings_at w tries t
unfolding landings_of
table_at w tries t h = each_at (landings_at w tries) (chunk_count w + 1) t (omega arith)

not_zero : (x : ℕ) → not (eqb x 0) ≡ true → x ≡ 0 → ⊥
not_zero x e z = let q : not true ≡ true = rw (eq-eqb x 0 z) at e in absurd (false≢true q)

positive : (x : ℕ) → 0 < x → not (eqb x 0) ≡ true
positive x h = rw (ne_eqb x 0 (λ z. omega arith)) refl

or_left : (a b : Bool) → a ≡ true → a || b ≡ true
or_left a b e = rw e refl

or_right : (a b : Bool) → b ≡ true → a || b ≡ true
or_right true b e = refl
or_right false b e = e

module _ (w tries : List ℕ) (p i : ℕ) (h : i ≤ chunk_count w) where
  -- a count above 0 in (p, i] is a jump or a handler there
  found : (t : ℕ) → p < t → t ≤ i → (landings_at w tries t ≡ 0 → ⊥) → lands_any w p i || handles_any tries p i ≡ true
  unfolding landings_at lands_any lands handles_any handles
  found t low high n = go (eqb (many (jump_lands w t) (chunk_count w)) 0) refl
    where
      go : (b : Bool) → eqb (many (jump_lands w t) (chunk_count w)) 0 ≡ b → lands_any w p i || handles_any tries p i ≡ true
      go true e =
          let z = eqb-true (many (jump_lands w t) (chunk_count w)) 0 e in
          let s = many_where (handler_lands tries t) (length tries / 2) (λ y. n (omega arith)) in
          let q = eqb-true (handler_at tries s.place) t s.passes in
          or_right (lands_any w p i) (handles_any tries p i)
          (passes_at (handles tries p i) s.place (length tries / 2) s.below (rw (q, lt-ltb p t low, le-leb t i high) refl))
      go false e =
          let s = many_where (jump_lands w t) (chunk_count w) (eqb-false (many (jump_lands w t) (chunk_count w)) 0 e) in
          let a = and-true (marks_jump w s.place) (eqb (operand_at w s.place) t) s.passes in
          let q = eqb-true (operand_at w s.place) t a.1 in
          or_left (lands_any w p i) (handles_any tries p i)
          (passes_at (lands w p i) s.place (chunk_count w) s.below (rw (a.0, q, lt-ltb p t low, le-leb t i high) refl))

  -- and the other way
  pub record Landing : Type 0 where
    pub place : ℕ
    pub low : p < place
    pub high : place ≤ i
    pub counted : 0 < landings_at w tries place

  lost : lands_any w p i || handles_any tries p i ≡ true → Landing
  unfolding landings_at lands_any lands handles_any handles
  lost e = ⊎_elim jump handler (or_true (lands_any w p i) (handles_any tries p i) e)
    where
      jump : lands_any w p i ≡ true → Landing
      jump e =
          let s = somewhere_of (lands w p i) (chunk_count w) e in
          let x = operand_at w s.place in
          let a = and-true (marks_jump w s.place) (ltb p x && leb x i) s.passes in
          let b = and-true (ltb p x) (leb x i) a.1 in
          record {
            place = x;
            low = ltb-true p x b.0;
            high = leb-true x i b.1;
            counted = omega (arith, many_there (jump_lands w x) (chunk_count w) s.place s.below (rw (a.0, eq-eqb x x refl) refl));
          }

      handler : handles_any tries p i ≡ true → Landing
      handler e =
          let s = somewhere_of (handles tries p i) (length tries / 2) e in
          let x = handler_at tries s.place in
          let b = and-true (ltb p x) (leb x i) s.passes in
          record {
            place = x;
            low = ltb-true p x b.0;
            high = leb-true x i b.1;
            counted = omega (arith, many_there (handler_lands tries x) (length tries / 2) s.place s.below (eq-eqb x x refl));
          }

  -- strict mode by the table is strict mode by the scan
  pub same_test : (strict : Bool) → ltb p (latest (is_landing strict (landings_of w tries)) (suc i)) ≡ barred strict w tries p i
  unfolding barred
  same_test strict = together (ltb p last) (strict && (lands_any w p i || handles_any tries p i)) there back
    where
      f : ℕ → Bool
      f = is_landing strict (landings_of w tries)

      last : ℕ
      last = latest f (suc i)

      there : ltb p last ≡ true → strict && (lands_any w p i || handles_any tries p i) ≡ true
      there e =
          let l = ltb-true p last e in
          let r = latest_holds f (suc i) p l in
          let a = and-true strict (not (eqb (get_or (landings_of w tries) last 0) 0)) r.0 in
          let b : last ≤ i = omega (arith, r.1) in
          let z : get_or (landings_of w tries) last 0 ≡ landings_at w tries last = table_at w tries last (omega arith) in
          rw a.0 (found last l b (λ y. not_zero (get_or (landings_of w tries) last 0) a.1 (z ∙ y)))

      back : strict && (lands_any w p i || handles_any tries p i) ≡ true → ltb p last ≡ true
      back e =
          let a = and-true strict (lands_any w p i || handles_any tries p i) e in
          let s = lost a.1 in
          let z : get_or (landings_of w tries) s.place 0 ≡ landings_at w tries s.place = table_at w tries s.place (omega (arith, s.high)) in
          let y : f s.place ≡ true = ap (λ (b : Bool). b && not (eqb (get_or (landings_of w tries) s.place 0) 0)) a.0
          ∙ positive (get_or (landings_of w tries) s.place 0) (omega (arith, s.counted)) in
          lt-ltb p last (omega (arith, latest_last f (suc i) s.place y (omega (arith, s.high)), s.low))
