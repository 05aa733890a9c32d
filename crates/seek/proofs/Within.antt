-- The instructions that come after one: which they are, and how many. Assumes nothing.
use mathlib.Core.Path.{◌≡◌, refl, sym, ◌∙◌}
use mathlib.Core.Logic.{⊎_elim}
use mathlib.Core.Bool.{Bool, true, false, cond, ◌&&◌, true≢false}
use mathlib.Core.List.Memᴰ
use mathlib.Core.List.{List, [], ◌∷◌, Memᴰ}
use Prim.Native.Nat.{ℕ, suc, ◌+◌, ◌<◌, ◌≤◌, min}
use native.Mathlib.Omega.{arith}
use borrow.Author.Tests.{lt-ltb, le-ltb, ltb-true, eqb-true}
use lib.Dec.{eqb, ltb}
use lib.ListN.{length}
use mir.Val.{bool_byte}
use Rattle.code.specs.Ins.{ins_at, count}
use Rattle.code.specs.declared.Ins.{Ins}
use Rattle.ops.specs.Op.{Jump, ReturnR}
use Rattle.roles.specs.Kinds.{page, rule_of, kinds_of, is_jump}
use Rattle.steps.specs.Code.{after_at}
use Rattle.paths.specs.Search.{ways, Turns}
use Rattle.paths.specs.Inner.{owed}
use Rattle.paths.proofs.Turns.{owed_most, owed_first, few_turns as turns_Owed}
use Rattle.seek.specs.Asked.{seek_within, seek_next, jumps_in}

-- ---- which

-- one of those within is one of all
within_all : (n t : ℕ) (l : List ℕ) → Memᴰ t (seek_within n l) → Memᴰ t l
unfolding seek_within
within_all n t [] m = m
within_all n t (x ∷ l) m = go (ltb x n) m (λ q. within_all n t l q)
  where
    go : (b : Bool) → Memᴰ t (cond b (x ∷ seek_within n l) (seek_within n l)) → (Memᴰ t (seek_within n l) → Memᴰ t l) → Memᴰ t (x ∷ l)
    go true m rec = ⊎_elim (λ e. Memᴰ.head e) (λ q. Memᴰ.tail (rec q)) (Memᴰ.cases_cons m)
    go false m rec = Memᴰ.tail (rec m)

-- and one of all that is below n is one of those within
all_within : (n t : ℕ) (l : List ℕ) → t < n → Memᴰ t l → Memᴰ t (seek_within n l)
unfolding seek_within
all_within n t [] h m = m
all_within n t (x ∷ l) h m = ⊎_elim (λ e. first e) (λ q. rest (ltb x n) (all_within n t l h q)) (Memᴰ.cases_cons m)
  where
    first : t ≡ x → Memᴰ t (cond (ltb x n) (x ∷ seek_within n l) (seek_within n l))
    first e = rw (← e, lt-ltb t n h) (Memᴰ.head refl)

    rest : (b : Bool) → Memᴰ t (seek_within n l) → Memᴰ t (cond b (x ∷ seek_within n l) (seek_within n l))
    rest true q = Memᴰ.tail q
    rest false q = q

-- what comes next comes after, and so does each instruction the other way
pub next_after : (w : List ℕ) (j t : ℕ) → Memᴰ t (seek_next w j) → Memᴰ t (after_at w j)
unfolding seek_next
next_after w j t m = within_all (count w) t (after_at w j) m

pub after_next : (w : List ℕ) (j t : ℕ) → t < count w → Memᴰ t (after_at w j) → Memᴰ t (seek_next w j)
unfolding seek_next
after_next w j t h m = all_within (count w) t (after_at w j) h m

-- where a position leads, within n
pub ways_within : (n : ℕ) (on to : Bool) (s t : ℕ) → ways (on && ltb s n) s (to && ltb t n) t ≡ seek_within n (ways on s to t)
unfolding seek_within
ways_within n on to s t = go on to (ltb s n) refl (ltb t n) refl
  where
    go : (on to x : Bool) → ltb s n ≡ x → (y : Bool) → ltb t n ≡ y → ways (on && x) s (to && y) t ≡ seek_within n (ways on s to t)
    go true true true e true f = rw (e, f)
    go true true true e false f = rw (e, f)
    go true true false e true f = rw (e, f)
    go true true false e false f = rw (e, f)
    go true false true e y f = rw e
    go true false false e y f = rw e
    go false true x e true f = rw f
    go false true x e false f = rw f
    go false false x e y f = refl

-- ---- how many

fewer : (n : ℕ) (l : List ℕ) → length (seek_within n l) ≤ length l
unfolding seek_within
fewer n [] = omega arith
fewer n (x ∷ l) = go (ltb x n) (fewer n l)
  where
    go : (b : Bool) → length (seek_within n l) ≤ length l → length (cond b (x ∷ seek_within n l) (seek_within n l)) ≤ suc (length l)
    go true h = omega arith
    go false h = omega arith

-- a jump has two ways out at most, any other instruction one
two_ways : (w : List ℕ) (j : ℕ) → length (seek_next w j) ≤ 1 + bool_byte (is_jump (ins_at w j))
unfolding seek_next after_at
two_ways w j = omega (arith, fewer (count w) (after_at w j), go (eqb (ins_at w j).op ReturnR) (eqb (ins_at w j).op Jump) (is_jump (ins_at w j)))
  where
    t : ℕ
    t = min (ins_at w j).a (count w)

    go : (x y z : Bool) → length (cond x [] (cond y (t ∷ []) (cond z ((j + 1) ∷ t ∷ []) ((j + 1) ∷ [])))) ≤ 1 + bool_byte z
    go true y z = omega arith
    go false true z = omega arith
    go false false true = omega arith
    go false false false = omega arith

jump_is : (i : Ins) → i.op ≡ Jump → is_jump i ≡ true
unfolding is_jump kinds_of rule_of page
jump_is i e = rw e

-- from the last one only a jump leads to an instruction
last_way : (w : List ℕ) (j : ℕ) → suc j ≡ count w → length (seek_next w j) ≤ bool_byte (is_jump (ins_at w j))
unfolding seek_next after_at seek_within
last_way w j e = go (eqb (ins_at w j).op ReturnR) (eqb (ins_at w j).op Jump) refl (is_jump (ins_at w j)) refl
  where
    t : ℕ
    t = min (ins_at w j).a (count w)

    out : ltb (j + 1) (count w) ≡ false
    out = le-ltb (j + 1) (count w) (omega arith)

    go : (x y : Bool) → eqb (ins_at w j).op Jump ≡ y → (z : Bool) → is_jump (ins_at w j) ≡ z
        → length (seek_within (count w) (cond x [] (cond y (t ∷ []) (cond z ((j + 1) ∷ t ∷ []) ((j + 1) ∷ []))))) ≤ bool_byte z
    go true y p z q = omega arith
    go false true p true q = omega (arith, fewer (count w) (t ∷ []))
    go false true p false q = absurd (true≢false (sym (jump_is (ins_at w j) (eqb-true (ins_at w j).op Jump p)) ∙ q))
    go false false p true q = rw out (omega (arith, fewer (count w) (t ∷ [])))
    go false false p false q = rw out (omega arith)

-- ---- how many turns

module _ (w seen : List ℕ) where
  -- before the first turn the loop's measure is at most instructions and jumps
  pub owed_few : 0 < count w → owed (seek_next w) seen (count w) + 1 ≤ count w + jumps_in w
  owed_few h = owed_first (seek_next w) (λ j. is_jump (ins_at w j)) (two_ways w) seen (count w) h (last_way w)

  -- From the asked position on, if it is an instruction, the search makes at most as many turns as there are instructions and jumps.
  pub few_turns : (seen' : List ℕ) (at k top : ℕ) → Turns (count w) (seek_next w) seen (bool_byte (ltb at (count w))) k seen' top → k ≤ count w + jumps_in w
  few_turns seen' at k top ts = go (ltb at (count w)) refl ts
    where
      go : (b : Bool) → ltb at (count w) ≡ b → Turns (count w) (seek_next w) seen (bool_byte b) k seen' top → k ≤ count w + jumps_in w
      go true e ts = omega (arith, turns_Owed ts, owed_few (omega (arith, ltb-true at (count w) e)))
      go false e ts = omega (arith, turns_Owed ts, owed_most (seek_next w) (λ j. is_jump (ins_at w j)) (two_ways w) seen (count w))
