-- Reads are counted step by step, each used register once. Assumes nothing.
use mathlib.Core.Path.{◌≡◌, refl, sym, ap, ap₂, ◌∙◌, subst}
use mathlib.Core.Bool.{Bool, true, false, not, ◌&&◌, ◌||◌}
use mathlib.Core.List.{List, [], ◌∷◌, ◌++◌}
use Prim.Native.Nat.{ℕ, zero, suc, ◌+◌, ◌/◌, ◌%◌, ◌≤◌, ◌<◌, zero-le}
use native.Mathlib.Nat.{add-zero}
use native.Mathlib.Decide.{ℕ_discrete}
use native.Mathlib.Numerals.{add-one}
use native.Mathlib.Omega.{arith}
use mir.Syntax.{w64}
use mir.Val.{Fits, bool_byte}
use borrow.Author.Tests.{eq-eqb, ne_eqb, not-true, not-false}
use lib.Dec.{eqb}
use lib.ListN.{length, get_or, set, drop, replicate, length-set}
use lib.Seq.{get_or-set_same, get_or-set_other, drop-set-lt}
use Rattle.laws.specs.Table.{table, Held}
use Rattle.laws.specs.All.{many}
use Rattle.laws.specs.Page.{among}
use Rattle.laws.proofs.Table.{filled_by, cleared_tail, cleared_length, cleared_at}
use Rattle.code.specs.Ins.{ins_at, count}
use Rattle.code.specs.declared.Ins.{Ins}
use Rattle.roles.specs.Kinds.{a, b, c, has}
use Rattle.roles.specs.Sets.{only}
use Rattle.steps.specs.Code.{used_at}
use Rattle.steps.specs.Level.{is_level}
use Rattle.steps.specs.Inner.{StepAt}
use Rattle.steps.specs.declared.Step.{Step}
use Rattle.blocks.specs.Blocks.{slot_at}
use Rattle.day.specs.Count.{reads_in, levels_in}
use Rattle.day.specs.Inner.{CanRise, Lower, CountedOnce, Thrice, Stepped, ZeroReads, Tallied, Walkable}

and-false : (t : Bool) → t && false ≡ false
and-false true = refl
and-false false = refl

held_refl : (m : ℕ) (l : List ℕ) → Held m l l
held_refl m l = record { same = refl; tail = refl }

held_trans : (m : ℕ) (x y z : List ℕ) → Held m x y → Held m y z → Held m x z
held_trans m x y z p q = record { same = q.same ∙ p.same; tail = q.tail ∙ p.tail }

-- ---- one register

module _ (regs : ℕ) (l : List ℕ) (t : Bool) (r : ℕ) where
  pub bump_yes : CanRise regs l → not t ≡ false → r < regs → (x : ℕ) → x ≡ get_or l r 0 → CountedOnce regs l (set l r (x + 1)) t r
  bump_yes low e h x q = record {
    held = record { same = length-set l r (x + 1); tail = drop-set-lt regs l r (x + 1) h };
    each = λ p k. rw (not-false t e)
        (at p (ℕ_discrete p r));
  }
    where
      at : (p : ℕ) → Dec (p ≡ r) → get_or (set l r (x + 1)) p 0 ≡ get_or l p 0 + bool_byte (eqb p r)
      at p (yes f) = rw (f, eq-eqb r r refl) (get_or-set_same l r (x + 1) 0 (omega (arith, low.room)) ∙ ap (λ (y : ℕ). y + 1) q)
      at p (no n) = rw (ne_eqb p r n) (get_or-set_other l r p (x + 1) 0 n ∙ sym (add-zero (get_or l p 0)))

  pub bump_not : not t ≡ true → CountedOnce regs l l t r
  bump_not e = record { held = held_refl regs l; each = λ p k. rw (not-true t e) (sym (add-zero (get_or l p 0))) }

  pub bump_out : not t ≡ false → regs ≤ r → CountedOnce regs l l t r
  bump_out e h = record { held = held_refl regs l; each = λ p k. rw (not-false t e, ne_eqb p r (λ q. omega arith)) (sym (add-zero (get_or l p 0))) }

pub ruleset bumps = (bump_yes, bump_not, bump_out)

pub low_first : (regs : ℕ) (l : List ℕ) → Lower regs l → CanRise regs l
low_first regs l h = record { room = h.room; each = λ p k. omega (arith, h.each p k) }

byte_le : (t : Bool) → bool_byte t ≤ 1
byte_le true = omega arith
byte_le false = omega arith

pub low_second : (regs : ℕ) (l l' : List ℕ) (t : Bool) (r : ℕ) → Lower regs l → CountedOnce regs l l' t r → CanRise regs l'
low_second regs l l' t r h b = record {
  room = omega (arith, h.room, b.held.same);
  each = λ p k. omega (
    arith,
    h.each p k,
    b.each p k,
    byte_le (t && eqb p r),
  );
}

pub low_third : (regs : ℕ) (l l' l'' : List ℕ) (t : Bool) (r : ℕ) (u : Bool) (q : ℕ) → Lower regs l → CountedOnce regs l l' t r → CountedOnce regs l' l'' u q
    → CanRise regs l''
low_third regs l l' l'' t r u q h b d = record {
  room = omega (arith, h.room, b.held.same, d.held.same);
  each = λ p k. omega (arith, h.each p k, b.each p k, byte_le (t && eqb p r), d.each p k, byte_le (u && eqb p q));
}

-- ---- one step

-- a test at the register's own number is a test at p
own : (h : Bool) (g : ℕ → Bool) (p r : ℕ) → (h && not (g r)) && eqb p r ≡ (h && eqb p r) && not (g p)
own h g p r = go (ℕ_discrete p r)
  where
    go : Dec (p ≡ r) → (h && not (g r)) && eqb p r ≡ (h && eqb p r) && not (g p)
    go (yes e) = rw (e, eq-eqb r r refl) (true_last h (not (g r)))
      where
        true_last : (x y : Bool) → (x && y) && true ≡ (x && true) && y
        true_last true true = refl
        true_last true false = refl
        true_last false y = refl
    go (no n) = rw (ne_eqb p r n, and-false (h && not (g r)), and-false h)

three : (x y z : Bool) → bool_byte x + bool_byte (y && not x) + bool_byte ((z && not x) && not y) ≡ bool_byte (x || y || z)
three true true true = refl
three true true false = refl
three true false true = refl
three true false false = refl
three false true true = refl
three false true false = refl
three false false true = refl
three false false false = refl

among_append : (p : ℕ) (xs ys : List ℕ) → among p (xs ++ ys) ≡ among p xs || among p ys
among_append p [] ys = refl
among_append p (x ∷ xs) ys = ap (λ (t : Bool). eqb p x || t) (among_append p xs ys) ∙ assoc (eqb p x) (among p xs) (among p ys)
  where
    assoc : (a b c : Bool) → a || (b || c) ≡ (a || b) || c
    assoc true b c = refl
    assoc false b c = refl

among_only : (x : Bool) (p u : ℕ) → among p (only x u) ≡ x && eqb p u
among_only true p u = go (eqb p u)
  where
    go : (t : Bool) → t || false ≡ t
    go true = refl
    go false = refl
among_only false p u = refl

among_three : (x y z : Bool) (p u v r : ℕ) → among p (only x u ++ only y v ++ only z r) ≡ (x && eqb p u) || (y && eqb p v) || (z && eqb p r)
among_three x y z p u v r =
    among_append p (only x u ++ only y v) (only z r)
    ∙ ap₂ ◌||◌ (among_append p (only x u) (only y v) ∙ ap₂ ◌||◌ (among_only x p u) (among_only y p v)) (among_only z p r)

-- three registers are counted, each once
three_counts : (regs : ℕ) (x y z : Bool) (u v r : ℕ) (l l₁ l₂ l₃ : List ℕ)
    → CountedOnce regs l l₁ x u
    → CountedOnce regs l₁ l₂ (y && not (x && eqb v u)) v
    → CountedOnce regs l₂ l₃ ((z && not (x && eqb r u)) && not (y && eqb r v)) r
    → Thrice regs l l₃ x u y v z r
three_counts regs x y z u v r l l₁ l₂ l₃ b₁ b₂ b₃ = record {
  held = held_trans regs l l₂ l₃ (held_trans regs l l₁ l₂ b₁.held b₂.held) b₃.held;
  each = λ p h. b₃.each p h
      ∙ ap₂ (λ (m : ℕ) (t : Bool). m + bool_byte t) (b₂.each p h ∙ ap₂ (λ (m : ℕ) (t : Bool). m + bool_byte t) (b₁.each p h) (second p)) (third p)
      ∙ sum (get_or l p 0) (bool_byte (X p)) (bool_byte (Y p && not (X p))) (bool_byte ((Z p && not (X p)) && not (Y p)))
      ∙ ap (λ (m : ℕ). get_or l p 0 + m) (three (X p) (Y p) (Z p));
}
  where
    X : ℕ → Bool
    X p = x && eqb p u

    Y : ℕ → Bool
    Y p = y && eqb p v

    Z : ℕ → Bool
    Z p = z && eqb p r

    sum : (m x y z : ℕ) → m + x + y + z ≡ m + (x + y + z)
    sum m x y z = omega arith

    second : (p : ℕ) → (y && not (X v)) && eqb p v ≡ Y p && not (X p)
    second p = own y X p v

    third : (p : ℕ) → ((z && not (X r)) && not (Y r)) && eqb p r ≡ (Z p && not (X p)) && not (Y p)
    third p = own (z && not (X r)) Y p r ∙ ap (λ (t : Bool). t && not (Y p)) (own z X p r)

step_counts : (regs : ℕ) (w : List ℕ) (k : ℕ) (s : Step) → StepAt w k s → (u v r : ℕ) → u ≡ s.a → v ≡ s.b → r ≡ s.c → (l l' : List ℕ)
    → Thrice regs l l' (eqb (s.used / 2 % 2) 1) u (eqb (s.used / 4 % 2) 1) v (eqb (s.used / 8 % 2) 1) r → Stepped regs l l' w k
step_counts regs w k s at u v r eu ev er l l' d = record {
  held = d.held;
  each = λ p h. d.each p h ∙ ap (λ (t : Bool). get_or l p 0 + bool_byte t) (sym (all p));
}
  where
    all : (p : ℕ) → among p (used_at w k) ≡ (eqb (s.used / 2 % 2) 1 && eqb p u) || (eqb (s.used / 4 % 2) 1 && eqb p v) || (eqb (s.used / 8 % 2) 1 && eqb p r)
    all p = ap (among p) (sym at.used) ∙ among_three (has a s.used) (has b s.used) (has c s.used) p s.a s.b s.c ∙ rw (eu, ev, er)

-- the registers of a step, counted one after the other
pub step_counted : (regs : ℕ) (w : List ℕ) (k : ℕ) (s : Step) → StepAt w k s → (u v r : ℕ) → u ≡ s.a → v ≡ s.b → r ≡ s.c → (l l₁ l₂ l₃ : List ℕ)
    → CountedOnce regs l l₁ (eqb (s.used / 2 % 2) 1) u
    → CountedOnce regs l₁ l₂ (eqb (s.used / 4 % 2) 1 && not (eqb (s.used / 2 % 2) 1 && eqb v u)) v
    → CountedOnce regs l₂ l₃ ((eqb (s.used / 8 % 2) 1 && not (eqb (s.used / 2 % 2) 1 && eqb r u)) && not (eqb (s.used / 4 % 2) 1 && eqb r v)) r
    → Stepped regs l l₃ w k
step_counted regs w k s at u v r eu ev er l l₁ l₂ l₃ b₁ b₂ b₃ = step_counts regs w k s at u v r eu ev er l l₃
    (three_counts regs (eqb (s.used / 2 % 2) 1) (eqb (s.used / 4 % 2) 1) (eqb (s.used / 8 % 2) 1) u v r l l₁ l₂ l₃ b₁ b₂ b₃)

-- ---- all steps

pub record Counting (w t : List ℕ) (regs : ℕ) (old new : List ℕ) (levels m s : ℕ) : Type 0 where
  pub le : s ≤ m
  pub walk : Walkable w t m
  pub room : regs ≤ length old
  pub held : Held regs old new
  pub each : (p : ℕ) → p < regs → get_or new p 0 ≡ reads_in w t s p
  pub met : levels ≡ levels_in w t s

many_le : (f : ℕ → Bool) (n : ℕ) → many f n ≤ n
unfolding many
many_le f zero = zero-le
many_le f (suc n) = let e = many_le f n in omega (arith, byte_le (f n))

module _ (w t : List ℕ) (regs : ℕ) (old : List ℕ) (m : ℕ) where
  pub counting_start : Walkable w t m → ZeroReads regs old → Counting w t regs old old 0 m 0
  unfolding reads_in levels_in many
  counting_start k h = record { le = zero-le; walk = k; room = h.room; held = held_refl regs old; each = h.each; met = refl }

  module _ (new : List ℕ) (levels s : ℕ) (c : Counting w t regs old new levels m s) where
    pub counting_slot : s < m → s / 127 < length t / 512
    counting_slot h = omega (arith, c.walk.long)

    pub counting_low : Lower regs new
    unfolding reads_in
    counting_low = record {
      room = omega (arith, c.room, c.held.same);
      each = λ p h. omega (arith, c.each p h, many_le (λ s. among p (used_at w (slot_at t s))) s, c.le, c.walk.few);
    }

    pub counting_in : s < m → (k : ℕ) → k ≡ slot_at t s → k < count w
    counting_in h k e = subst (λ (x : ℕ). x < count w) (sym e) (c.walk.below s h)

    pub counting_fits : (level : Bool) (x : ℕ) → x ≡ bool_byte level → Fits w64 (levels + x)
    unfolding levels_in
    counting_fits level x e = record { fits = omega (arith, c.met, many_le (λ s. is_level (ins_at w (slot_at t s))) s, c.le, c.walk.few, byte_le level) }

    pub counting_more : s < m → (k : ℕ) → k ≡ slot_at t s → (next : List ℕ) → Stepped regs new next w k → (i : Ins) → i ≡ ins_at w k → (level : Bool)
        → level ≡ is_level i → (x : ℕ) → x ≡ bool_byte level
        → Counting w t regs old next (levels + x) m (s + 1)
    unfolding reads_in levels_in many
    counting_more h k e next b i ie level le x xe = record {
      le = omega arith;
      walk = c.walk;
      room = c.room;
      held = held_trans regs old new next c.held b.held;
      each = λ p l. rw (add-one s) (b.each p l ∙ ap₂ (λ (y : ℕ) (j : ℕ). y + bool_byte (among p (used_at w j))) (c.each p l) e);
      met = rw (add-one s) (ap₂ (λ (y z : ℕ). y + z) c.met (xe ∙ ap bool_byte (le ∙ ap is_level (ie ∙ ap (ins_at w) e))));
    }

    pub counting_end : m ≤ s → Tallied w t regs old m new levels
    counting_end h = let q : s ≡ m = omega (arith, c.le) in record {
      reads = filled_by (reads_in w t m) regs old new c.room c.held (λ p l. c.each p l ∙ ap (λ (n : ℕ). reads_in w t n p) q);
      met = c.met ∙ ap (levels_in w t) q;
    }

pub ruleset countings = (counting_start, counting_more, counting_end)

-- reads set to 0 first
pub zeros_of : (regs : ℕ) (old new : List ℕ) → regs ≤ length old → new ≡ replicate regs 0 ++ drop regs old → ZeroReads regs new
zeros_of regs old new h e = record {
  room = omega (
    arith,
    ap length e,
    cleared_length regs old h,
  );
  each = λ p k. ap (λ (x : List ℕ). get_or x p 0) e ∙ cleared_at regs old p k;
}

pub counted_over : (w t : List ℕ) (regs : ℕ) (old mid : List ℕ) (m : ℕ) (new : List ℕ) (levels : ℕ) → mid ≡ replicate regs 0 ++ drop regs old
    → Tallied w t regs mid m new levels → Tallied w t regs old m new levels
counted_over w t regs old mid m new levels e c = record {
  reads = c.reads ∙ ap (λ (x : List ℕ). table (reads_in w t m) regs ++ x)
      (ap (drop regs) e ∙ cleared_tail regs old);
  met = c.met;
}
