-- A loop that lands marks: each turn adds the landing of one place. Assumes nothing.
use mathlib.Core.Path.{◌≡◌, refl, sym, ◌∙◌, ap}
use mathlib.Core.Bool.{Bool, true, false, cond, ◌&&◌, ◌||◌}
use mathlib.Core.List.{List}
use Prim.Native.Nat.{ℕ, ◌+◌, ◌/◌, ◌<◌, ◌≤◌}
use native.Mathlib.Omega.{arith}
use lib.Dec.{eqb, leb}
use lib.ListN.{length, get_or, set, length-set}
use lib.Seq.{get_or-set_same, get_or-set_other, drop-set-lt}
use borrow.Author.Tests.{eqb-true, eqb-false, leb-true, le-leb}
use mir.Val.{bool_byte}
use Rattle.laws.specs.Table.{filled_to, cleared_to}
use Rattle.laws.proofs.Branch.{and-true}
use Rattle.laws.proofs.Some.{some_more, nowhere_yet}
use Rattle.laws.proofs.Table.{filled_by, cleared_at, cleared_tail, cleared_length}
use Rattle.code.specs.Ins.{ins_at}
use Rattle.code.specs.declared.Ins.{Ins}
use Rattle.roles.specs.Kinds.{is_jump}
use Rattle.surveys.specs.Answers.{target_mark}
use Rattle.surveys.specs.Targets.{hits, jumps_to, handler_of, handled_at, jumped, handled, target}
use Rattle.surveys.specs.Inner.{Lands}

-- one landing
module _ (n q : ℕ) (out : List ℕ) where
  pub lands_in : (y : Bool) → n + 1 ≤ length out → y && leb q n ≡ true → q < length out
  lands_in y h e = omega (arith, leb-true q n (and-true y (leb q n) e).1)

  module _ (y : Bool) (e : y && leb q n ≡ true) (h : n + 1 ≤ length out) where
    marked : (p : ℕ) (b : Bool) → eqb q p ≡ b → get_or (set out q 1) p 0 ≡ cond (hits y q p) 1 (get_or out p 0)
    unfolding hits
    marked p true f = rw ((and-true y (leb q n) e).0, f, ← eqb-true q p f) (get_or-set_same out q 1 0 (lands_in y h e))
    marked p false f = rw ((and-true y (leb q n) e).0, f) (get_or-set_other out q p 1 0 (λ z. eqb-false q p f (sym z)))

    pub landed : Lands n (hits y q) out (set out q 1)
    landed =
        record {
          each = λ p l. marked p (eqb q p) refl;
          held =
              record {
                same = length-set out q 1;
                tail = drop-set-lt (n + 1) out q 1 (omega (arith, leb-true q n (and-true y (leb q n) e).1));
              };
        }

  missed : (p : ℕ) (y b : Bool) → y && leb q n ≡ false → eqb q p ≡ b → p < n + 1 → get_or out p 0 ≡ cond (y && b) 1 (get_or out p 0)
  missed p false b e f l = refl
  missed p true false e f l = refl
  missed p true true e f l =
      let z : q ≤ n = omega (arith, eqb-true q p f) in
      absurd (omega (arith, cc_no (sym (le-leb q n z) ∙ e)))
    where
      cc_no : true ≡ false → ◌≡◌ {A = ℕ} 0 1
      cc_no x = cc

  pub not_landed : (y : Bool) → y && leb q n ≡ false → Lands n (hits y q) out out
  unfolding hits
  not_landed y e = record { each = λ p l. missed p y (eqb q p) e refl l; held = record { same = refl; tail = refl } }

-- k places have landed
pub record Landing (n : ℕ) (f : ℕ → ℕ → Bool) (out₀ out : List ℕ) (m k : ℕ) : Type 0 where
  pub below : k ≤ m
  pub room : n + 1 ≤ length out₀
  pub lands : Lands n (f k) out₀ out

or_last : (x y : Bool) (v : ℕ) → cond y 1 (cond x 1 v) ≡ cond (x || y) 1 v
or_last true true v = refl
or_last true false v = refl
or_last false y v = refl

module _ (n : ℕ) (f : ℕ → ℕ → Bool) (out₀ out : List ℕ) (m k : ℕ) (s : Landing n f out₀ out m k) where
  pub room_now : n + 1 ≤ length out
  room_now = omega (arith, s.room, s.lands.held.same)

  pub length_now : length out ≡ length out₀
  length_now = s.lands.held.same

  all_landed : m ≤ k → Lands n (f m) out₀ out
  all_landed h = let q : k ≡ m = omega (arith, s.below) in rw q at s.lands

  turns : (y : Bool) (q : ℕ) (out' : List ℕ) → k < m → Lands n (hits y q) out out' → ((p : ℕ) → f (k + 1) p ≡ f k p || hits y q p) → Landing n f out₀ out' m
      (k + 1)
  turns y q out' h l more =
      record {
        below = omega arith;
        room = s.room;
        lands =
            record {
              each = λ p i. l.each p i ∙ ap (λ (v : ℕ). cond (hits y q p) 1 v) (s.lands.each p i) ∙ or_last (f k p) (hits y q p) (get_or out₀ p 0)
                  ∙ rw (more p);
              held = record { same = l.held.same ∙ s.lands.held.same; tail = l.held.tail ∙ s.lands.held.tail };
            };
      }

module _ (n : ℕ) (out : List ℕ) (h : n + 1 ≤ length out) where
  none : (f : ℕ → ℕ → Bool) (m : ℕ) → ((p : ℕ) → f 0 p ≡ false) → Landing n f out out m 0
  none f m z =
      record {
        below = omega arith;
        room = h;
        lands = record { each = λ p l. rw (z p); held = record { same = refl; tail = refl } };
      }

  pub no_jumps : (w : List ℕ) (m : ℕ) → Landing n (jumped w) out out m 0
  unfolding jumped
  no_jumps w m = none (jumped w) m (λ p. nowhere_yet (jumps_to w p))

  pub no_tries : (t : List ℕ) (m : ℕ) → Landing n (handled t) out out m 0
  unfolding handled
  no_tries t m = none (handled t) m (λ p. nowhere_yet (handled_at t p))

more_jumps : (w : List ℕ) (k : ℕ) (i : Ins) (y : Bool) → i ≡ ins_at w k → y ≡ is_jump i → (p : ℕ) → jumped w (k + 1) p ≡ jumped w k p || hits y i.a p
unfolding jumped jumps_to
more_jumps w k i y e f p = some_more (jumps_to w p) k ∙ rw (f, e)

more_tries : (t : List ℕ) (k q : ℕ) → q ≡ handler_of t k → (p : ℕ) → handled t (k + 1) p ≡ handled t k p || hits true q p
unfolding handled handled_at hits
more_tries t k q e p = some_more (handled_at t p) k ∙ rw e

pub next_jump : (n : ℕ) (w out₀ out out' : List ℕ) (m k a : ℕ) (i : Ins) (y : Bool) → Landing n (jumped w) out₀ out m k → k < m → i ≡ ins_at w k
    → y ≡ is_jump i → a ≡ i.a → Lands n (hits y a) out out' → Landing n (jumped w) out₀ out' m (k + 1)
next_jump n w out₀ out out' m k a i y s h e f g l = turns n (jumped w) out₀ out m k s y i.a out' h (rw g at l) (more_jumps w k i y e f)

pub next_try : (n : ℕ) (t out₀ out out' : List ℕ) (m k q : ℕ) → Landing n (handled t) out₀ out m k → k < m → q ≡ handler_of t k
    → Lands n (hits true q) out out' → Landing n (handled t) out₀ out' m (k + 1)
next_try n t out₀ out out' m k q s h e l = turns n (handled t) out₀ out m k s true q out' h l (more_tries t k q e)

module _ (n : ℕ) (w out₀ out : List ℕ) (m k : ℕ) where
  pub all_jumps : Landing n (jumped w) out₀ out m k → m ≤ k → Lands n (jumped w m) out₀ out
  all_jumps s = all_landed n (jumped w) out₀ out m k s

  pub all_tries : Landing n (handled w) out₀ out m k → m ≤ k → Lands n (handled w m) out₀ out
  all_tries s = all_landed n (handled w) out₀ out m k s

pub ruleset landing = (room_now, length_now, all_jumps, all_tries, no_jumps, no_tries, next_jump, next_try)

-- clear, then jumps, then handlers
both : (x y : Bool) → cond y 1 (cond x 1 0) ≡ bool_byte (x || y)
both true true = refl
both true false = refl
both false true = refl
both false false = refl

pub all_targets : (w t a b c d : List ℕ) → length w / 6 + 1 ≤ length a → b ≡ cleared_to (length w / 6 + 1) a → Lands (length w / 6) (jumped w (length w / 6)) b c
    → Lands (length w / 6) (handled t (length t / 2)) c d → d ≡ filled_to (target_mark w t) (length w / 6 + 1) a
unfolding target_mark target
all_targets w t a b c d h e j l =
    filled_by (target_mark w t) (length w / 6 + 1) a d h
    (record {
      same = l.held.same ∙ j.held.same ∙ rw e (cleared_length (length w / 6 + 1) a h);
      tail = l.held.tail ∙ j.held.tail ∙ rw e (cleared_tail (length w / 6 + 1) a);
    })
    (λ p i.
    l.each p i
    ∙ ap (λ (v : ℕ). cond (handled t (length t / 2) p) 1 v) (j.each p i ∙ ap (λ (v : ℕ). cond (jumped w (length w / 6) p) 1 v)
    (rw e (cleared_at (length w / 6 + 1) a p i)))
    ∙ both (jumped w (length w / 6) p) (handled t (length t / 2) p))
