-- A loop that adds one from a on, below b; and one that does so for each GetIter. Assumes nothing.
use mathlib.Core.Path.{◌≡◌, refl, ◌∙◌}
use mathlib.Core.Bool.{Bool, true, false, ◌&&◌}
use mathlib.Core.List.{List}
use Prim.Native.Nat.{ℕ, zero, suc, ◌+◌, ◌/◌, ◌<◌, ◌≤◌}
use native.Mathlib.Omega.{arith}
use native.Mathlib.Numerals.{add-one}
use lib.Dec.{ltb, leb, eqb}
use lib.ListN.{length, get_or, set, length-set}
use lib.Seq.{get_or-set_same, get_or-set_other, drop-set-lt}
use mir.Val.{bool_byte}
use borrow.Author.Tests.{ltb-true, ltb-false, leb-true, lt-ltb, le-ltb, le-leb, eqb-true, eqb-false}
use Rattle.laws.proofs.Byte.{byte_small}
use Rattle.laws.specs.All.{many}
use Rattle.laws.specs.Table.{filled_to, cleared_to, Held}
use Rattle.laws.proofs.Table.{filled_by, cleared_at, cleared_tail, cleared_length}
use Rattle.loops.specs.Loops.{end_of, around, depth}
use Rattle.loops.specs.Inner.{Added, CanGrow, Space, Zeroed, Counted}

pub record Adding (m a b : ℕ) (out₀ out : List ℕ) (p : ℕ) : Type 0 where
  pub from : a ≤ p
  pub high : a < p → p ≤ b
  pub low : CanGrow m a b out₀
  pub added : Added m a p out₀ out

-- where the counts end
same_cases : (a b p q : ℕ) (x y z : Bool) → leb a q ≡ x → ltb q p ≡ y → ltb q b ≡ z → a ≤ p → (a < p → p ≤ b) → b ≤ p → x && y ≡ x && z
same_cases a b p q false y z e f g h i j = refl
same_cases a b p q true true true e f g h i j = refl
same_cases a b p q true false false e f g h i j = refl
same_cases a b p q true true false e f g h i j =
    absurd (omega (arith, leb-true a q e, ltb-true q p f, ltb-false q b g, i (omega (arith, leb-true a q e, ltb-true q p f))))
same_cases a b p q true false true e f g h i j = absurd (omega (arith, ltb-false q p f, ltb-true q b g))

module _ (a p : ℕ) (h : a ≤ p) where
  at_p : leb a p && ltb p p ≡ false
  at_p = rw (le-leb a p h, le-ltb p p (omega arith))

  at_p+1 : leb a p && ltb p (p + 1) ≡ true
  at_p+1 = rw (le-leb a p h, lt-ltb p (p + 1) (omega arith))

other_cases : (p q : ℕ) (y : Bool) → ltb q p ≡ y → (q ≡ p → ⊥) → ltb q (p + 1) ≡ y
other_cases p q true e n = lt-ltb q (p + 1) (omega (arith, ltb-true q p e))
other_cases p q false e n = le-ltb q (p + 1) (omega (arith, ltb-false q p e))

pub begins : (m a b : ℕ) (out : List ℕ) → CanGrow m a b out → Adding m a b out out a
begins m a b out l =
    record {
      from = omega arith;
      high = λ h. absurd (omega arith);
      low = l;
      added = record { each = λ q h. none q (leb a q) refl; held = record { same = refl; tail = refl } };
    }
  where
    none : (q : ℕ) (x : Bool) → leb a q ≡ x → get_or out q 0 ≡ get_or out q 0 + bool_byte (leb a q && ltb q a)
    none q true e = rw (e, le-ltb q a (leb-true a q e)) (omega arith)
    none q false e = rw e (omega arith)

module _ (m a b : ℕ) (out₀ out : List ℕ) (p : ℕ) (s : Adding m a b out₀ out p) where
  pub in_out : p < b → p < length out
  in_out h = omega (arith, s.low.inside, s.low.fits, s.added.held.same)

  pub keeps_length : length out ≡ length out₀
  keeps_length = s.added.held.same

  pub fits_word : p < b → get_or out p 0 ≤ 65536
  fits_word h = omega (
    arith,
    s.added.each p (omega (arith, s.low.inside)),
    s.low.small p (omega (arith, s.low.inside)),
    byte_small
        (leb a p && ltb p p),
  )

  pub ends : b ≤ p → Added m a b out₀ out
  ends h =
      record {
        each = λ q l. s.added.each q l ∙ rw (same_cases a b p q _ _ _ refl refl refl s.from s.high h);
        held = s.added.held;
      }

  each_cases : p < b → (q : ℕ) (x : Bool) → eqb q p ≡ x → q < m → get_or (set out p (get_or out p 0 + 1)) q 0 ≡ get_or out₀ q 0 + bool_byte (leb a q && ltb q (p + 1))
  each_cases h q true e l =
      let z = eqb-true q p e in
      rw (z, get_or-set_same out p (get_or out p 0 + 1) 0 (in_out h), at_p+1 a p s.from)
      (omega (arith, rw (at_p a p s.from) at (s.added.each p (omega (arith, s.low.inside)))))
  each_cases h q false e l =
      let z = eqb-false q p e in
      rw (get_or-set_other out p q (get_or out p 0 + 1) 0 z, other_cases p q (ltb q p) refl z) (s.added.each q l)

  pub adds : p < b → Adding m a b out₀ (set out p (get_or out p 0 + 1)) (p + 1)
  adds h =
      record {
        from = omega (arith, s.from);
        high = λ _. omega arith;
        low = s.low;
        added =
            record {
              each = λ q l. each_cases h q (eqb q p) refl l;
              held =
                  record {
                    same = length-set out p (get_or out p 0 + 1) ∙ s.added.held.same;
                    tail = drop-set-lt m out p (get_or out p 0 + 1) (omega (arith, s.low.inside)) ∙ s.added.held.tail;
                  };
            };
      }

pub ruleset adds-up = (begins, in_out, keeps_length, ends, adds)

pub record Counting (w out₀ out : List ℕ) (g : ℕ) : Type 0 where
  pub below : g ≤ length w / 6
  pub zeroed : Zeroed w out₀
  pub each : (p : ℕ) → p < length w / 6 + 1 → get_or out p 0 ≡ many (around w p) g
  pub held : Held (length w / 6 + 1) out₀ out

many_small : (f : ℕ → Bool) (k : ℕ) → many f k ≤ k
unfolding many
many_small f zero = omega arith
many_small f (suc k) = omega (arith, many_small f k, byte_small (f k))

pub starts : (w out : List ℕ) → Zeroed w out → Counting w out out 0
unfolding many
starts w out z = record { below = omega arith; zeroed = z; each = λ p h. z.zero p h; held = record { same = refl; tail = refl } }

module _ (w out₀ out : List ℕ) (g : ℕ) (s : Counting w out₀ out g) where
  pub low_at : (a e : ℕ) → e ≤ length w / 6 → CanGrow (length w / 6 + 1) a e out
  low_at a e h =
      record {
        inside = omega arith;
        fits = omega (arith, s.zeroed.space.fits, s.held.same);
        small = λ p l. omega (arith, s.each p l, many_small (around w p) g, s.below, s.zeroed.space.few);
      }

  pub same_length : length out ≡ length out₀
  same_length = s.held.same

  pub finish : length w / 6 ≤ g → Counted w out₀ out
  unfolding depth
  finish h = let q : g ≡ length w / 6 = omega (arith, s.below) in record { each = rw q at s.each; held = s.held }

  pub counts : (e : ℕ) (out' : List ℕ) → g < length w / 6 → e ≡ end_of w g → Added (length w / 6 + 1) (g + 1) e out out' → Counting w out₀ out' (g + 1)
  unfolding around many
  counts e out' h q a =
      record {
        below = omega arith;
        zeroed = s.zeroed;
        each = λ p l. a.each p l ∙ rw (s.each p l, q, add-one);
        held = record { same = a.held.same ∙ s.held.same; tail = a.held.tail ∙ s.held.tail };
      }

pub ruleset counts_up = (starts, low_at, finish, counts, same_length)

-- a cleared buffer, and what stands in it at the end
module _ (w a b : List ℕ) (s : Space w a) (e : b ≡ cleared_to (length w / 6 + 1) a) where
  pub zeroed : Zeroed w b
  zeroed =
      record {
        space = record { whole = s.whole; few = s.few; fits = rw (e, cleared_length (length w / 6 + 1) a s.fits) s.fits };
        zero = λ p h. rw e (cleared_at (length w / 6 + 1) a p h);
      }

  pub all_depths : (c : List ℕ) → Counted w b c → c ≡ filled_to (depth w) (length w / 6 + 1) a
  all_depths c k =
      filled_by (depth w) (length w / 6 + 1) a c s.fits
      (record {
        same = k.held.same ∙ rw e (cleared_length (length w / 6 + 1) a s.fits);
        tail = k.held.tail ∙ rw e (cleared_tail (length w / 6 + 1) a);
      })
      k.each
