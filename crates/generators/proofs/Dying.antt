-- A walk over the Phis: both buffers stay clear, and each Phi passed is dead. Assumes nothing.
use mathlib.Core.Path.{◌≡◌, refl, sym, ◌∙◌, ap}
use mathlib.Core.Logic.{⊎_elim}
use mathlib.Core.Bool.{Bool, true, false, not, ◌&&◌, true≢false, false≢true}
use mathlib.Core.List.{List}
use Prim.Native.Nat.{ℕ, ◌+◌, ◌/◌, ◌<◌, ◌≤◌}
use native.Mathlib.Nat.{eq-or-lt_of_le}
use native.Mathlib.Omega.{arith}
use lib.ListN.{length}
use Rattle.laws.specs.Table.{cleared_to}
use Rattle.laws.proofs.Table.{cleared_length, cleared_twice}
use Rattle.ops.specs.Op.{Phi}
use Rattle.code.specs.Ins.{ins_at}
use Rattle.code.specs.declared.Ins.{Ins}
use Rattle.laid.specs.Section.{laid}
use Rattle.paths.specs.Search.{Says, SearchSettles}
use Rattle.unread.specs.Phi.{Dead}
use Rattle.phi_paths.specs.Inner.{PhiRoom}
use Rattle.outside.specs.Outside.{made, returns_outside}
use Rattle.generators.specs.Generator.{PhisDead, GenPure}
use Rattle.generators.specs.Inner.{Clear}

-- the first m words of a list, cleared
module _ (w a b x y : List ℕ) (room : PhiRoom w a b) (e : x ≡ cleared_to (length w / 6 + 1) a) (f : y ≡ cleared_to (length w / 6 + 1) b) where
  pub clear : Clear w x y
  clear =
      record {
        room =
            record {
              whole = room.whole;
              few = room.few;
              marks = rw (e, cleared_length (length w / 6 + 1) a room.marks) room.marks;
              waiting = rw (f, cleared_length (length w / 6 + 1) b room.waiting) room.waiting;
            };
        marks = rw e (sym (cleared_twice (length w / 6 + 1) a));
        waiting = rw f (sym (cleared_twice (length w / 6 + 1) b));
      }

  pub settled : (c : Bool) (x' y' : List ℕ) → SearchSettles (PhisDead w (length w / 6)) (length w / 6 + 1) x y c x' y' → SearchSettles
      (PhisDead w (length w / 6)) (length w / 6 + 1) a b c x' y'
  settled c x' y' s =
      record {
        says = s.says;
        marks = s.marks ∙ rw e (cleared_twice (length w / 6 + 1) a);
        waiting = s.waiting ∙ rw f (cleared_twice (length w / 6 + 1) b);
      }

pub record Walked (w seen₀ todo₀ seen todo : List ℕ) (k : ℕ) : Type 0 where
  pub below : k ≤ length w / 6
  pub clear : Clear w seen₀ todo₀
  pub marks : seen ≡ seen₀
  pub waiting : todo ≡ todo₀
  pub dead : PhisDead w k

pub begins : (w a b : List ℕ) → Clear w a b → Walked w a b a b 0
begins w a b c = record { below = omega arith; clear = c; marks = refl; waiting = refl; dead = record { dead = λ k h. absurd (omega arith) } }

more : (w : List ℕ) (k : ℕ) → PhisDead w k → ((ins_at w k).op ≡ Phi → Dead w k (ins_at w k).a) → PhisDead w (k + 1)
more w k d n = record { dead = λ j h. ⊎_elim (λ q. rw q n) (λ q. d.dead j q) (eq-or-lt_of_le (le_of j h)) }
  where
    le_of : (j : ℕ) → j < k + 1 → j ≤ k
    le_of j h = omega arith

holds : (P : Type 0) (b : Bool) → b ≡ true → Says P b → P
holds P true t s = s
holds P false t s = absurd (false≢true t)

fails : (P : Type 0) (b : Bool) → b ≡ false → Says P b → P → ⊥
fails P false t s = s
fails P true t s = absurd (true≢false t)

module _ (w a b x y : List ℕ) (k : ℕ) (s : Walked w a b x y k) where
  pub room_at : PhiRoom w x y
  room_at = rw (s.marks, s.waiting) s.clear.room

  pub marks_length : length x ≡ length a
  marks_length = ap length s.marks

  pub waiting_length : length y ≡ length b
  waiting_length = ap length s.waiting

  pub ends : length w / 6 ≤ k → SearchSettles (PhisDead w (length w / 6)) (length w / 6 + 1) a b true x y
  ends h =
      let q : k ≡ length w / 6 = omega (arith, s.below) in
      record { says = rw q at s.dead; marks = s.marks ∙ s.clear.marks; waiting = s.waiting ∙ s.clear.waiting }

  module _ (h : k < length w / 6) (i : Ins) (here : i ≡ ins_at w k) where
    pub no_phi : (i.op ≡ Phi → ⊥) → Walked w a b x y (k + 1)
    no_phi n =
        record {
          below = omega arith;
          clear = s.clear;
          marks = s.marks;
          waiting = s.waiting;
          dead = more w k s.dead (λ o. absurd (n (rw here o)));
        }

    module _ (x' y' : List ℕ) (c : Bool) (d : SearchSettles (Dead w k i.a) (length w / 6 + 1) x y c x' y') where
      marks_stay : x' ≡ a
      marks_stay = d.marks ∙ ap (λ (z : List ℕ). cleared_to (length w / 6 + 1) z) s.marks ∙ sym s.clear.marks

      waiting_stay : y' ≡ b
      waiting_stay = d.waiting ∙ ap (λ (z : List ℕ). cleared_to (length w / 6 + 1) z) s.waiting ∙ sym s.clear.waiting

      pub dies : c ≡ true → Walked w a b x' y' (k + 1)
      dies t =
          record {
            below = omega arith;
            clear = s.clear;
            marks = marks_stay;
            waiting = waiting_stay;
            dead = more w k s.dead (λ o. rw here at (holds (Dead w k i.a) c t d.says));
          }

      pub lives : i.op ≡ Phi → c ≡ false → SearchSettles (PhisDead w (length w / 6)) (length w / 6 + 1) a b false x' y'
      lives o t =
          record {
            says = λ p. fails (Dead w k i.a) c t d.says (rw here (p.dead k h (rw here at o)));
            marks = marks_stay ∙ s.clear.marks;
            waiting = waiting_stay ∙ s.clear.waiting;
          }

      pub marks_length' : length x' ≡ length a
      marks_length' = ap length marks_stay

      pub waiting_length' : length y' ≡ length b
      waiting_length' = ap length waiting_stay

pub ruleset walking = (begins, room_at, marks_length, waiting_length, ends, no_phi, dies, lives, marks_length', waiting_length')

-- all four tests
module _ (w : List ℕ) where
  all_four : (l d m o : Bool) → l ≡ laid w true → Says (PhisDead w (length w / 6)) d → m ≡ made w → o ≡ returns_outside w → Says (GenPure w)
      (l && d && not m && o)
  all_four true true false true e s f g = record { laid = sym e; dead = s; unmade = sym f; outside = sym g }
  all_four true true false false e s f g = λ p. false≢true (g ∙ p.outside)
  all_four true true true o e s f g = λ p. true≢false (f ∙ p.unmade)
  all_four true false m o e s f g = λ p. s p.dead
  all_four false d m o e s f g = λ p. false≢true (e ∙ p.laid)

  pub generator : (x y x' y' : List ℕ) (l d m o : Bool) → SearchSettles (PhisDead w (length w / 6)) (length w / 6 + 1) x y d x' y' → l ≡ laid w true
      → m ≡ made w → o ≡ returns_outside w
      → SearchSettles (GenPure w) (length w / 6 + 1) x y (l && d && not m && o) x' y'
  generator x y x' y' l d m o s e f g = record { says = all_four l d m o e s.says f g; marks = s.marks; waiting = s.waiting }
