-- What the answers of moves and steps rest on: one law for each way out. Assumes nothing.
use mathlib.Core.Path.{◌≡◌, refl, sym, ap, ap₂, ◌∙◌}
use mathlib.Core.Bool.{Bool, true, false, cond, ◌&&◌, ◌||◌}
use mathlib.Core.List.{List, ◌∷◌, ◌++◌}
use Prim.Native.Nat.{ℕ, suc, ◌+◌, ◌-◌, ◌*◌, ◌/◌, ◌%◌, ◌≤◌, ◌<◌, min}
use native.Mathlib.Numerals.{add-one}
use native.Mathlib.Omega.{arith}
use lib.Dec.{eqb, ltb}
use lib.ListN.{length, get_or, drop, length-drop}
use lib.Seq.{drop-cons}
use Rattle.laws.specs.Walk.{first}
use Rattle.laws.proofs.Walk.{goes_on, stops, ends}
use Rattle.laws.specs.Page.{among}
use Rattle.code.specs.Ins.{ins_at, count}
use Rattle.code.specs.declared.Ins.{Ins}
use Rattle.roles.specs.Sets.{only}
use Rattle.flow.specs.Kept.{handlers_of}
use Rattle.flow.proofs.Tries.{handlers_none}
use Rattle.steps.specs.Code.{store_of}
use Rattle.steps.specs.Level.{is_level}
use Rattle.steps.specs.Inner.{StepAt}
use Rattle.steps.specs.declared.Step.{Step}
use Rattle.moves.specs.Moves.{may_go, bad_step, first_step}

-- ---- handlers

or_false : (b : Bool) → b || false ≡ b
or_false true = refl
or_false false = refl

pub record Handling (tries : List ℕ) (n p q i : ℕ) : Type 0 where
  pub so : among q (handlers_of n p (drop (2 * i) tries)) ≡ among q (handlers_of n p tries)

module _ (tries : List ℕ) (n p q : ℕ) where
  pub handling_start : Handling tries n p q 0
  handling_start = record { so = refl }

  module _ (i : ℕ) (h : Handling tries n p q i) where
    module _ (l : i < length tries / 2) (a b to : ℕ) (x : a ≡ get_or tries (2 * i) 0) (y : b ≡ get_or tries (2 * i + 1) 0) (z : to ≡ min b n) where
      two : drop (2 * i) tries ≡ a ∷ (b ∷ drop (2 * (i + 1)) tries)
      two = drop-cons tries (2 * i) 0 (omega arith)
          ∙ ap₂ (λ (v : ℕ) (r : List ℕ). v ∷ r) (sym x)
          (ap (λ (k : ℕ). drop k tries) (sym (add-one (2 * i))) ∙ drop-cons tries (2 * i + 1) 0 (omega arith) ∙ ap₂ (λ (v k : ℕ). v ∷ drop k tries) (sym y) next)
        where
          next : suc (2 * i + 1) ≡ 2 * (i + 1)
          next = omega arith

      here : among q (handlers_of n p (drop (2 * i) tries)) ≡ ((ltb a p && ltb p b) && eqb q to) || among q (handlers_of n p (drop (2 * (i + 1)) tries))
      unfolding handlers_of
      here = ap (λ (r : List ℕ). among q (handlers_of n p r)) two ∙ go (ltb a p && ltb p b) (handlers_of n p (drop (2 * (i + 1)) tries))
        where
          go : (t : Bool) (rest : List ℕ) → among q (cond t (min b n ∷ rest) rest) ≡ (t && eqb q to) || among q rest
          go true rest = rw z
          go false rest = refl

      pub handling_yes : (ltb a p && ltb p b) && eqb q to ≡ true → true ≡ among q (handlers_of n p tries)
      handling_yes t = sym (ap (λ (c : Bool). c || among q (handlers_of n p (drop (2 * (i + 1)) tries))) t) ∙ sym here ∙ h.so

      pub handling_more : (ltb a p && ltb p b) && eqb q to ≡ false → Handling tries n p q (i + 1)
      handling_more t = record { so = sym (ap (λ (c : Bool). c || among q (handlers_of n p (drop (2 * (i + 1)) tries))) t) ∙ sym here ∙ h.so }

    pub handling_end : length tries / 2 ≤ i → false ≡ among q (handlers_of n p tries)
    handling_end l = sym (ap (among q) (handlers_none n p (drop (2 * i) tries) (omega (arith, length-drop (2 * i) tries)))) ∙ h.so

pub ruleset handlings = (handling_start, handling_yes, handling_more, handling_end)

-- ---- moves

among_two : (a b : Bool) (q x y : ℕ) → among q (only a x ++ only b y) ≡ (a && eqb q x) || (b && eqb q y)
among_two true true q x y = ap (λ (c : Bool). eqb q x || c) (or_false (eqb q y))
among_two true false q x y = refl
among_two false true q x y = or_false (eqb q y)
among_two false false q x y = refl

pub go_is : (w tries : List ℕ) (p q : ℕ) (s : Step) → StepAt w p s → (i : Ins) → i ≡ ins_at w p → (level : Bool) → level ≡ is_level i → (store : ℕ)
    → store ≡ store_of w p
    → (caught : Bool) → caught ≡ among q (handlers_of (count w) p tries)
    → ((((s.on && eqb q (p + 1)) || (s.to && eqb q s.target)) || (level && caught)) || (eqb (i.marks % 2) 1 && eqb q store)) ≡ may_go w tries p q
unfolding may_go
go_is w tries p q s at i e level l store g caught h =
    rw (sym (among_two s.on s.to q (p + 1) s.target), at.after, l, e, g, h)

-- ---- steps

pub first_start : (w tries t : List ℕ) (b : ℕ) → first (bad_step w tries t) (127 * b) (127 * b + 127 - 127 * b) ≡ first_step w tries t b
unfolding first_step
first_start w tries t b = ap (first (bad_step w tries t) (127 * b)) (less (127 * b))
  where
    less : (x : ℕ) → x + 127 - x ≡ 127
    less x = omega arith

pub ruleset steps = (goes_on, stops, ends, first_start)
