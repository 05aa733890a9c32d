-- The call tells by its tests, and its answer is settled. Assumes nothing.
use mathlib.Core.Path.{◌≡◌, refl, sym, ap, ◌∙◌}
use mathlib.Core.Bool.{Bool, true, false, ◌&&◌}
use mathlib.Core.List.{List}
use Prim.Native.Nat.{ℕ, ◌+◌, ◌/◌, ◌<◌, ◌≤◌}
use native.Mathlib.Omega.{arith}
use borrow.Author.Tests.{lt-ltb, ltb-true, ltb-false}
use lib.Dec.{ltb}
use lib.ListN.{length}
use Rattle.laws.specs.Table.{cleared_to}
use Rattle.laws.proofs.Table.{cleared_length}
use Rattle.code.specs.Check.{check_of}
use Rattle.refusals.specs.Stages.{registers_of, room_of}
use Rattle.refusals.specs.declared.Refusal.{Refusal}
use Rattle.refusals.specs.declared.Refusal.TheVariants.{Position}
use Rattle.refusals.specs.Stages.{Checked}
use Rattle.std.specs.declared.result.Result.TheVariants.{Ok, Err}
use Rattle.code.proofs.Checks.{counted, checked}
use Rattle.refusals.proofs.Stages.{regs_before, room_before, room_there}
use Rattle.steps.specs.Code.{flow}
use Rattle.needed.specs.Path.{Needs}
use Rattle.paths.specs.Search.{Says, SearchSettles}
use Rattle.paths.specs.Inner.{Searched}
use Rattle.paths.proofs.Between.{settles}
use Rattle.seek.specs.Inner.{Asked, AskedRoom}
use Rattle.needed.specs.Answers.{upto_of}
use Rattle.needed.proofs.Answer.{asked_needs, needs_asked, never_past}

-- ---- the position

-- the test's own code
module _ (v : Checked) (at : ℕ) where
  pub upto_no : (r : Refusal) → v ≡ Err r → Err r ≡ upto_of v at
  upto_no r e = rw e

  pub upto_past : (n : ℕ) → v ≡ Ok n → n < at → Err (Position at) ≡ upto_of v at
  upto_past n e l = rw (e, lt-ltb n at l)

  pub upto_in : (n : ℕ) → v ≡ Ok n → at ≤ n → Ok n ≡ upto_of v at
  upto_in n e l = go (ltb n at) refl
    where
      go : (t : Bool) → ltb n at ≡ t → Ok n ≡ upto_of v at
      go true q = absurd (omega (arith, ltb-true n at q))
      go false q = rw (e, q)

pub ruleset upto = (upto_no, upto_past, upto_in)

-- where it ends in a count, the position is at n at most
passes : (v : Checked) (k n : ℕ) → Ok n ≡ upto_of v k → (v ≡ Ok n) × (k ≤ n)
passes (Err r) k n e = let z : ◌≡◌ {A = ℕ} 0 1 = cc in absurd (omega arith)
passes (Ok m) k n e = go (ltb m k) refl
  where
    go : (t : Bool) → ltb m k ≡ t → (◌≡◌ {A = Checked} (Ok m) (Ok n)) × (k ≤ n)
    go true q = let f : ◌≡◌ {A = Checked} (Ok n) (Err (Position k)) = e ∙ rw q in let z : ◌≡◌ {A = ℕ} 0 1 = cc in absurd (omega arith)
    go false q =
        let f : ◌≡◌ {A = Checked} (Ok n) (Ok m) = e ∙ rw q in
        let g : n ≡ m = cc in
        (sym f, omega (arith, g, ltb-false m k q))

-- ---- the tests together

-- each test in terms of the input
module _ (w seen todo : List ℕ) (regs k : ℕ) (c g p u v : Checked) (ec : c ≡ check_of w) (eg : g ≡ registers_of c regs) (ep : p ≡ upto_of g k)
    (eu : u ≡ room_of p 1 (length seen) (length w / 6 + 1)) (ev : v ≡ room_of u 2 (length todo) (length w / 6 + 1)) where
  pub chain : v ≡ room_of (room_of (upto_of (registers_of (check_of w) regs) k) 1 (length seen) (length w / 6 + 1)) 2 (length todo) (length w / 6 + 1)
  chain =
      ev ∙ ap (λ (x : Checked). room_of x 2 (length todo) (length w / 6 + 1)) eu
      ∙ ap (λ (x : Checked). room_of (room_of x 1 (length seen) (length w / 6 + 1)) 2 (length todo) (length w / 6 + 1)) (ep ∙ ap (λ (x : Checked). upto_of x k)
      (eg ∙ ap (λ (x : Checked). registers_of x regs) ec))

  module _ (n : ℕ) (h : v ≡ Ok n) where
    marks_on : u ≡ Ok n
    marks_on = room_before n u 2 (length todo) (length w / 6 + 1) (sym h ∙ ev)

    place_on : p ≡ Ok n
    place_on = room_before n p 1 (length seen) (length w / 6 + 1) (sym marks_on ∙ eu)

    code_on : check_of w ≡ Ok n
    code_on = sym ec ∙ regs_before n c regs (sym (passes g k n (sym place_on ∙ ep)).0 ∙ eg)

    pub place_room : AskedRoom w seen todo
    place_room = record {
      valid = checked w n (sym code_on);
      marks = room_there n p 1 (length seen) (length w / 6 + 1) (sym marks_on ∙ eu);
      waiting = room_there n u 2 (length todo) (length w / 6 + 1) (sym h ∙ ev);
    }

    pub place_in : k ≤ length w / 6
    place_in = omega (arith, (passes g k n (sym place_on ∙ ep)).1, counted w n (sym code_on))

-- ---- the search between two clearings

module _ (w seen seen₁ todo : List ℕ) (room : AskedRoom w seen todo) (c : seen₁ ≡ cleared_to (length w / 6 + 1) seen) where
  pub ready : AskedRoom w seen₁ todo
  ready = record { valid = room.valid; marks = rw (c, cleared_length (length w / 6 + 1) seen room.marks) room.marks; waiting = room.waiting }

-- what was asked, and whether there is such a register
both : (w : List ℕ) (regs r k : ℕ) (b : Bool) → Says (Asked w r k) b → Says (Needs (flow regs w) r k) (b && ltb r regs)
both w regs r k b s = go b s (ltb r regs) refl
  where
    go : (b : Bool) → Says (Asked w r k) b → (t : Bool) → ltb r regs ≡ t → Says (Needs (flow regs w) r k) (b && t)
    go true s true e = asked_needs w regs r (ltb-true r regs e) s
    go true s false e = never_past w regs r (ltb-false r regs e)
    go false s true e = λ x. s (needs_asked w regs r (ltb-true r regs e) x)
    go false s false e = never_past w regs r (ltb-false r regs e)

pub done : (w seen seen₁ seen₂ seen₃ todo todo₁ todo₂ : List ℕ) (regs k r x : ℕ) (b : Bool) → x ≡ r
    → seen₁ ≡ cleared_to (length w / 6 + 1) seen
    → Searched (Asked w r k) (length w / 6) seen₁ todo b seen₂ todo₁
    → seen₃ ≡ cleared_to (length w / 6 + 1) seen₂
    → todo₂ ≡ cleared_to (length w / 6 + 1) todo₁
    → SearchSettles (Needs (flow regs w) r k) (length w / 6 + 1) seen todo (b && ltb x regs) seen₃ todo₂
done w seen seen₁ seen₂ seen₃ todo todo₁ todo₂ regs k r x b f c s d e =
    rw f (settles (Asked w r k) (Needs (flow regs w) r k) (length w / 6) seen seen₁ seen₂ seen₃ todo todo₁ todo₂ b (b && ltb r regs) c s d e (both w regs r k b))
