-- A call that tells by its tests, and that it has one answer. Assumes nothing.
use mathlib.Core.Path.{◌≡◌, refl, sym, ap, ◌∙◌}
use mathlib.Core.Bool.{Bool, true, false}
use mathlib.Core.List.{List}
use Prim.Native.Nat.{ℕ, ◌+◌, ◌/◌, ◌<◌}
use lib.ListN.{length}
use mir.Val.{bool_byte}
use Rattle.code.specs.Check.{check_of}
use Rattle.refusals.specs.Stages.{inside_of, room_of}
use Rattle.code.specs.Inner.{Valid}
use Rattle.refusals.specs.Answers.{answer_of, refused_of}
use Rattle.refusals.specs.declared.Answer.{Answer}
use Rattle.refusals.specs.declared.Refusal.{Refusal}
use Rattle.refusals.specs.Stages.{Checked}
use Rattle.std.specs.declared.result.Result.TheVariants.{Ok, Err}
use Rattle.code.proofs.Checks.{valid_of}
use Rattle.sections.proofs.Rooms.{before_inside, within, before_room, roomy}
use Rattle.paths.specs.Search.{Says, SearchSettles}
use Rattle.phi_paths.specs.Inner.{PhiRoom}
use Rattle.unread.specs.Answers.{Tells}

module _ (v s : Checked) (e : v ≡ s) (P : Type 0) (m : ℕ) (seen todo : List ℕ) (r : Answer) where
  pub tells_no : (q : Refusal) → v ≡ Err q → r ≡ refused_of q → Tells s P m seen todo r seen todo
  tells_no q h z = rw (sym e ∙ h) (z, refl, refl)

  pub tells : (n x : ℕ) (b : Bool) (seen' todo' : List ℕ) → v ≡ Ok n → SearchSettles P m seen todo b seen' todo' → x ≡ bool_byte b → r ≡ answer_of x 0 0 0
      → Tells s P m seen todo r seen' todo'
  tells n x b seen' todo' h d y z = rw (sym e ∙ h) (b, rw y at z, d)

-- where the tests end in a count, there is room for a search, and the position is in the code
module _ (w seen todo : List ℕ) (n : ℕ) (t u v : Checked) (g : u ≡ room_of t 1 (length seen) (length w / 6 + 1))
    (h : v ≡ room_of u 2 (length todo) (length w / 6 + 1)) (c : v ≡ Ok n) where
  marks_passed : u ≡ Ok n
  marks_passed = before_room n 2 (length todo) (length w / 6 + 1) u v h c

  code_passed : t ≡ Ok n
  code_passed = before_room n 1 (length seen) (length w / 6 + 1) t u g marks_passed

  room : Valid w → PhiRoom w seen todo
  room a =
      record {
        whole = a.whole;
        few = a.few;
        marks = roomy n 1 (length seen) (length w / 6 + 1) t u g marks_passed;
        waiting = roomy n 2 (length todo) (length w / 6 + 1) u v h c;
      }

  pub code_room : t ≡ check_of w → PhiRoom w seen todo
  code_room e = room (valid_of w n t e code_passed)

  module _ (k : ℕ) (s : Checked) (e : s ≡ check_of w) (f : t ≡ inside_of s k) where
    pub place_room : PhiRoom w seen todo
    place_room = room (valid_of w n s e (before_inside n k s t f code_passed))

    pub place_in : k < length w / 6
    place_in = within n k s t f code_passed w e

pub ruleset telling = (tells_no, tells)

says_once : (P : Type 0) (b c : Bool) → Says P b → Says P c → b ≡ c
says_once P true true x y = refl
says_once P true false x y = absurd (y x)
says_once P false true x y = absurd (x y)
says_once P false false x y = refl

-- any two results that a contract of this form allows are equal, with every lent word
pub one_answer : (v : Checked) (P : Type 0) (m : ℕ) (seen todo : List ℕ) (r r' : Answer) (a a' b b' : List ℕ) → Tells v P m seen todo r a b
    → Tells v P m seen todo r' a' b' → (r ≡ r') × (a ≡ a') × (b ≡ b')
one_answer (Err q) P m seen todo r r' a a' b b' x y = (x.0 ∙ sym y.0, x.1 ∙ sym y.1, x.2 ∙ sym y.2)
one_answer (Ok n) P m seen todo r r' a a' b b' (c, x, s) (d, y, t) =
    (x ∙ ap (λ (z : Bool). answer_of (bool_byte z) 0 0 0) (says_once P c d s.says t.says) ∙ sym y, s.marks ∙ sym t.marks, s.waiting ∙ sym t.waiting)
