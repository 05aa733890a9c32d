-- What an instruction touches, from an answer with refusal 0: the bits name the three sets. Assumes nothing.
use mathlib.Core.Path.{◌≡◌, refl, sym, ap, ◌∙◌}
use mathlib.Core.List.{List, ◌++◌}
use Prim.Native.Nat.{ℕ, ◌*◌, ◌/◌}
use native.Mathlib.Omega.{arith}
use Rattle.code.specs.Ins.{ins_at}
use Rattle.code.specs.Check.{check_of}
use Rattle.refusals.specs.Stages.{inside_of}
use Rattle.refusals.specs.Answers.{asked, refused_of}
use Rattle.refusals.specs.declared.Answer.{Answer}
use Rattle.refusals.specs.Stages.{Checked}
use Rattle.std.specs.declared.result.Result.TheVariants.{Ok, Err}
use Rattle.code.specs.declared.Ins.{Ins}
use Rattle.roles.specs.Sets.{from}
use Rattle.touch.specs.Touch.{named, touch_of}
use Rattle.touch.specs.Inner.{Touches}
use Rattle.touch.specs.declared.Touch.{Touch}
use Rattle.touch.proofs.Cases.{touches}
use Rattle.fields.specs.Answers.{touch_told, touch_answer}
use Rattle.exported.specs.Told.{TouchedHolds}
use Rattle.exported.proofs.Answered.{refused_not}

-- a mask's bits from the second on are those of its half, doubled
halved : (m x y z : ℕ) → named (2 * (m / 2)) x y z ≡ named m x y z
halved m x y z = rw (bit_a, bit_b, bit_c)
  where
    bit_a : 2 * (m / 2) / 2 ≡ m / 2
    bit_a = omega arith

    bit_b : 2 * (m / 2) / 4 ≡ m / 4
    bit_b = omega arith

    bit_c : 2 * (m / 2) / 8 ≡ m / 8
    bit_c = omega arith

holds : (i : Ins) (t : Touch) → Touches i t → TouchedHolds i (touch_told t)
holds i t x =
    record {
      used = halved t.used i.a i.b i.c ∙ x.used;
      given = ap (λ (l : List ℕ). l ++ from i.b t.run) (halved t.given i.a i.b i.c) ∙ x.given;
      written = ap (λ (l : List ℕ). l ++ from i.b t.run) (halved t.written i.a i.b i.c) ∙ x.written;
    }

pub touched_holds : (w : List ℕ) (at : ℕ) (r : Answer) → r ≡ touch_answer w at → r.refusal ≡ 0 → TouchedHolds (ins_at w at) r
unfolding touch_answer
touched_holds w at r e z = go (inside_of (check_of w) at) refl
  where
    told : Checked → Answer
    told v = asked v refused_of (touch_told (touch_of (ins_at w at)))

    go : (v : Checked) → inside_of (check_of w) at ≡ v → TouchedHolds (ins_at w at) r
    go (Err q) h = absurd (refused_not q (sym (ap (λ (s : Answer). s.refusal) (e ∙ ap told h)) ∙ z))
    go (Ok n) h = rw (e ∙ ap told h) (holds (ins_at w at) (touch_of (ins_at w at)) (touches (ins_at w at)))
