-- A call that fills a buffer answers by what its tests found. Assumes nothing.
use mathlib.Core.Path.{◌≡◌, refl, sym, ◌∙◌}
use mathlib.Core.List.{List}
use Prim.Native.Nat.{ℕ}
use Rattle.laws.specs.Table.{filled_to}
use Rattle.refusals.specs.Answers.{answer_of, refused_of}
use Rattle.refusals.specs.declared.Answer.{Answer}
use Rattle.refusals.specs.declared.Refusal.{Refusal}
use Rattle.refusals.specs.Stages.{Checked}
use Rattle.std.specs.declared.result.Result.TheVariants.{Ok, Err}
use Rattle.refusals.proofs.Answers.{refused, told}
use Rattle.surveys.specs.Answers.{Fills}

module _ (v s : Checked) (e : v ≡ s) (m : ℕ) (f : ℕ → ℕ) (out : List ℕ) (r : Answer) where
  pub not_filled : (q : Refusal) → v ≡ Err q → r ≡ refused_of q → Fills s m f out r out
  not_filled q h z =
      record {
        answer = refused v s e refused_of (answer_of 0 0 0 0) q r h z;
        words = refused v s e (λ _. out) (filled_to f m out) q out h refl;
      }

  pub all_filled : (n : ℕ) (out' : List ℕ) → v ≡ Ok n → out' ≡ filled_to f m out → r ≡ answer_of 0 0 0 0 → Fills s m f out r out'
  all_filled n out' h g z =
      record {
        answer = told v s e refused_of (answer_of 0 0 0 0) n r h z;
        words = told v s e (λ _. out) (filled_to f m out) n out' h g;
      }

pub ruleset filling = (not_filled, all_filled)

-- any two results that the contract of `targets` or `loops_around` allows are equal, with every lent word
pub one_filling : (v : Checked) (m : ℕ) (f : ℕ → ℕ) (out : List ℕ) (r r' : Answer) (a a' : List ℕ) → Fills v m f out r a → Fills v m f out r' a' → (r ≡ r')
    × (a ≡ a')
one_filling v m f out r r' a a' x y = (x.answer ∙ sym y.answer, x.words ∙ sym y.words)
