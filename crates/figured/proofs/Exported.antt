-- The promises of the figures at the exported calls, each in a sentence. Assumes nothing.
use mathlib.Core.Path.{◌≡◌, refl, sym, ap, ap₂, ◌∙◌}
use mathlib.Core.Logic.{◌≢◌}
use mathlib.Core.Bool.{Bool, true, false, not}
use mathlib.Core.List.{List, [], ◌∷◌, ◌++◌}
use Prim.Native.Nat.{ℕ}
use native.Mathlib.Omega.{arith}
use mir.Val.{bool_byte}
use lib.Dec.{eqb}
use lib.ListN.{length, replicate}
use lib.Seq.{sets-eq, length-sets}
use Rattle.refusals.specs.Answers.{answer_of}
use Rattle.refusals.specs.declared.Answer.{Answer}
use Rattle.groups.specs.Groups.{figures_of, longest_of, sum_of, first_at, sums_of}
use Rattle.figures.specs.Figures.{body_of, body_figures}
use Rattle.figures.specs.Answers.{figures_in, report_words, report_written, Reports, reports, reported_of, added_of, add_call, join_call}
use Rattle.figures.specs.Month.{Body, met_from, report_of, HoldsReport}
use Rattle.groups.specs.declared.Figures.{Figures}
use Rattle.std.specs.declared.result.Result.TheVariants.{Ok, Err}
use Rattle.groups.specs.Groups.{FiguresAnswer}
use Rattle.groups.specs.Answers.{figures_refused}
use Rattle.groups.specs.declared.FiguresRefusal.{FiguresRefusal}
use Rattle.groups.specs.declared.FiguresRefusal.TheVariants.{Call, Offsets, Over}
use Rattle.groups.specs.declared.Total.TheVariants.{Bodies, Levels, Kept, Body as BodyNumber}
use Rattle.figures.proofs.Month.{months, added, body_is}
use Rattle.answers.proofs.Answered.{never_0}

-- what was written is read back
read_back : (f : Figures) (old : List ℕ) → length old ≡ 7 → figures_in (report_written f old) ≡ f
read_back f old e = ap figures_in (sets-eq (report_words f) old 0 (omega arith))
    ∙ ap (λ (t : Bool). record { bodies = f.bodies; levels = f.levels; kept = f.kept; longest = f.longest; found = t; body = f.body; at = f.at })
    (truth f.found)
  where
    truth : (t : Bool) → not (eqb (bool_byte t) 0) ≡ t
    truth true = refl
    truth false = refl

-- no refusal has number 0
never_none : (q : FiguresRefusal) → (figures_refused q).refusal ≡ 0 → ⊥
never_none (Call r) h = never_0 r h
never_none (Offsets k) h = omega arith
never_none (Over Bodies) h = omega arith
never_none (Over Levels) h = omega arith
never_none (Over Kept) h = omega arith
never_none (Over BodyNumber) h = omega arith

-- an answer wrote new figures, a refusal nothing
answered : (a b : ℕ) (old : List ℕ) (v : FiguresAnswer) (new : List ℕ) (r : Answer) → reported_of a b old v ≡ reports new r → r.refusal ≡ 0
    → (f : Figures) × (v ≡ Ok f) × (new ≡ report_written f old) × (r ≡ answer_of a b f.kept f.levels)
unfolding reported_of
answered a b old (Ok f) new r e h = (f, refl, ap (λ (x : Reports). x.report) (sym e), ap (λ (x : Reports). x.answer) (sym e))
answered a b old (Err q) new r e h = absurd (never_none q (ap (λ (x : Reports). x.answer.refusal) e ∙ h))

untouched : (a b : ℕ) (old : List ℕ) (v : FiguresAnswer) (new : List ℕ) (r : Answer) → reported_of a b old v ≡ reports new r → r.refusal ≢ 0 → new ≡ old
unfolding reported_of
untouched a b old (Ok f) new r e h = absurd (h (ap (λ (x : Reports). x.answer.refusal) (sym e)))
untouched a b old (Err q) new r e h = ap (λ (x : Reports). x.report) (sym e)

-- All 0 is the report of no body.
pub empty_report : HoldsReport (replicate 7 0) []
unfolding report_of figures_of met_from longest_of sum_of first_at
empty_report = record { long = refl; is = refl }

-- Joined, the words hold the report of all bodies of both groups; the mean told is theirs.
pub join_report : (xs ys : List Body) (later old new : List ℕ) (r : Answer) → HoldsReport old xs → HoldsReport later ys → join_call later old ≡ reports new r
    → r.refusal ≡ 0
    → HoldsReport new (xs ++ ys) × (r ≡ answer_of 0 0 (report_of (xs ++ ys)).kept (report_of (xs ++ ys)).levels)
unfolding join_call
join_report xs ys later old new r a b e h =
    let (f, p, q, z) = answered 0 0 old (sums_of (figures_in old) (figures_in later)) new r e h in
    let m = months xs ys f (ap₂ sums_of (sym a.is) (sym b.is) ∙ p) in (
      record { long = ap length q ∙ length-sets old 0 (report_words f) ∙ a.long; is = ap figures_in q ∙ read_back f old a.long ∙ m },
      z ∙ ap (λ (x : Figures). answer_of 0 0 x.kept x.levels) m,
    )

-- A body added, the words hold the report of all; its own levels and kept registers are told, then the mean.
pub add_report : (xs : List Body) (w o : List ℕ) (len : ℕ) (old new : List ℕ) (r : Answer) → HoldsReport old xs → add_call w o len old ≡ reports new r
    → r.refusal ≡ 0
    → let all = xs ++ (record { code = w; offsets = o } ∷ []) in
    HoldsReport new all × (r ≡ answer_of (body_figures w o).levels (body_figures w o).kept (report_of all).kept (report_of all).levels)
unfolding add_call added_of
add_report xs w o len old new r a e h = go (body_of w o len) refl e
  where
    all : List Body
    all = xs ++ (record { code = w; offsets = o } ∷ [])

    go : (v : FiguresAnswer) → body_of w o len ≡ v → added_of old v ≡ reports new r
        → HoldsReport new all × (r ≡ answer_of (body_figures w o).levels (body_figures w o).kept (report_of all).kept (report_of all).levels)
    go (Ok g) s u =
        let (f, p, q, z) = answered g.levels g.kept old (sums_of (figures_in old) g) new r u h in
        let m = added xs w o len g f s (ap (λ (x : Figures). sums_of x g) (sym a.is) ∙ p) in (
          record { long = ap length q ∙ length-sets old 0 (report_words f) ∙ a.long; is = ap figures_in q ∙ read_back f old a.long ∙ m },
          z ∙ ap₂ (λ (x y : Figures). answer_of x.levels x.kept y.kept y.levels) (body_is w o len g s) m,
        )
    go (Err q) s u = absurd (never_none q (ap (λ (x : Reports). x.answer.refusal) u ∙ h))

-- A refused call adds nothing: every word of the report is as lent.
pub join_keeps : (later old new : List ℕ) (r : Answer) → join_call later old ≡ reports new r → r.refusal ≢ 0 → new ≡ old
unfolding join_call
join_keeps later old new r e h = untouched 0 0 old (sums_of (figures_in old) (figures_in later)) new r e h

pub add_keeps : (w o : List ℕ) (len : ℕ) (old new : List ℕ) (r : Answer) → add_call w o len old ≡ reports new r → r.refusal ≢ 0 → new ≡ old
unfolding add_call added_of
add_keeps w o len old new r e h = go (body_of w o len) e
  where
    go : (v : FiguresAnswer) → added_of old v ≡ reports new r → new ≡ old
    go (Ok g) u = untouched g.levels g.kept old (sums_of (figures_in old) g) new r u h
    go (Err q) u = ap (λ (x : Reports). x.report) (sym u)
