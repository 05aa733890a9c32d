-- A report's seven words, and what the exported calls answer and leave in them. Assumes nothing.
use Rattle.std.specs.Prelude.{ℕ, not, List, [], ◌∷◌, eqb, get_or}
use mir.Val.{bool_byte}
use Rattle.std.proofs.lemmas.List.Edits.{sets}
use Rattle.refusals.specs.Answers.{answer_of}
use Rattle.refusals.specs.declared.Answer.{Answer}
use Rattle.groups.specs.Groups.{FiguresAnswer, sums_of}
use Rattle.figures.specs.Figures.{body_of}
use Rattle.groups.specs.declared.Figures.{Figures}
use Rattle.std.specs.declared.result.Result.TheVariants.{Ok, Err}
use Rattle.groups.specs.Answers.{figures_refused}

-- the words: bodies, levels, kept registers, longest list, whether there is a level, and body and position of the first so long
abbrev pub figures_in : List ℕ → Figures
figures_in r = record {
  bodies = get_or r 0 0;
  levels = get_or r 1 0;
  kept = get_or r 2 0;
  longest = get_or r 3 0;
  found = not (eqb (get_or r 4 0) 0);
  body = get_or r 5 0;
  at = get_or r 6 0;
}

-- the seven words of a report that has these figures
abbrev pub report_words : Figures → List ℕ
report_words f = f.bodies ∷ f.levels ∷ f.kept ∷ f.longest ∷ bool_byte f.found ∷ f.body ∷ f.at ∷ []

-- figures written over the words of a report
abbrev pub report_written : Figures → List ℕ → List ℕ
report_written f old = sets old 0 (report_words f)

-- what a call leaves in the report, and what it answers
pub record Reports : Type 0 where
  pub report : List ℕ
  pub answer : Answer

-- these words left in the report, and this answer
abbrev pub reports : List ℕ → Answer → Reports
reports r a = record { report = r; answer = a }

-- new figures are written, and sum and levels of the mean told last; a refusal writes nothing
unfoldable pub reported_of : ℕ → ℕ → List ℕ → FiguresAnswer → Reports
reported_of a b old (Ok f) = reports (report_written f old) (answer_of a b f.kept f.levels)
reported_of a b old (Err r) = reports old (figures_refused r)

-- a body's own figures join the report's: its levels and kept registers are told first
unfoldable pub added_of : List ℕ → FiguresAnswer → Reports
added_of old (Ok g) = reported_of g.levels g.kept old (sums_of (figures_in old) g)
added_of old (Err r) = reports old (figures_refused r)

-- a body is added: its code, its offsets, the length of its list, and the report so far
unfoldable pub add_call : List ℕ → List ℕ → ℕ → List ℕ → Reports
add_call w o len old = added_of old (body_of w o len)

-- two groups joined, the report the earlier
unfoldable pub join_call : List ℕ → List ℕ → Reports
join_call later old = reported_of 0 0 old (sums_of (figures_in old) (figures_in later))
