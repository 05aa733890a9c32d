-- What the exported figures calls answer where they are refused, by the refusals of document 02. Assumes nothing.
use Rattle.std.specs.Prelude.{ℕ}
use Rattle.refusals.specs.Answers.{refusal_of, refused_of}
use Rattle.refusals.specs.declared.Answer.{Answer}
use Rattle.groups.specs.declared.Total.{Total}
use Rattle.groups.specs.declared.Total.TheVariants.{Bodies, Levels, Kept, Body}
use Rattle.groups.specs.declared.FiguresRefusal.{FiguresRefusal}
use Rattle.groups.specs.declared.FiguresRefusal.TheVariants.{Call, Offsets, Over}

-- the number of a total
abbrev pub total_number : Total → ℕ
total_number Bodies = 1
total_number Levels = 2
total_number Kept = 3
total_number Body = 4

-- the call's own refusal; or 15 and the place, 13 and the total's number
abbrev pub figures_refused : FiguresRefusal → Answer
figures_refused (Call r) = refused_of r
figures_refused (Offsets k) = refusal_of 15 k 0
figures_refused (Over t) = refusal_of 13 (total_number t) 0
