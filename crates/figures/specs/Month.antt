-- A group of bodies, each with its answer from the kept-register call, and its report. Assumes nothing.
use Rattle.std.specs.Prelude.{ℕ, suc, List, [], ◌∷◌, ◌++◌, ◌≡◌, length}
use Rattle.code.specs.Ins.{count}
use Rattle.groups.specs.declared.Figures.{Figures}
use Rattle.groups.specs.Groups.{Met, moved, figures_of}
use Rattle.figures.specs.Figures.{levels_to}
use Rattle.figures.specs.Answers.{figures_in}

-- one body of a group: its code, and the offsets of its kept lists
pub record Body : Type 0 where
  pub code : List ℕ
  pub offsets : List ℕ

-- every level of every body, in order; the first body has number b
unfoldable pub met_from : ℕ → List Body → List Met
met_from b [] = []
met_from b (x ∷ xs) = moved b (levels_to x.code x.offsets (count x.code)) ++ met_from (suc b) xs

-- the report of all
unfoldable pub report_of : List Body → Figures
report_of bs = figures_of (length bs) (met_from 0 bs)

-- seven words that hold the report of these bodies
pub record HoldsReport (report : List ℕ) (bs : List Body) : Type 0 where
  pub long : length report ≡ 7
  pub is : figures_in report ≡ report_of bs
