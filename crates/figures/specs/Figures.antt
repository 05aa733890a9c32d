-- The figures of one body, with its answer from the kept-register call, and what it is refused for (document 02, wish 12). Assumes nothing.
use Rattle.std.specs.Prelude.{ℕ, zero, suc, ◌+◌, ◌-◌, cond, List, [], ◌∷◌, ◌++◌, ltb, length, get_or}
use Rattle.code.specs.Ins.{ins_at, count}
use Rattle.code.specs.Check.{check_of}
use Rattle.refusals.specs.Stages.{Checked}
use Rattle.std.specs.declared.result.Result.TheVariants.{Ok, Err}
use Rattle.refusals.specs.declared.Refusal.TheVariants.{Short}
use Rattle.steps.specs.Level.{is_level}
use Rattle.offsets.specs.Offsets.{first_wrong}
use Rattle.groups.specs.declared.Figures.{Figures}
use Rattle.groups.specs.declared.FiguresRefusal.TheVariants.{Call, Offsets}
use Rattle.groups.specs.Groups.{FiguresAnswer, Met, met, figures_of}

-- the list of place k: from its offset to the next
abbrev pub len_at : List ℕ → ℕ → ℕ
len_at o k = get_or o (k + 1) 0 - get_or o k 0

-- the levels among the first m positions of a body, in order
unfoldable pub levels_to : List ℕ → List ℕ → ℕ → List Met
levels_to w o zero = []
levels_to w o (suc m) = levels_to w o m ++ cond (is_level (ins_at w m)) (met 0 m (len_at o m) ∷ []) []

-- the figures of one body by itself: of all its levels, with their lists as the offsets have them
unfoldable pub body_figures : List ℕ → List ℕ → Figures
body_figures w o = figures_of 1 (levels_to w o (count w))

-- One body: 1, 2, 5 for offsets shorter than n + 1, 15 with the first place; else its figures.
unfoldable pub placed_of : List ℕ → List ℕ → ℕ → FiguresAnswer
placed_of w o len =
    cond (ltb (length o) (count w + 1)) (Err (Call (Short 1 (count w + 1))))
    (cond (ltb (first_wrong w o len) (count w + 1)) (Err (Offsets (first_wrong w o len)))
    (Ok (body_figures w o)))

-- a body whose code was tested: a refusal of the code comes first, then what its offsets lead to
abbrev pub after_check : List ℕ → List ℕ → ℕ → Checked → FiguresAnswer
after_check w o len (Err r) = Err (Call r)
after_check w o len (Ok n) = placed_of w o len

-- one body, its offsets and the length of its list: its figures, or what it is refused for
unfoldable pub body_of : List ℕ → List ℕ → ℕ → FiguresAnswer
body_of w o len = after_check w o len (check_of w)
