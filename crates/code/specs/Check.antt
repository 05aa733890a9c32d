-- Refusals 1 and 2 of lent code, in document 01's order of test. Assumes nothing.
use Rattle.std.specs.Prelude.{ℕ, ◌%◌, Bool, cond, not, ◌||◌, List, ltb, eqb, length}
use Rattle.laws.specs.Walk.{first}
use Rattle.code.specs.Ins.{ins_at, count}
use Rattle.code.specs.Rules.{rule_at}
use Rattle.refusals.specs.declared.Refusal.TheVariants.{Length, Record}
use Rattle.refusals.specs.Stages.{Checked, inside_of}
use Rattle.refusals.specs.Answers.{asked}
use Rattle.refusals.specs.declared.Refusal.{Refusal}
use Rattle.code.specs.declared.Ins.{Ins}
use Rattle.std.specs.declared.result.Result.{Result}
use Rattle.std.specs.declared.result.Result.TheVariants.{Ok, Err}

-- 1: code length no multiple of its stride, or too many instructions
abbrev pub uneven : List ℕ → Bool
uneven w = not (eqb (length w % 6) 0) || ltb 65535 (count w)

-- the first instruction that breaks a record rule, else n
abbrev pub first_bad : List ℕ → ℕ
first_bad w = first (λ k. not (rule_at w k)) 0 (count w)

-- 1, then 2: the first position that breaks a record rule
unfoldable pub check_of : List ℕ → Checked
check_of w =
    cond (uneven w) (Err (Length (length w)))
    (cond (ltb (first_bad w) (count w)) (Err (Record (first_bad w)))
    (Ok (count w)))

-- the instruction at a position, after 1, 2 and 6
abbrev pub instruction_of : List ℕ → ℕ → Result Ins Refusal
instruction_of w k = asked (inside_of (check_of w) k) Err (Ok (ins_at w k))
