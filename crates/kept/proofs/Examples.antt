-- Sweep counts of small bodies at both widths, computed from the definitions. Assumes nothing.
use mathlib.Core.Path.{◌≡◌, refl}
use mathlib.Core.Bool.{false}
use mathlib.Core.List.{List, [], ◌∷◌, ◌++◌}
use Prim.Native.Nat.{ℕ, suc, ◌-◌}
use native.Mathlib.Nat.{le_refl}
use lib.ListN.{length, replicate}
use Rattle.laws.specs.All.{every, many}
use Rattle.laws.specs.Walk.{first}
use Rattle.ops.specs.Op as op
use Rattle.code.specs.Ins.{count}
use Rattle.code.specs.Rules.{rules}
use Rattle.refusals.specs.Stages.{try_kept, first_bad_try}
use Rattle.code.specs.Check.{check_of}
use Rattle.roles.specs.Kinds.{page, rule_of, kinds_of, has_role, is_jump}
use Rattle.roles.specs.Sets.{cases, case_of, used_by, given_by}
use Rattle.flow.specs.Set as set
use Rattle.flow.specs.Flow as flow
use Rattle.flow.specs.Flow.{row_at}
use Rattle.flow.specs.Sweep.{sweep, below, tally, Again, Sweeps, done, more}
use Rattle.flow.specs.Listed.{listed}
use Rattle.flow.specs.Words.{value, rows_of}
use Rattle.flow.specs.Kept.{handlers_of, added}
use Rattle.flow.proofs.Answer.{again_at, last_same, last_straight}
use Rattle.steps.specs.Level.{is_level, first_level}
use Rattle.steps.specs.Code as code
use Rattle.steps.specs.Code.{store_of, over_pending, past_store, restores, idle, used_at, given_at, after_at, jumps_back}
use Rattle.rows.specs.Route.{route_start}
use Rattle.kept.specs.Level.{resume_of, result_at, kept_at}
use Rattle.kept.specs.Lists.{lists_to, offsets_to}
use Rattle.kept.specs.Answers.{Outcome, stages_of, told}
use Rattle.kept.specs.declared.KeptAnswer.TheVariants.{Is}

-- an instruction without marks: opcode, a, b
abbrev ins : ℕ → ℕ → ℕ → List ℕ
ins o a b = o ∷ 0 ∷ a ∷ b ∷ 0 ∷ 0 ∷ []

-- a jump to itself before the only level
abbrev early : List ℕ
early = ins op.Jump 0 0 ++ ins op.GetAttrR 0 0

-- P5: a loop whose first sweep leaves a row that the second mends
abbrev loop : List ℕ
loop = ins op.Move 1 0 ++ ins op.LenR 2 1 ++ ins op.JumpIfFalseR 4 1 ++ ins op.Jump 0 0 ++ ins op.ReturnR 0 2

abbrev loop_rows : List ℕ
loop_rows = 1 ∷ 3 ∷ 7 ∷ 1 ∷ 4 ∷ 0 ∷ []

-- the call leaves these rows, with the list of the only level at k, and tells these counts of full and of abandoned sweeps
abbrev Sweeping : ℕ → ℕ → List ℕ → List ℕ → ℕ → List ℕ → ℕ → ℕ → Type 0
Sweeping bits regs w rows k list full abandoned =
    Outcome bits w regs [] false (replicate (length rows) 9) (replicate (suc (count w)) 9) (replicate (length list) 9)
    rows (replicate (suc k) 0 ++ replicate (count w - k) (length list)) list (Is (length list) full abandoned)

-- What the calls of both widths tell of these two bodies.
pub record Examples : Type 0 where
  -- 33 registers take the word route at 64 bits, which begins at the level and sweeps once, and the wide one at 32, which begins at 0 and sweeps twice
  pub apart : Sweeping 64 33 early (0 ∷ 1 ∷ 0 ∷ []) 1 [] 1 0 × Sweeping 32 33 early (0 ∷ 0 ∷ 1 ∷ 0 ∷ 0 ∷ 0 ∷ []) 1 [] 2 0
  -- one jump back and three full sweeps, at either width: the bound is met
  pub met : (jumps_back loop ≡ 1) × Sweeping 64 3 loop loop_rows 2 (0 ∷ 1 ∷ 2 ∷ []) 3 1 × Sweeping 32 3 loop loop_rows 2 (0 ∷ 1 ∷ 2 ∷ []) 3 1

pub examples : Examples
unfolding set.minus flow.joined row_at sweep below tally value rows_of first page rule_of kinds_of has_role is_jump cases case_of used_by given_by is_level first_level
    store_of over_pending past_store restores idle used_at given_at after_at route_start listed handlers_of added resume_of result_at kept_at lists_to offsets_to
    stages_of check_of rules first_bad_try try_kept every many
examples = record {
  apart = (
    told refl (record { found = record { sweeps = done straight; left = refl }; long = refl; past = refl }) (le_refl 0),
    told refl (record { found = record { sweeps = two; left = refl }; long = refl; past = refl }) (le_refl 0),
  );
  met = (
    refl,
    told refl (record { found = record { sweeps = three; left = refl }; long = refl; past = refl }) (le_refl 3),
    told refl (record { found = record { sweeps = three; left = refl }; long = refl; past = refl }) (le_refl 3),
  );
}
  where
    straight : ¬ Again (code.flow 33 early) 1 (replicate 3 0)
    straight = last_straight (code.flow 33 early) 1 (replicate 3 0) refl

    two : Sweeps (code.flow 33 early) 0 (replicate 3 0) 2 (0 ∷ 1 ∷ 0 ∷ [])
    two = more (again_at (code.flow 33 early) 0 (replicate 3 0) 1 refl refl) (done (last_same (code.flow 33 early) 0 (0 ∷ 1 ∷ 0 ∷ []) refl))

    three : Sweeps (code.flow 3 loop) 0 (replicate 6 0) 3 loop_rows
    three = more (again_at (code.flow 3 loop) 0 (replicate 6 0) 0 refl refl)
        (more (again_at (code.flow 3 loop) 0 (1 ∷ 2 ∷ 6 ∷ 0 ∷ 4 ∷ 0 ∷ []) 2 refl refl) (done (last_same (code.flow 3 loop) 0 loop_rows refl)))
