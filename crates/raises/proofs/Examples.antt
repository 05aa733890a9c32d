-- The call on small bodies: rows, lists and counts, whole. Assumes nothing.
use mathlib.Core.Path.{refl}
use mathlib.Core.Bool.{false}
use mathlib.Core.List.{List, [], ◌∷◌}
use Prim.Native.Nat.{ℕ}
use native.Mathlib.Nat.{le_refl}
use lib.ListN.{replicate}
use Rattle.laws.specs.All.{every, many}
use Rattle.laws.specs.Walk.{first}
use Rattle.code.specs.Rules.{rules}
use Rattle.refusals.specs.Stages.{try_kept, first_bad_try}
use Rattle.code.specs.Check.{check_of}
use Rattle.roles.specs.Kinds.{page, rule_of, kinds_of, has_role, is_jump}
use Rattle.roles.specs.Sets.{cases, case_of, used_by, given_by}
use Rattle.flow.specs.Set.{minus}
use Rattle.flow.specs.Flow.{joined, row_at}
use Rattle.flow.specs.Sweep.{sweep, below, tally, done, Found}
use Rattle.flow.specs.Listed.{listed}
use Rattle.flow.specs.Words.{value, rows_of}
use Rattle.flow.specs.Kept.{handlers_of, added}
use Rattle.flow.proofs.Answer.{last_straight}
use Rattle.steps.specs.Level.{is_level, first_level}
use Rattle.steps.specs.Code.{store_of, over_pending, past_store, restores, idle, used_at, given_at, after_at}
use Rattle.rows.specs.Route.{route_start}
use Rattle.kept.specs.Level.{resume_of, result_at, kept_at}
use Rattle.kept.specs.Lists.{lists_to, offsets_to}
use Rattle.kept.specs.Answers.{stages_of, told}
use Rattle.kept.specs.declared.KeptAnswer.TheVariants.{Is}
use Rattle.nested.specs.Raising.{raises_at, raising, mays, begins_at}
use Rattle.nested.specs.Bodies.{body, tries, raised}
use Rattle.nested.specs.Inner.{untidy}
use Rattle.raises.specs.Inner.{RaisingOutcome}

-- ---- on the body whose plain lists are not enough: r5 stands in the lists of 2 and of 6; rows are from the first level on, 2

abbrev pub found_rows : List ℕ
found_rows = 0 ∷ 0 ∷ 49 ∷ 32 ∷ 34 ∷ 50 ∷ 50 ∷ 0 ∷ 4 ∷ 32 ∷ 0 ∷ []

pub called_found : Found (raising (mays false body) 6 body tries) (begins_at 6 body) found_rows 1 0
unfolding minus joined row_at sweep below tally value rows_of page rule_of kinds_of has_role is_jump cases case_of used_by given_by store_of over_pending past_store
    restores idle used_at given_at after_at is_level listed handlers_of added raises_at route_start first_level resume_of result_at kept_at lists_to offsets_to stages_of
    check_of rules first_bad_try try_kept first many every
called_found = record { sweeps = done (last_straight (raising (mays false body) 6 body tries) 2 (replicate 11 0) refl); left = refl }

-- ---- Raise, which is no level

-- the call at 1 keeps nothing where only levels raise, and r5 where anything may
pub raise_levels_found : Found (raising (mays false raised) 6 raised (3 ∷ 6 ∷ [])) (begins_at 6 raised) (0 ∷ 0 ∷ 0 ∷ 2 ∷ 2 ∷ 2 ∷ 32 ∷ 0 ∷ []) 1 0
unfolding minus joined row_at sweep below tally value rows_of page rule_of kinds_of has_role is_jump cases case_of used_by given_by store_of over_pending past_store
    restores idle used_at given_at after_at is_level listed handlers_of added raises_at route_start first_level resume_of result_at kept_at lists_to offsets_to stages_of
    check_of rules first_bad_try try_kept first many every
raise_levels_found = record { sweeps = done (last_straight (raising (mays false raised) 6 raised (3 ∷ 6 ∷ [])) 1 (replicate 8 0) refl); left = refl }

-- ---- a mark on ReturnR: the call at 0 keeps r2, which the position after the ReturnR reads

pub marked : RaisingOutcome untidy 3 [] false (replicate 5 9) (replicate 5 9) (replicate 2 9) (4 ∷ 4 ∷ 5 ∷ 4 ∷ 0 ∷ []) (0 ∷ 1 ∷ 1 ∷ 2 ∷ 2 ∷ []) (2 ∷ 2 ∷ [])
    (Is 2 1 0)
unfolding minus joined row_at sweep below tally value rows_of page rule_of kinds_of has_role is_jump cases case_of used_by given_by store_of over_pending past_store
    restores idle used_at given_at after_at is_level listed handlers_of added raises_at route_start first_level resume_of result_at kept_at lists_to offsets_to stages_of
    check_of rules first_bad_try try_kept first many every
marked = told refl (record {
  found = record {
    sweeps = done (last_straight (raising (mays false untidy) 3 untidy []) 0 (replicate 5 0) refl);
    left =
        refl;
  };
  long = refl;
  past = refl;
}) (le_refl 2)
