-- The one theorem: every marked example holds, computed from the definitions. Assumes nothing.
use mathlib.Core.Path.{refl}
use mathlib.Core.Bool.{false}
use mathlib.Core.List.{[], ◌∷◌}
use borrow.Author.Tests.{leb-true}
use lib.ListN.{replicate}
use lib.Ieee.{of_bits, to_bits, div, of_int, neg, eq}
use Rattle.laws.specs.All.{every, many}
use Rattle.laws.specs.Each.{each}
use Rattle.laws.specs.Some.{some}
use Rattle.laws.specs.Walk.{first}
use Rattle.code.specs.Rules.{rules}
use Rattle.refusals.specs.Stages.{try_kept, first_bad_try}
use Rattle.code.specs.Check.{check_of}
use Rattle.roles.specs.Kinds.{page, rule_of, kinds_of, has_role, is_jump}
use Rattle.roles.specs.Sets.{cases, case_of, used_by, given_by, writes}
use Rattle.flow.specs.Set as set
use Rattle.flow.specs.Flow as flow
use Rattle.flow.specs.Flow.{row_at}
use Rattle.flow.specs.Sweep.{sweep, below, tally, Sweeps, done, more}
use Rattle.flow.specs.Listed.{listed}
use Rattle.flow.specs.Words.{value, rows_of}
use Rattle.flow.specs.Kept.{handlers_of, added}
use Rattle.flow.proofs.Answer.{again_at, last_same, last_straight}
use Rattle.steps.specs.Level.{is_level, first_level}
use Rattle.steps.specs.Code as code
use Rattle.steps.specs.Code.{store_of, over_pending, past_store, restores, idle, used_at, given_at, after_at}
use Rattle.rows.specs.Route.{route_start}
use Rattle.kept.specs.Level.{resume_of, result_at, kept_at}
use Rattle.kept.specs.Lists.{lists_to, offsets_to}
use Rattle.kept.specs.Answers.{stages_of, refused, told}
use Rattle.kept.specs.Inner.{Scratch}
use Rattle.callee.specs.Trace.{says_at, sets_it, passes_by, traced_by, traced, global_of}
use Rattle.callee.specs.Answers.{global_answer}
use Rattle.values.specs.Python.{floor_div, floor_mod, down_div, down_mod, shift_up}
use Rattle.values.specs.Folds.{in_range, divmod, quotient, remainder, shifted, ints, floats, fold_binop, fold_neg}
use Rattle.pool.specs.Pool.{to_val, const_to_val, find_or_push, find_or_push_const}
use Rattle.chunk.specs.Chunk.{folds, chunk_rules, lands}
use Rattle.chunk.specs.Check.{chunk_check_of, tables_of, tally_of, rooms_of, ready_of}
use Rattle.fold.specs.Plan as plan
use Rattle.landings.specs.Landings.{lands_any, handles_any, barred}
use Rattle.fold.specs.Plan.{kind_of, prev_live, skips_into, blocked, fold_unary, try_fold_binop, try_fold_unary, plan_for, plan_at}
use Rattle.fold.specs.Pass.{const_load, put, landed, applied, try_fold, folded, fold_all}
use Rattle.positions.specs.Remap.{remap_of, mapped}
use Rattle.compact.specs.Tables.{moved_operand, left, compacted}
use Rattle.positions.specs.Moved.{placed}
use Rattle.phi_pass.specs.Phi.{paired, noop, phi_mark_at, marked as phis_marked, pairs_left, indexed}
use Rattle.finish.specs.Finish.{sources_after, renewed, finished}
use Rattle.optimizer.specs.Fold.{fold_pass, constant_fold, joined_buffers, fold_lent, rejoined, fold_call}
use Rattle.marked.specs.Marked.{K, rows_k, code4, code5, code6, room, Marked}

pub marked : Marked
unfolding set.minus flow.joined row_at sweep below tally value rows_of first page rule_of kinds_of has_role is_jump cases case_of used_by given_by is_level first_level
    store_of over_pending past_store restores idle used_at given_at after_at route_start listed handlers_of added resume_of result_at kept_at lists_to offsets_to stages_of
    check_of rules first_bad_try try_kept global_answer global_of traced traced_by says_at sets_it passes_by writes fold_binop fold_neg ints floats divmod quotient
    remainder shifted in_range floor_div floor_mod down_div down_mod shift_up div of_int eq neg of_bits to_bits fold_call rejoined fold_lent handles_any barred
    joined_buffers constant_fold fold_pass finished renewed sources_after ready_of tables_of rooms_of tally_of chunk_check_of chunk_rules folds every many each some
    remap_of mapped moved_operand left compacted placed paired noop phi_mark_at phis_marked pairs_left indexed fold_all folded try_fold applied landed put const_load
    plan_at plan_for kind_of plan.operator_page try_fold_binop try_fold_unary fold_unary prev_live plan.operand_of blocked lands skips_into lands_any const_to_val to_val
    find_or_push_const find_or_push
marked =
    record {
      p1 = (told refl held (leb-true _ _ refl), refl);
      p2 = told refl held (leb-true _ _ refl);
      p2' = told refl held (leb-true _ _ refl);
      p3 = (told refl held (leb-true _ _ refl), λ rows offsets list. refused refl, told refl held (leb-true _ _ refl));
      p4 = (
        told refl (record {
          found = record { sweeps = done (last_straight (code.flow 64 code4) 0 (replicate 4 0) refl); left = refl };
          long = refl;
          past = refl;
        }) (leb-true _ _ refl),
        told refl (record {
          found = record { sweeps = done (last_straight (code.flow 65 code4) 0 (replicate 4 0) refl); left = refl };
          long = refl;
          past = refl;
        }) (leb-true _ _ refl),
      );
      p5 = told refl (record { found = record { sweeps = three; left = refl }; long = refl; past = refl }) (leb-true _ _ refl);
      p6 = told refl (record {
        found = record { sweeps = done (last_straight (code.flow 6 code6) 1 (replicate 6 0) refl); left = refl };
        long = refl;
        past =
            refl;
      }) (leb-true _ _ refl);
      p7 = (refl, refl, refl);
      p8 = (refl, refl);
      p9 = (refl, refl);
      p10 = refl;
      p11 = (refl, refl);
      p12 = refl;
      p13 = (refl, refl);
    }
  where
    -- K's rows after one sweep, whatever the tries
    held : Scratch 64 false 4 K (room 7) rows_k 1 0
    held = record { found = record { sweeps = done (last_straight (code.flow 4 K) 2 (replicate 7 0) refl); left = refl }; long = refl; past = refl }

    -- P5: the first sweep leaves row 2 as 6, the second mends it, the third changes nothing
    three : Sweeps (code.flow 3 code5) 0 (replicate 6 0) 3 (1 ∷ 3 ∷ 7 ∷ 1 ∷ 4 ∷ 0 ∷ [])
    three = more (again_at (code.flow 3 code5) 0 (replicate 6 0) 0 refl refl)
        (more (again_at (code.flow 3 code5) 0 (1 ∷ 2 ∷ 6 ∷ 0 ∷ 4 ∷ 0 ∷ []) 2 refl refl)
        (done (last_same (code.flow 3 code5) 0 (1 ∷ 3 ∷ 7 ∷ 1 ∷ 4 ∷ 0 ∷ []) refl)))
