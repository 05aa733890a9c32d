-- A handler in a group, through the whole call and computed from the definitions. Assumes nothing.
use mathlib.Core.Path.{◌≡◌, refl}
use mathlib.Core.Bool.{true, false}
use mathlib.Core.List.{[], ◌∷◌}
use lib.ListN.{replicate}
use Rattle.ops.specs.Op.{LoadConst, Add}
use Rattle.laws.specs.All.{every, many}
use Rattle.laws.specs.Each.{each}
use Rattle.laws.specs.Some.{some}
use Rattle.laws.specs.Walk.{first}
use Rattle.chunk.specs.Chunk.{folds, chunk_rules, lands}
use Rattle.chunk.specs.Check.{chunk_check_of, tables_of, tally_of, rooms_of, ready_of}
use Rattle.refusals.specs.Stages.{first_bad_try, try_kept}
use Rattle.landings.specs.Landings.{landings_at, landings_of, lands_any, handles, handles_any, barred}
use Rattle.positions.specs.Remap.{remap_of, mapped}
use Rattle.compact.specs.Tables.{moved_operand, left, compacted}
use Rattle.positions.specs.Moved.{placed, moved_all}
use Rattle.phi_pass.specs.Phi.{paired, noop, phi_mark_at, marked, pairs_left, indexed}
use Rattle.values.specs.Folds.{fold_binop, ints, in_range}
use Rattle.pool.specs.Pool.{to_val, const_to_val, find_or_push, find_or_push_const}
use Rattle.fold.specs.Plan.{operator_page, kind_of, prev_live, skips_into, blocked, try_fold_binop, plan_for, plan_at}
use Rattle.fold.specs.Plan as plan
use Rattle.fold.specs.Pass.{const_load, put, landed, applied, try_fold, folded, fold_all}
use Rattle.finish.specs.Finish.{sources_after, renewed, finished}
use Rattle.std.specs.declared.result.Result.TheVariants.{Ok}
use Rattle.optimizer.specs.Fold.{buffers, fold_outcome, fold_pass, constant_fold, joined_buffers, fold_lent, called, rejoined, fold_call}

-- 2 + 3 with the try (0, 2): its handler is the operator, so strict mode leaves all as lent and counts the landing
pub handler_strict : fold_call true
    (buffers (LoadConst ∷ 2 ∷ 0 ∷ 5 ∷ LoadConst ∷ 2 ∷ 1 ∷ 6 ∷ Add ∷ 0 ∷ 0 ∷ 7 ∷ []) (1 ∷ 1 ∷ 9 ∷ []) (2 ∷ 3 ∷ 9 ∷ []) (replicate 3 9) [] [] []
    (replicate 3 9) (replicate 4 9))
    (0 ∷ 2 ∷ []) (replicate 5 9)
    (record { constants = 2; map = 0; sources = 0; stmts = 0; calls = 0 })
    ≡ called
    (fold_outcome (Ok (record { instructions = 3; constants = 2; map = 0; sources = 0 }))
    (buffers (LoadConst ∷ 2 ∷ 0 ∷ 5 ∷ LoadConst ∷ 2 ∷ 1 ∷ 6 ∷ Add ∷ 0 ∷ 0 ∷ 7 ∷ []) (1 ∷ 1 ∷ 9 ∷ []) (2 ∷ 3 ∷ 9 ∷ []) (replicate 3 9) [] [] []
    (replicate 3 0) (replicate 4 9)))
    (0 ∷ 2 ∷ []) (0 ∷ 0 ∷ 1 ∷ 0 ∷ 9 ∷ [])
unfolding fold_call rejoined fold_lent landings_of landings_at moved_all barred lands_any handles_any handles first_bad_try try_kept joined_buffers constant_fold fold_pass
    finished renewed sources_after ready_of tables_of rooms_of tally_of chunk_check_of chunk_rules folds every many each first some remap_of mapped moved_operand left
    compacted placed paired noop phi_mark_at marked pairs_left indexed fold_all folded try_fold applied landed put const_load plan_at plan_for kind_of operator_page
    try_fold_binop prev_live plan.operand_of blocked lands skips_into const_to_val to_val fold_binop ints in_range find_or_push_const find_or_push
handler_strict = refl

-- plain mode folds it, and the handler follows
pub handler_plain : fold_call false
    (buffers (LoadConst ∷ 2 ∷ 0 ∷ 5 ∷ LoadConst ∷ 2 ∷ 1 ∷ 6 ∷ Add ∷ 0 ∷ 0 ∷ 7 ∷ []) (1 ∷ 1 ∷ 9 ∷ []) (2 ∷ 3 ∷ 9 ∷ []) (replicate 3 9) [] [] []
    (replicate 3 9) (replicate 4 9))
    (0 ∷ 2 ∷ []) (replicate 5 9)
    (record { constants = 2; map = 0; sources = 0; stmts = 0; calls = 0 })
    ≡ called
    (fold_outcome (Ok (record { instructions = 1; constants = 3; map = 0; sources = 0 }))
    (buffers (LoadConst ∷ 2 ∷ 2 ∷ 5 ∷ replicate 8 0) (1 ∷ 1 ∷ 1 ∷ []) (2 ∷ 3 ∷ 5 ∷ []) (replicate 3 0) [] [] [] (0 ∷ 1 ∷ 1 ∷ []) (0 ∷ 1 ∷ 1 ∷ 1 ∷ [])))
    (0 ∷ 1 ∷ []) (0 ∷ 1 ∷ 0 ∷ 0 ∷ 9 ∷ [])
unfolding fold_call rejoined fold_lent landings_of landings_at moved_all barred lands_any handles_any handles first_bad_try try_kept joined_buffers constant_fold fold_pass
    finished renewed sources_after ready_of tables_of rooms_of tally_of chunk_check_of chunk_rules folds every many each first some remap_of mapped moved_operand left
    compacted placed paired noop phi_mark_at marked pairs_left indexed fold_all folded try_fold applied landed put const_load plan_at plan_for kind_of operator_page
    try_fold_binop prev_live plan.operand_of blocked lands skips_into const_to_val to_val fold_binop ints in_range find_or_push_const find_or_push
handler_plain = refl
