-- Why refolding asks where operands stand, and P13 cleared, computed from the definitions. Assumes nothing.
use mathlib.Core.Path.{refl}
use Rattle.laws.specs.All.{every, many}
use Rattle.laws.specs.Each.{each}
use Rattle.laws.specs.Some.{some}
use Rattle.laws.specs.Walk.{first}
use Rattle.values.specs.Folds.{in_range, ints, fold_binop}
use Rattle.pool.specs.Pool.{to_val, const_to_val, find_or_push, find_or_push_const}
use Rattle.chunk.specs.Chunk.{folds, chunk_rules, lands}
use Rattle.chunk.specs.Check.{chunk_check_of, tables_of, tally_of, rooms_of, ready_of}
use Rattle.refusals.specs.Stages.{first_bad_try}
use Rattle.landings.specs.Landings.{barred}
use Rattle.fold.specs.Plan as plan
use Rattle.fold.specs.Plan.{kind_of, prev_live, skips_into, blocked, try_fold_binop, plan_for, plan_at}
use Rattle.fold.specs.Pass.{const_load, mark_of, put, landed, applied, try_fold, folded, fold_all}
use Rattle.positions.specs.Remap.{remap_of, mapped}
use Rattle.compact.specs.Tables.{moved_operand, left, compacted}
use Rattle.positions.specs.Moved.{placed}
use Rattle.phi_pass.specs.Phi.{paired, noop, phi_mark_at, marked, pairs_left, indexed}
use Rattle.finish.specs.Finish.{sources_after, renewed, finished}
use Rattle.optimizer.specs.Fold.{fold_pass, constant_fold, joined_buffers, fold_lent, rejoined, fold_call}
use Rattle.named.specs.Unused as unused
use Rattle.named.specs.Unused.{constant_named, pooled, renumbered, recoded, numbered}
use Rattle.clear.specs.Clear as clearing
use Rattle.clear.specs.Clear.{cleared, clear_call}
use Rattle.promised.specs.Late.{Late}

pub late : Late
unfolding every many each some first in_range ints fold_binop to_val const_to_val find_or_push find_or_push_const folds chunk_rules chunk_check_of tables_of tally_of rooms_of
    ready_of plan.operator_page plan.operand_of kind_of prev_live lands skips_into blocked try_fold_binop plan_for plan_at const_load mark_of put landed applied try_fold
    folded fold_all remap_of mapped moved_operand left compacted placed paired noop phi_mark_at marked pairs_left indexed sources_after renewed finished fold_pass
    constant_fold joined_buffers fold_lent rejoined fold_call first_bad_try barred unused.packed_list unused.renamed_operand constant_named pooled renumbered recoded
    numbered clearing.clear_ready_of cleared clear_call
late = record { uncleared = refl; cleared = refl; refolded = refl; p13 = refl }
