-- The one value: every promise, by the theorem that proves it. Assumes nothing.
use native.Mathlib.Omega.{arith}
use Rattle.laws.proofs.Mask.{mask_bit}
use Rattle.flow.proofs.Rows.{least_one}
use Rattle.callee.proofs.Tracing.{by_step, left_out}
use Rattle.values.proofs.Division.{divides, one_pair}
use Rattle.values.proofs.Digits.{and_law, or_law, xor_law, one_digits}
use Rattle.values.proofs.Order.{lt_ints, le_ints, eq_ints, ne_ints, eq_z_true, eq_z_same, exact_int, lt_mixed, gt_mixed, eq_mixed}
use Rattle.pool.proofs.Nan.{the_nan, nan_read, nan_kept}
use Rattle.refusals.specs.Answers.{answer_of}
use Rattle.fields.specs.Answers.{kinds_answer, role_answer, field_answer, writes_answer, touch_answer}
use Rattle.roles.proofs.ByTable.{table_is}
use Rattle.touch.proofs.Trapped.{traps}
use Rattle.laid.specs.Answers.{pure_answer}
use Rattle.shapes.specs.Answers.{flat_answer, guarded_answer}
use Rattle.sections.specs.Answers.{returns_answer}
use Rattle.params.specs.Answers.{written_answer}
use Rattle.passed.specs.Answers.{passed_answer}
use Rattle.callee.specs.Answers.{global_answer}
use Rattle.pushes.specs.Answers.{push_answer}
use Rattle.stack.specs.Answers.{stack_answer}
use Rattle.fold.proofs.Landed.{same_folds, still_true}
use Rattle.runs.proofs.Lock.{one_end}
use Rattle.clear.proofs.Kept.{named_by, naming}
use Rattle.refold.proofs.Operators.{operators_same}
use Rattle.refold.proofs.Jumped.{jumped}
use Rattle.refold.proofs.Relent.{relent}
use Rattle.exported.proofs.Answered.{one}
use Rattle.exported.proofs.Writing.{targets_settles, loops_settles, dead_settles, gen_settles, dead_truth, gen_truth}
use Rattle.exported.proofs.Kept.{kept_settles, kept_holds, routes_same}
use Rattle.exported.proofs.Touched.{touched_holds}
use Rattle.paths.proofs.Turns.{once}
use Rattle.seek.proofs.Within.{few_turns}
use Rattle.exported.proofs.Needed.{needed_settles, needed_truth, needed_bit, wide_zero}
use Rattle.exported.proofs.Folded.{fold_settles, pool_kept, tables_kept, tries_kept, landings_true, code_again, none_died}
use Rattle.exported.proofs.Folded.{folds_next, clears_next, folds_cleared, folds_same}
use Rattle.exported.proofs.Origins.{origins_folded, origins_cleared, origins_kept}
use Rattle.exported.proofs.Ran.{runs_kept, rule_left, clears_kept, runs_cleared}
use Rattle.exported.proofs.Cleared.{clear_settles, clear_holds, cleared_twice}
use Rattle.levels.specs.Answers.{level_answer}
use Rattle.answers.proofs.Alone.{one_make, one_enter, one_leave, one_replay, one_exposed}
use Rattle.saved.proofs.Exported as exported
use Rattle.figured.proofs.Exported.{empty_report, add_report, join_report, add_keeps, join_keeps}
use Rattle.figured.proofs.Kept.{kept_added, kept_total}
use Rattle.replays.proofs.Exported.{answered_recorded, recorded_answered, as_run, report, counts, no_report}
use Rattle.sheltered.proofs.Exported.{raising_settles, raising_holds, raising_more, plain_enough, exposed_truth, no_try_shelters}
use Rattle.sheltered.proofs.Saving.{saved_run}
use Rattle.sheltered.proofs.Bodies.{not_enough, enough, raise_kept}
use Rattle.promised.specs.Promised.{Promised}
use Rattle.marked.proofs.Marked.{marked}
use Rattle.promised.proofs.Late.{late}
use Rattle.promised.proofs.Breaks.{plain_breaks}

pub promised : Promised
promised =
    record {
      marked = marked;
      one_kinds = λ w at. one (kinds_answer w at);
      one_role = λ w at. one (role_answer w at);
      one_field = λ w at f. one (field_answer w at f);
      one_writes = λ w at r. one (writes_answer w at r);
      one_touched = λ w at. one (touch_answer w at);
      one_version = one (answer_of 0 2 0 0);
      one_pure = λ w. one (pure_answer w);
      one_flat = λ w. one (flat_answer w);
      one_guarded = λ w. one (guarded_answer w);
      one_returns = λ w at. one (returns_answer w at);
      one_written = λ w arity. one (written_answer w arity);
      one_passed = λ w at arity. one (passed_answer w at arity);
      one_global = λ w at. one (global_answer w at);
      one_push = λ w at r. one (push_answer w at r);
      one_stack = λ w at count. one (stack_answer w at count);
      targets = targets_settles;
      loops = loops_settles;
      dead = dead_settles;
      gen = gen_settles;
      needed = needed_settles;
      kept = kept_settles 64 (omega arith);
      kept32 = kept_settles 32 (omega arith);
      folding = fold_settles;
      clear = clear_settles;
      dead_truth = dead_truth;
      gen_truth = gen_truth;
      mask_bit = mask_bit;
      by_step = by_step;
      left_out = left_out;
      kept_holds = kept_holds;
      routes_same = routes_same;
      least_one = least_one;
      touched_holds = touched_holds;
      touched_traps = traps;
      table_is = table_is;
      needed_truth = needed_truth;
      needed_bit = needed_bit;
      needed_few = few_turns;
      needed_once = λ w seen seen' top k top' j ts e. once ts j e;
      wide_zero = wide_zero;
      divides = divides;
      one_pair = one_pair;
      and_law = and_law;
      or_law = or_law;
      xor_law = xor_law;
      one_digits = one_digits;
      eq_z_true = eq_z_true;
      eq_z_same = eq_z_same;
      lt_ints = lt_ints;
      le_ints = le_ints;
      eq_ints = eq_ints;
      ne_ints = ne_ints;
      exact_int = exact_int;
      lt_mixed = lt_mixed;
      gt_mixed = gt_mixed;
      eq_mixed = eq_mixed;
      the_nan = the_nan;
      nan_read = nan_read;
      nan_kept = nan_kept;
      operators_same = operators_same;
      jumped = jumped;
      fold_pool = pool_kept;
      fold_tables = tables_kept;
      fold_code = code_again;
      fold_idle = none_died;
      folds_next = folds_next;
      clears_next = clears_next;
      uncut = relent;
      folds_cleared = folds_cleared;
      folds_same = folds_same;
      late = late;
      same_folds = same_folds;
      still_true = still_true;
      fold_landings = landings_true;
      fold_tries = tries_kept;
      origins_folded = origins_folded;
      origins_cleared = origins_cleared;
      origins_kept = origins_kept;
      runs_kept = runs_kept;
      rule_left = rule_left;
      clears_kept = clears_kept;
      runs_cleared = runs_cleared;
      one_end = λ code n k s e e' x y. one_end x y;
      plain_breaks = plain_breaks;
      named_by = λ w i k x. named_by w i k x.there x.mark x.is;
      naming = λ w i e. let x = naming w i e in (x.by, record { there = x.there; mark = x.mark; is = x.is });
      clear_holds = clear_holds;
      cleared_twice = cleared_twice;
      one_level = λ w at. one (level_answer w at);
      one_make = one_make;
      one_enter = one_enter;
      one_leave = one_leave;
      saved_return = λ bits w regs tries a k v s t x e. exported.saved_return bits w regs tries x.wide x.before.rows x.before.offsets
          x.before.list
          a.rows a.offsets a.list x.answer x.kept.told x.answered k v x.asked x.heard x.found s x.sound x.same
          e.after e.answer e.entry e.went e.events e.bracketed t e.calls;
      saved_handler = λ bits w regs tries a k v s t x e. exported.saved_handler bits w regs tries x.wide x.before.rows x.before.offsets
          x.before.list
          a.rows a.offsets a.list x.answer x.kept.told x.answered k v x.asked x.heard x.found s x.sound x.same
          e.after e.answer e.entry e.went e.events e.bracketed t e.calls;
      saved_left = λ bits w regs tries a k v s t x e. exported.left bits w regs tries x.wide x.before.rows x.before.offsets x.before.list
          a.rows a.offsets a.list x.answer x.kept.told x.answered k v x.asked x.heard x.found s x.sound x.same
          e.after e.answer e.entry e.went e.events e.bracketed t e.calls;
      saved_fine = λ bits w regs tries a k v s x. exported.list_fine bits w regs tries x.wide x.before.rows x.before.offsets x.before.list
          a.rows a.offsets a.list x.answer x.kept.told x.answered k v x.asked x.heard x.found s x.sound x.same;
      saved_full = λ bits w regs tries a k v s x. exported.no_room bits w regs tries x.wide x.before.rows x.before.offsets x.before.list
          a.rows a.offsets a.list x.answer x.kept.told x.answered k v x.asked x.heard x.found s x.sound x.same;
      saved_room = λ bits w regs tries a k v s x. exported.room bits w regs tries x.wide x.before.rows x.before.offsets x.before.list
          a.rows a.offsets a.list x.answer x.kept.told x.answered k v x.asked x.heard x.found s x.sound x.same;
      saved_none = exported.nine;
      saved_some = exported.not_nine;
      figures_none = empty_report;
      figures_add = add_report;
      figures_join = join_report;
      add_keeps = add_keeps;
      join_keeps = join_keeps;
      figures_kept = λ bits w regs tries wide b r a x z. (
        kept_added bits w regs tries wide b.rows b.offsets b.list a.rows a.offsets a.list r x.told z,
        kept_total bits w regs tries wide b.rows b.offsets b.list a.rows a.offsets a.list r x.told z,
      );
      one_replay = one_replay;
      replay_recorded = answered_recorded;
      replay_answered = recorded_answered;
      replay_run = as_run;
      replay_steps = report;
      replay_reads = counts;
      replay_none = no_report;
      raising = raising_settles;
      one_exposed = one_exposed;
      raising_holds = raising_holds;
      raising_saved = saved_run;
      raising_more = raising_more;
      plain_enough = plain_enough;
      exposed_truth = exposed_truth;
      no_try_shelters = no_try_shelters;
      plain_not_enough = not_enough;
      raising_enough = enough;
      raise_kept = raise_kept;
    }
