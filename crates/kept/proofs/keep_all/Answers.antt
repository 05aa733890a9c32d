-- `kept::keep_all` meets its contract. Assumes nothing.
use mathlib.Core.Path.{sym, subst, ◌∙◌}
use mathlib.Core.List.{List}
use Prim.Native.Nat.{ℕ}
use native.Mathlib.Omega.{arith}
use Rattle.flow.specs.Words.{Small}
use Rattle.refusals.specs.declared.Refusal.TheVariants.{Short}
use Rattle.kept.specs.declared.KeptAnswer.TheVariants.{Is, No}
use Rattle.kept.specs.Answers.{Outcome}
use Rattle.kept.specs.Inner.{LevelsRoom}
use Rattle.kept.proofs.Tests.{accepted_offsets, accepted_few, accepted_valid}
use Rattle.kept.proofs.Calls.{take_nums, part_nums, whole_nums, new_nums, part_mul, part_fits, part_long, part_whole, ready, new_long, out_short, out_told}
use Rattle.kept.proofs.keep_all.Goals as goal

pub words_for-words-requires : goal.words_for-words-requires
words_for-words-requires g c = accepted_few _ _ _ _ _ _ _ c.requires

pub overflow_mul-need : goal.overflow_mul-need
overflow_mul-need g c = part_mul _ _ g.met.W.Word.width _ _ _ (g.W.Word.nums c.args.rows.now) c.args.offsets.now _ c.requires _ c.words_for-words.ensures

pub slice_bounds-find_rows-end : goal.slice_bounds-find_rows-end
slice_bounds-find_rows-end g c = omega (
  arith,
  g.met.W.Word.numbered.long c.args.rows.now,
  part_fits _ _ g.met.W.Word.width _ _ _
      (g.W.Word.nums c.args.rows.now) c.args.offsets.now _ c.requires _ c.words_for-words.ensures,
)

pub slice_bounds-find_rows-end-2 : goal.slice_bounds-find_rows-end-2
slice_bounds-find_rows-end-2 g c = sym (take_nums g.met.W.Word.numbered _ c.args.rows.now ∙ part_long _ _ g.met.W.Word.width _ _ _
    (g.W.Word.nums c.args.rows.now) c.args.offsets.now _ c.requires _ c.words_for-words.ensures)

pub find_rows-found-requires : goal.find_rows-found-requires
find_rows-found-requires g c = (
  accepted_valid _ _ _ _ _ _ _ c.requires,
  accepted_few _ _ _ _ _ _ _ c.requires,
  take_nums g.met.W.Word.numbered _ c.args.rows.now ∙ part_whole _ _ g.met.W.Word.width _ _ _
      (g.W.Word.nums c.args.rows.now) c.args.offsets.now _ c.requires _ c.words_for-words.ensures,
)

pub count_all-total-requires : goal.count_all-total-requires
count_all-total-requires g c =
    subst (λ (l : List ℕ). LevelsRoom g.W.Word.BITS g.W.Word.WORDS c.args.regs c.args.code.now c.words_for-words.result l) (sym (whole_nums
    g.met.W.Word.numbered _ c.args.rows.now c.find_rows-found.new.rows))
    (ready _ _ g.met.W.Word.width _ _ _ (g.W.Word.nums c.args.rows.now) c.args.offsets.now _ c.requires _ c.words_for-words.ensures
    _ (g.W.Word.nums c.find_rows-found.new.rows) _ _ c.find_rows-found.ensures
    (part_nums g.met.W.Word.numbered _ c.args.rows.now c.find_rows-found.new.rows c.find_rows-found.auto.rows)
    (subst (λ (l : List ℕ). Small g.W.Word.BITS l) (whole_nums g.met.W.Word.numbered _ c.args.rows.now c.find_rows-found.new.rows) c.bounded.ensures))

pub shape_of-rows-then-list-total : goal.shape_of-rows-then-list-total
shape_of-rows-then-list-total g c = new_nums g.met.W.Word.numbered _ c.args.rows.now c.find_rows-found.new.rows (new_long _ _ g.met.W.Word.width _ _ _
    (g.W.Word.nums c.args.rows.now) c.args.offsets.now _ c.requires _ c.words_for-words.ensures
    _ (g.W.Word.nums c.find_rows-found.new.rows) _ _ c.find_rows-found.ensures
    (part_nums g.met.W.Word.numbered _ c.args.rows.now c.find_rows-found.new.rows c.find_rows-found.auto.rows))

pub returns-then-list-total : goal.returns-then-list-total
returns-then-list-total g c = subst (λ (l : List ℕ). Outcome g.W.Word.BITS c.args.code.now c.args.regs c.args.tries.now c.args.wide (g.W.Word.nums c.args.rows.now)
    c.args.offsets.now c.args.list.now l c.args.offsets.now c.args.list.now (No (Short 3 c.count_all-total.result))) (sym (whole_nums
    g.met.W.Word.numbered _ c.args.rows.now c.find_rows-found.new.rows))
    (out_short _ _ g.met.W.Word.width _ _ _ (g.W.Word.nums c.args.rows.now) c.args.offsets.now _ c.requires _ c.words_for-words.ensures
    _ (g.W.Word.nums c.find_rows-found.new.rows) _ _ c.find_rows-found.ensures
    (part_nums g.met.W.Word.numbered _ c.args.rows.now c.find_rows-found.new.rows c.find_rows-found.auto.rows)
    c.args.list.now _ (rw (whole_nums g.met.W.Word.numbered _ c.args.rows.now c.find_rows-found.new.rows) at c.count_all-total.ensures.0) c.if-list-total.true)

pub each_call-requires : goal.each_call-requires
each_call-requires g c = (
  subst (λ (l : List ℕ). LevelsRoom g.W.Word.BITS g.W.Word.WORDS c.args.regs c.args.code.now c.words_for-words.result l) (sym (whole_nums
      g.met.W.Word.numbered _ c.args.rows.now c.find_rows-found.new.rows))
      (ready _ _ g.met.W.Word.width _ _ _ (g.W.Word.nums c.args.rows.now) c.args.offsets.now _ c.requires _ c.words_for-words.ensures
      _ (g.W.Word.nums c.find_rows-found.new.rows) _ _ c.find_rows-found.ensures
      (part_nums g.met.W.Word.numbered _ c.args.rows.now c.find_rows-found.new.rows c.find_rows-found.auto.rows)
      (subst (λ (l : List ℕ). Small g.W.Word.BITS l) (whole_nums g.met.W.Word.numbered _ c.args.rows.now c.find_rows-found.new.rows) c.bounded.ensures)),
  accepted_offsets _ _ _ _ _ _ _ c.requires,
  omega (arith, c.count_all-total.ensures.0, c.if-list-total.false),
  omega (arith, c.count_all-total.ensures.0, c.count_all-total.ensures.1),
)

pub shape_of-rows : goal.shape_of-rows
shape_of-rows g c = new_nums g.met.W.Word.numbered _ c.args.rows.now c.find_rows-found.new.rows (new_long _ _ g.met.W.Word.width _ _ _
    (g.W.Word.nums c.args.rows.now) c.args.offsets.now _ c.requires _ c.words_for-words.ensures
    _ (g.W.Word.nums c.find_rows-found.new.rows) _ _ c.find_rows-found.ensures
    (part_nums g.met.W.Word.numbered _ c.args.rows.now c.find_rows-found.new.rows c.find_rows-found.auto.rows))

pub shape_of-offsets : goal.shape_of-offsets
shape_of-offsets g c = c.each_call.auto.offsets

pub shape_of-list : goal.shape_of-list
shape_of-list g c = c.each_call.auto.list

pub returns : goal.returns
returns g c = subst (λ (l : List ℕ). Outcome g.W.Word.BITS c.args.code.now c.args.regs c.args.tries.now c.args.wide (g.W.Word.nums c.args.rows.now)
    c.args.offsets.now c.args.list.now l c.each_call.new.offsets c.each_call.new.list
    (Is c.count_all-total.result c.find_rows-found.result.full c.find_rows-found.result.abandoned)) (sym (whole_nums
    g.met.W.Word.numbered _ c.args.rows.now c.find_rows-found.new.rows))
    (out_told _ _ g.met.W.Word.width _ _ _ (g.W.Word.nums c.args.rows.now) c.args.offsets.now _ c.requires _ c.words_for-words.ensures
    _ (g.W.Word.nums c.find_rows-found.new.rows) _ _ c.find_rows-found.ensures
    (part_nums g.met.W.Word.numbered _ c.args.rows.now c.find_rows-found.new.rows c.find_rows-found.auto.rows)
    c.args.list.now _ (rw (whole_nums g.met.W.Word.numbered _ c.args.rows.now c.find_rows-found.new.rows) at c.count_all-total.ensures.0)
    c.if-list-total.false _ _ (rw (whole_nums g.met.W.Word.numbered _ c.args.rows.now c.find_rows-found.new.rows) at c.each_call.ensures))
