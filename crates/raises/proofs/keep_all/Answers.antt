-- `raises::keep_all` meets its contract. Assumes nothing.
use mathlib.Core.Path.{sym}
use native.Mathlib.Omega.{arith}
use Rattle.kept.proofs.Tests.{accepted_offsets, accepted_few}
use Rattle.raises.proofs.Calls.{part_mul, part_fits, part_long, part_needs, ready, out_short, out_told}
use Rattle.raises.proofs.keep_all.Goals as goal

pub words_for-words-requires : goal.words_for-words-requires
words_for-words-requires c = accepted_few _ _ _ _ _ _ _ c.requires

pub overflow_mul-need : goal.overflow_mul-need
overflow_mul-need c = part_mul _ _ _ c.args.rows.now
    c.args.offsets.now _ c.requires _
    c.words_for-words.ensures

pub slice_bounds-find_raising-end : goal.slice_bounds-find_raising-end
slice_bounds-find_raising-end c = part_fits _ _ _ c.args.rows.now
    c.args.offsets.now _ c.requires _
    c.words_for-words.ensures

pub slice_bounds-find_raising-end-2 : goal.slice_bounds-find_raising-end-2
slice_bounds-find_raising-end-2 c = sym (part_long _ _ _ c.args.rows.now
    c.args.offsets.now _ c.requires _
    c.words_for-words.ensures)

pub find_raising-found-requires : goal.find_raising-found-requires
find_raising-found-requires c = part_needs _ _ _ c.args.rows.now
    c.args.offsets.now _ c.requires _
    c.words_for-words.ensures

pub count_all-total-requires : goal.count_all-total-requires
count_all-total-requires c = ready _ _ _ c.args.rows.now
    c.args.offsets.now _
    c.requires _
    c.words_for-words.ensures c.args.all _ _ _ c.find_raising-found.ensures c.find_raising-found.auto.rows
    (λ j. omega (arith, c.slice_known-4-1.given j))

pub returns-then-list-total : goal.returns-then-list-total
returns-then-list-total c = out_short _ _ _ c.args.rows.now
    c.args.offsets.now _
    c.requires _
    c.words_for-words.ensures
    c.args.all _ _ _
    c.find_raising-found.ensures c.find_raising-found.auto.rows
    c.args.list.now _
    c.count_all-total.ensures.0 c.if-list-total.true

pub each_call-requires : goal.each_call-requires
each_call-requires c = (
  ready _ _ _ c.args.rows.now c.args.offsets.now _ c.requires _ c.words_for-words.ensures
      c.args.all _ _ _
      c.find_raising-found.ensures
      c.find_raising-found.auto.rows
      (λ j. omega (arith, c.slice_known-4-1.given j)),
  accepted_offsets _ _ _ _ _ _ _
      c.requires,
  omega
      (arith, c.count_all-total.ensures.0, c.if-list-total.false),
  omega
      (arith, c.count_all-total.ensures.0, c.count_all-total.ensures.1),
)

pub returns : goal.returns
returns c = out_told _ _ _ c.args.rows.now c.args.offsets.now _ c.requires _ c.words_for-words.ensures c.args.all _ _ _
    c.find_raising-found.ensures
    c.find_raising-found.auto.rows
    c.args.list.now _ c.count_all-total.ensures.0
    c.if-list-total.false _ _ c.each_call.ensures
