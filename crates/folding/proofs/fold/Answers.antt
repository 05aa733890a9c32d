-- `folding::fold` meets its contract. Assumes nothing.
use mathlib.Core.Path.{sym}
use Rattle.finish.proofs.Anew.{took}
use Rattle.optimizer.proofs.Whole.{exact_of}
use Rattle.folding.proofs.Call.{held, table_held, refusing, telling}
use Rattle.folding.proofs.fold.Goals as goal

pub returns-in-Err : goal.returns-in-Err
returns-in-Err c = refusing _ _ _ _ _ _ _ _ _ _ _ _ _ c.ready.ensures _ _ _ c.in-Err.is c.from.ensures

pub slice_bounds-constant_fold-end : goal.slice_bounds-constant_fold-end
slice_bounds-constant_fold-end c = (held _ _ _ _ _ _ _ _ _ _ _ _ _ c.ready.ensures _ c.in_default.is).map

pub slice_bounds-constant_fold-end-2 : goal.slice_bounds-constant_fold-end-2
slice_bounds-constant_fold-end-2 c = took _ _ ((held _ _ _ _ _ _ _ _ _ _ _ _ _ c.ready.ensures _ c.in_default.is).map)

pub slice_bounds-constant_fold-end-3 : goal.slice_bounds-constant_fold-end-3
slice_bounds-constant_fold-end-3 c = rw c.sources_needed-sources.ensures (held _ _ _ _ _ _ _ _ _ _ _ _ _ c.ready.ensures _ c.in_default.is).sources

pub slice_bounds-constant_fold-end-4 : goal.slice_bounds-constant_fold-end-4
slice_bounds-constant_fold-end-4 c = took _ _ (rw c.sources_needed-sources.ensures (held _ _ _ _ _ _ _ _ _ _ _ _ _ c.ready.ensures _ c.in_default.is).sources)

pub slice_bounds-constant_fold-end-5 : goal.slice_bounds-constant_fold-end-5
slice_bounds-constant_fold-end-5 c = (held _ _ _ _ _ _ _ _ _ _ _ _ _ c.ready.ensures _ c.in_default.is).stmts

pub slice_bounds-constant_fold-end-6 : goal.slice_bounds-constant_fold-end-6
slice_bounds-constant_fold-end-6 c = took _ _ ((held _ _ _ _ _ _ _ _ _ _ _ _ _ c.ready.ensures _ c.in_default.is).stmts)

pub slice_bounds-constant_fold-end-7 : goal.slice_bounds-constant_fold-end-7
slice_bounds-constant_fold-end-7 c = (held _ _ _ _ _ _ _ _ _ _ _ _ _ c.ready.ensures _ c.in_default.is).calls

pub slice_bounds-constant_fold-end-8 : goal.slice_bounds-constant_fold-end-8
slice_bounds-constant_fold-end-8 c = took _ _ ((held _ _ _ _ _ _ _ _ _ _ _ _ _ c.ready.ensures _ c.in_default.is).calls)

pub slice_bounds-constant_fold-end-9 : goal.slice_bounds-constant_fold-end-9
slice_bounds-constant_fold-end-9 c = (held _ _ _ _ _ _ _ _ _ _ _ _ _ c.ready.ensures _ c.in_default.is).dead

pub slice_bounds-constant_fold-end-10 : goal.slice_bounds-constant_fold-end-10
slice_bounds-constant_fold-end-10 c = took _ _ ((held _ _ _ _ _ _ _ _ _ _ _ _ _ c.ready.ensures _ c.in_default.is).dead)

pub slice_bounds-constant_fold-end-11 : goal.slice_bounds-constant_fold-end-11
slice_bounds-constant_fold-end-11 c = (held _ _ _ _ _ _ _ _ _ _ _ _ _ c.ready.ensures _ c.in_default.is).remap

pub slice_bounds-constant_fold-end-12 : goal.slice_bounds-constant_fold-end-12
slice_bounds-constant_fold-end-12 c = took _ _ ((held _ _ _ _ _ _ _ _ _ _ _ _ _ c.ready.ensures _ c.in_default.is).remap)

pub slice_bounds-constant_fold-end-13 : goal.slice_bounds-constant_fold-end-13
slice_bounds-constant_fold-end-13 c = table_held _ _ _ _ _ _ _ _ _ _ _ _ _ c.ready.ensures _ c.in_default.is

pub slice_bounds-constant_fold-end-14 : goal.slice_bounds-constant_fold-end-14
slice_bounds-constant_fold-end-14 c = took _ _ (table_held _ _ _ _ _ _ _ _ _ _ _ _ _ c.ready.ensures _ c.in_default.is)

pub constant_fold-requires : goal.constant_fold-requires
constant_fold-requires c = (
  exact_of _ _ _ _ _ _ _ _ _ _ _ c.sources_needed-sources.ensures (held _ _ _ _ _ _ _ _ _ _ _ _ _ c.ready.ensures _ c.in_default.is),
  sym (took _ _ (table_held _ _ _ _ _ _ _ _ _ _ _ _ _ c.ready.ensures _ c.in_default.is)),
)

pub returns : goal.returns
returns c =
    telling _ _ _ _ _ _ _ _ _ _ _ _ _ c.ready.ensures _ _ c.in_default.is _ _ _ _ _ _ _ _ _ _ _ _ _ _ c.sources_needed-sources.ensures c.constant_fold.ensures
    c.told.ensures
