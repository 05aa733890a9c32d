-- `kept::each_call` meets its contract. Assumes nothing.
use borrow.Author.Rules.{rules}
use Rattle.kept.proofs.Passes.{fillings}
use Rattle.kept.proofs.each_call.Goals as goal

pub loop-k-init : goal.loop-k-init
loop-k-init g c = search (rules, fillings)

pub overflow_cast-offsets : goal.overflow_cast-offsets
overflow_cast-offsets g c = search (rules, fillings)

pub bounds-offsets-k : goal.bounds-offsets-k
bounds-offsets-k g c = search (rules, fillings)

pub keep_at-m-requires : goal.keep_at-m-requires
keep_at-m-requires g c = search (rules, fillings)

pub loop-k-preserved : goal.loop-k-preserved
loop-k-preserved g c = search (rules, fillings)

pub overflow_cast-offsets-2 : goal.overflow_cast-offsets-2
overflow_cast-offsets-2 g c = search (rules, fillings)

pub bounds-offsets-n : goal.bounds-offsets-n
bounds-offsets-n g c = search (rules, fillings)

pub shape_of-offsets : goal.shape_of-offsets
shape_of-offsets g c = search (rules, fillings)

pub shape_of-list : goal.shape_of-list
shape_of-list g c = search (rules, fillings)

pub returns : goal.returns
returns g c = search (rules, fillings)
