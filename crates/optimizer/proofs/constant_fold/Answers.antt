-- `optimizer::constant_fold` meets its contract. Assumes nothing.
use Rattle.optimizer.proofs.Whole.{fit_of, folds_all, mapped_after, lends}
use Rattle.optimizer.proofs.constant_fold.Goals as goal

pub finish-after-requires : goal.finish-after-requires
finish-after-requires c = fit_of _ _ _ _ _ _ _ _ _ _ _ _ _ _ _ _ c.requires.0 c.fold_pass-constants.ensures

pub move_tries-requires : goal.move_tries-requires
move_tries-requires c = mapped_after _ _ _ _ _ _ _ _ _ c.finish-after.ensures

pub returns : goal.returns
returns c = lends _ _ _ _ _ _ _ _ _ _ _ _ _ _ _ _ _ _ _ _ _ _ _ _ _ c.requires.0
    c.fill.ensures
    (folds_all _ _ _ _ _ _ _ _ _ _ _ _ _ _ _ _ _ _ _ _ _ _ _ _ c.fold_pass-constants.ensures
    c.finish-after.ensures) c.move_tries.ensures c.fill-2.ensures
