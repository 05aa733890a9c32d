-- `saver::enter` meets its contract. Assumes nothing.
use Rattle.saver.proofs.Calls.{enter_fit}
use Rattle.saver.proofs.enter.Goals as goal

pub store-next-requires : goal.store-next-requires
store-next-requires c = enter_fit _ _ c.free_of-free.result c.first_strange-odd.result _
    c.if-regs-gt64.false c.first_strange-odd.ensures c.if-odd-list.false
    c.free_of-free.ensures c.if-free-list.false
