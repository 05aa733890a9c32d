-- `sets::U32Word/less` meets its contract. Assumes nothing.
use Rattle.flow.proofs.Bits.{and_not}
use Rattle.sets.proofs.U32Word.less.Goals as goal

pub returns : goal.returns
returns c = and_not 32 c.args.self c.args.other c.ranges.self.fits c.ranges.other.fits
