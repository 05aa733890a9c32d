-- `kept::kept` meets its contract. Assumes nothing.
use Rattle.kept.proofs.Calls.{go_on, go_no}
use Rattle.kept.proofs.kept.Goals as goal

pub keep_all-requires : goal.keep_all-requires
keep_all-requires g c = go_on _ _ _ _ (g.W.Word.nums c.args.rows.now) _ _ (rw (← g.met.W.Word.numbered.long c.args.rows.now) at c.stages-v.ensures) _ c.in-Ok.is

pub returns-in-Err : goal.returns-in-Err
returns-in-Err g c = go_no _ _ _ _ _ _ _ (rw (← g.met.W.Word.numbered.long c.args.rows.now) at c.stages-v.ensures) _ c.in-Err.is _ _
