-- `values::int_divmod` meets its contract: the quotient toward 0, turned where what is left has the wrong sign, satisfies the law of floor division. Assumes
-- nothing.
use Rattle.values.proofs.Division.{kept, turned}
use Rattle.values.proofs.Word.{back, zero_bits, bits_up, same_divmod, quot_fits, rem_fits, quot_less_fits, rem_more_fits}
use Rattle.values.proofs.int_divmod.Goals as goal

pub returns-then-r-b : goal.returns-then-r-b
returns-then-r-b c =
    let a = c.args.a in
    let d = c.args.b in
    let n = bits_up c.ranges.b c.if-b-eq0.false in
    rw (
      back c.ranges.a,
      back c.ranges.b,
      back (quot_fits a d c.requires.0 c.requires.1),
      back (rem_fits a d c.requires.0 c.requires.1),
      back (quot_less_fits a d c.requires.0 c.requires.1),
      back (rem_more_fits a d c.requires.0 c.requires.1),
    )
    (same_divmod a d _ _ n (turned a d n (rw (back c.ranges.a, back c.ranges.b, back (rem_fits a d c.requires.0 c.requires.1), zero_bits (rem_fits a d c.requires.0 c.requires.1)) at c.if-r-b.true)))

pub returns-else-r-b : goal.returns-else-r-b
returns-else-r-b c =
    let a = c.args.a in
    let d = c.args.b in
    let n = bits_up c.ranges.b c.if-b-eq0.false in
    rw (back c.ranges.a, back c.ranges.b, back (quot_fits a d c.requires.0 c.requires.1), back (rem_fits a d c.requires.0 c.requires.1))
    (same_divmod a d _ _ n (kept a d n (rw (back c.ranges.a, back c.ranges.b, back (rem_fits a d c.requires.0 c.requires.1), zero_bits (rem_fits a d c.requires.0 c.requires.1)) at c.if-r-b.false)))
