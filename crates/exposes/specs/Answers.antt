-- What the lists of frames whose calls raise add: all that the call about it answers and leaves. Assumes nothing.
use Rattle.std.specs.Prelude.{ℕ, ◌≡◌, cond, List, ltb, length}
use Rattle.refusals.specs.Stages.{Checked}
use Rattle.std.specs.declared.result.Result.TheVariants.{Ok, Err}
use Rattle.refusals.specs.declared.Refusal.TheVariants.{Short}
use Rattle.kept.specs.Lists.{over}
use Rattle.nested.specs.Exposed.{exposed}

-- what is exposed of a list stands at the front of `out`, words past it as lent, and is counted; refusal 5 where `out` is shorter than the list
pub record ExposedLeft (plain list old out : List ℕ) (r : Checked) : Type 0 where
  pub answer : r ≡ cond (ltb (length old) (length list)) (Err (Short 1 (length list))) (Ok (length (exposed plain list)))
  pub left : out ≡ cond (ltb (length old) (length list)) old (over (exposed plain list) old)
