-- What only the inside of `touch` needs: contracts of inner functions and proofs cite it, no promise does. Assumes nothing.
use Rattle.std.specs.Prelude.{◌≡◌, ◌++◌}
use Rattle.code.specs.declared.Ins.{Ins}
use Rattle.roles.specs.Sets.{from, used_by, given_by}
use Rattle.touch.specs.declared.Touch.{Touch}
use Rattle.touch.specs.Touch.{named, written_by}

-- the masks name the registers of the three sets
pub record Touches (i : Ins) (t : Touch) : Type 0 where
  pub used : named t.used i.a i.b i.c ≡ used_by i
  pub given : named t.given i.a i.b i.c ++ from i.b t.run ≡ given_by i
  pub written : named t.written i.a i.b i.c ++ from i.b t.run ≡ written_by i
