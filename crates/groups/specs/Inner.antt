-- What only the inside of `groups` needs: contracts of inner functions and proofs cite it, no promise does. Assumes nothing.
use Rattle.std.specs.Prelude.{◌+◌, ◌<◌}
use Rattle.groups.specs.declared.Figures.{Figures}

-- no total passes 64 bits
pub record Sums (f g : Figures) : Type 0 where
  pub bodies : f.bodies + g.bodies < 18446744073709551616
  pub levels : f.levels + g.levels < 18446744073709551616
  pub kept : f.kept + g.kept < 18446744073709551616
  pub body : f.bodies + g.body < 18446744073709551616
