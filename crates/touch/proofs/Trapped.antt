-- The traps, computed from the definitions. Assumes nothing.
use mathlib.Core.Path.{refl}
use Rattle.roles.specs.Sets.{cases, case_of, used_by, given_by}
use Rattle.touch.specs.Touch.{written_by}
use Rattle.touch.specs.Traps.{Traps}

pub traps : Traps
unfolding cases case_of used_by given_by written_by
traps = record {
  for_first = (refl, refl, refl);
  for_other = (refl, refl, refl);
  store_first = (refl, refl, refl);
  store_other = (refl, refl, refl);
  unpack_two = (refl, refl, refl);
  unpack_many = (refl, refl, refl);
  enter_one = (refl, refl, refl);
  enter_two = (refl, refl, refl);
  exit_five = (refl, refl, refl);
}
