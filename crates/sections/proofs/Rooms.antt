-- What a call may rely on where its tests end in a count, beside `passing`: its position is in the code, and its buffers have room. Assumes nothing.
use mathlib.Core.Path.{◌≡◌, sym, ◌∙◌}
use mathlib.Core.List.{List}
use Prim.Native.Nat.{ℕ, ◌/◌, ◌<◌, ◌≤◌}
use native.Mathlib.Omega.{arith}
use lib.ListN.{length}
use Rattle.code.specs.Check.{check_of}
use Rattle.refusals.specs.Stages.{inside_of, room_of}
use Rattle.refusals.specs.Stages.{Checked}
use Rattle.std.specs.declared.result.Result.TheVariants.{Ok}
use Rattle.code.proofs.Checks.{count_of}
use Rattle.refusals.proofs.Stages.{at_before, at_inside, room_before, room_there}

module _ (n k : ℕ) (u v : Checked) (e : v ≡ inside_of u k) (h : v ≡ Ok n) where
  pub before_inside : u ≡ Ok n
  before_inside = at_before n u k (sym h ∙ e)

  pub near : (w : List ℕ) → u ≡ check_of w → k < length w
  near w f = omega (arith, at_inside n u k (sym h ∙ e), count_of w n u f before_inside)

  pub within : (w : List ℕ) → u ≡ check_of w → k < length w / 6
  within w f = omega (arith, at_inside n u k (sym h ∙ e), count_of w n u f before_inside)

module _ (n b have needed : ℕ) (u v : Checked) (e : v ≡ room_of u b have needed) (h : v ≡ Ok n) where
  pub before_room : u ≡ Ok n
  before_room = room_before n u b have needed (sym h ∙ e)

  pub roomy : needed ≤ have
  roomy = room_there n u b have needed (sym h ∙ e)

pub ruleset rooms = (before_inside, near, within, before_room, roomy)
