-- `targets` of block.rs: the positions that a jump lands on, or the handler of a try, one past the last too. Assumes nothing.
use Rattle.std.specs.Prelude.{ℕ, ◌+◌, ◌*◌, ◌/◌, Bool, ◌||◌, ◌&&◌, List, eqb, length, get_or}
use Rattle.laws.specs.Some.{some}
use Rattle.code.specs.Ins.{ins_at, count}
use Rattle.roles.specs.Kinds.{is_jump}

-- a landing at q, if y, lands on p
unfoldable pub hits : Bool → ℕ → ℕ → Bool
hits y q p = y && eqb q p

-- the instruction at k is a jump, and its a is p
unfoldable pub jumps_to : List ℕ → ℕ → ℕ → Bool
jumps_to w p k = hits (is_jump (ins_at w k)) (ins_at w k).a p

-- the h of try i
unfoldable pub handler_of : List ℕ → ℕ → ℕ
handler_of t i = get_or t (2 * i + 1) 0

-- it is p
unfoldable pub handled_at : List ℕ → ℕ → ℕ → Bool
handled_at t p i = eqb (handler_of t i) p

-- some jump of the first m lands on p
unfoldable pub jumped : List ℕ → ℕ → ℕ → Bool
jumped w m p = some (jumps_to w p) m

-- some handler of the first m is p
unfoldable pub handled : List ℕ → ℕ → ℕ → Bool
handled t m p = some (handled_at t p) m

-- p is a target: some jump's a is p, or some try's h
unfoldable pub target : List ℕ → List ℕ → ℕ → Bool
target w t p = jumped w (count w) p || handled t (length t / 2) p
