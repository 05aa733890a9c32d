-- The moves that a run may make, and a slot of a trace that is none of them (document 02, wish 9). Assumes nothing.
use Rattle.std.specs.Prelude.{ℕ, ◌-◌, ◌*◌, Bool, true, false, cond, not, ◌&&◌, ◌||◌, List, eqb, leb}
use Rattle.laws.specs.Walk.{first}
use Rattle.laws.specs.Page.{among}
use Rattle.blocks.specs.Blocks.{slot_at}
use Rattle.code.specs.Ins.{ins_at, count, wide}
use Rattle.flow.specs.Kept.{handlers_of}
use Rattle.steps.specs.Code.{after_at, store_of}
use Rattle.steps.specs.Level.{is_level}

-- a move: to a position that "after" names, from a level to a handler of a try around it, or from a wide call straight to its store
unfoldable pub may_go : List ℕ → List ℕ → ℕ → ℕ → Bool
may_go w tries p q = among q (after_at w p) || (is_level (ins_at w p) && among q (handlers_of (count w) p tries)) || (wide (ins_at w p) && eqb q (store_of w p))

-- 12: a first position other than 0, a position not below n, or a move that is none of these
unfoldable pub bad_step : List ℕ → List ℕ → List ℕ → ℕ → Bool
bad_step w tries t s =
    let p = slot_at t (s - 1) in
    let q = slot_at t s in
    cond (eqb q 4294967295) false
    (cond (leb (count w) q) true
    (cond (eqb s 0) (not (eqb q 0))
    (cond (leb (count w) p) true (not (may_go w tries p q)))))

-- the first such slot of block b, else the slot past it
unfoldable pub first_step : List ℕ → List ℕ → List ℕ → ℕ → ℕ
first_step w tries t b = first (bad_step w tries t) (127 * b) 127
