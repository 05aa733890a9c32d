-- `loops_around` of block.rs: how many `for` loops a position lies inside, from a GetIter until its loop's step leaves. Assumes nothing.
use Rattle.std.specs.Prelude.{ℕ, ◌+◌, ◌-◌, min, Bool, cond, ◌&&◌, ◌||◌, List, eqb, ltb}
use Rattle.laws.specs.All.{many}
use Rattle.laws.specs.Walk.{first}
use Rattle.ops.specs.Op.{GetIter, ForIterR, ForIter}
use Rattle.code.specs.Ins.{ins_at, count}

-- a `for` steps at k
unfoldable pub step_at : List ℕ → ℕ → Bool
step_at w k = eqb (ins_at w k).op ForIterR || eqb (ins_at w k).op ForIter

-- the first step of a `for` from k on, else n
unfoldable pub next_step : List ℕ → ℕ → ℕ
next_step w k = first (step_at w) k (count w - k)

-- where the loop ends that the step at f leaves: min(a, n); 0 where there is no step
unfoldable pub leaves_at : List ℕ → ℕ → ℕ
leaves_at w f = cond (ltb f (count w)) (min (ins_at w f).a (count w)) 0

-- where the loop of a GetIter at g ends; 0 where none stands there
unfoldable pub end_of : List ℕ → ℕ → ℕ
end_of w g = cond (eqb (ins_at w g).op GetIter) (leaves_at w (next_step w (g + 1))) 0

-- p lies in the loop of the GetIter at g: g < p, and p is before its end
unfoldable pub around : List ℕ → ℕ → ℕ → Bool
around w p g = ltb g p && ltb p (end_of w g)

-- the entry of p: how many GetIters have p in their loop
unfoldable pub depth : List ℕ → ℕ → ℕ
depth w p = many (around w p) (count w)
