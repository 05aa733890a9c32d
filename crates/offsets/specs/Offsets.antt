-- Whether offsets and a list fit code (document 02, wish 12: refusal 15). Assumes nothing.
use Rattle.std.specs.Prelude.{ℕ, ◌+◌, Bool, cond, not, ◌&&◌, ◌||◌, List, eqb, ltb, get_or}
use Rattle.laws.specs.Walk.{first}
use Rattle.code.specs.Ins.{ins_at, count}
use Rattle.steps.specs.Level.{is_level}

-- 15: offsets run from 0 to the list's length and never fall, and a place that is no level has no list
unfoldable pub wrong : List ℕ → List ℕ → ℕ → ℕ → Bool
wrong w o len k =
    let here = get_or o k 0 in
    let next = get_or o (k + 1) 0 in
    let start = eqb k 0 && not (eqb here 0) in
    cond (ltb k (count w)) (start || ltb next here || (not (is_level (ins_at w k)) && not (eqb next here))) (start || not (eqb here len))

-- the first place that breaks this, else n + 1
unfoldable pub first_wrong : List ℕ → List ℕ → ℕ → ℕ
first_wrong w o len = first (wrong w o len) 0 (count w + 1)
