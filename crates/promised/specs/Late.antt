-- Why refolding asks where operands stand: an operand past the count may come to load what a fold pushes. Assumes nothing.
use Rattle.std.specs.Prelude.{◌≡◌, false, List, [], ◌∷◌, ◌++◌, ℕ, replicate}
use Rattle.ops.specs.Op as op
use Rattle.clear.specs.Clear.{Is, pool_buffers, clear_outcome, clear_call}
use Rattle.marked.specs.Marked.{load, operator, jump, folded_call, leaves_so}

-- 2 + 3, from these constants, and a LoadConst of 3
abbrev pub late : ℕ → ℕ → List ℕ
late a b = load a ++ load b ++ operator op.Add ++ load 3

-- the code that a fold leaves of it: the sum's number, and 3
abbrev pub late_left : ℕ → List ℕ
late_left sum = load sum ++ load 3 ++ replicate 8 0

-- an operand past the count, computed: clearing before a fold changes what it loads; and what clearing leaves of P13
pub record Late : Type 0 where
  -- 7, 2 and 3, of which nobody names the first: uncleared, the sum is pushed to 3, where the last LoadConst loads it
  pub uncleared : folded_call false (late 1 2) (1 ∷ 1 ∷ 1 ∷ 0 ∷ []) (7 ∷ 2 ∷ 3 ∷ 0 ∷ []) 3
      ≡ leaves_so 2 4 (late_left 3) (1 ∷ 1 ∷ 1 ∷ 1 ∷ []) (7 ∷ 2 ∷ 3 ∷ 5 ∷ []) (replicate 4 0) (0 ∷ 1 ∷ 1 ∷ 0 ∷ []) (0 ∷ 1 ∷ 1 ∷ 1 ∷ 2 ∷ [])
  -- cleared, two constants are left, and 3 stays
  pub cleared : clear_call (pool_buffers (late 1 2) (1 ∷ 1 ∷ 1 ∷ 0 ∷ []) (7 ∷ 2 ∷ 3 ∷ 0 ∷ []) (9 ∷ 9 ∷ 9 ∷ [])) 3
      ≡ clear_outcome (Is 2) (pool_buffers (late 0 1) (1 ∷ 1 ∷ 0 ∷ 0 ∷ []) (2 ∷ 3 ∷ 0 ∷ 0 ∷ []) (0 ∷ 0 ∷ 1 ∷ []))
  -- so the sum is pushed to 2, and the last LoadConst still loads nothing
  pub refolded : folded_call false (late 0 1) (1 ∷ 1 ∷ 0 ∷ 0 ∷ []) (2 ∷ 3 ∷ 0 ∷ 0 ∷ []) 2
      ≡ leaves_so 2 3 (late_left 2) (1 ∷ 1 ∷ 1 ∷ 0 ∷ []) (2 ∷ 3 ∷ 5 ∷ 0 ∷ []) (replicate 4 0) (0 ∷ 1 ∷ 1 ∷ 0 ∷ []) (0 ∷ 1 ∷ 1 ∷ 1 ∷ 2 ∷ [])
  -- P13 as folding leaves it ships one constant
  pub p13 : clear_call (pool_buffers (load 2 ++ jump 1 ++ replicate 8 0) (1 ∷ 1 ∷ 1 ∷ 9 ∷ []) (2 ∷ 3 ∷ 5 ∷ 9 ∷ []) (9 ∷ 9 ∷ 9 ∷ 9 ∷ [])) 3
      ≡ clear_outcome (Is 1) (pool_buffers (load 0 ++ jump 1 ++ replicate 8 0) (1 ∷ 0 ∷ 0 ∷ 9 ∷ []) (5 ∷ 0 ∷ 0 ∷ 9 ∷ []) (0 ∷ 0 ∷ 0 ∷ 9 ∷ []))
