-- What only the inside of `pool` needs: contracts of inner functions and proofs cite it, no promise does. Assumes nothing.
use Rattle.std.specs.Prelude.{ℕ, ◌≤◌, ◌<◌, cond, List, ltb, length}
use Rattle.std.specs.declared.option.Option.{Option}
use Rattle.std.specs.declared.option.Option.TheVariants.{Some, None}

-- the constants are there, with room for one more where one may come
pub record PushRoom (kinds words : List ℕ) (count : ℕ) : Type 0 where
  pub few : count ≤ 65536
  pub kinds_there : count ≤ length kinds
  pub words_there : count ≤ length words
  pub kinds_more : count < 65535 → count < length kinds
  pub words_more : count < 65535 → count < length words

-- a place below the count, else none
abbrev pub place : ℕ → ℕ → Option ℕ
place i count = cond (ltb i count) (Some i) None
