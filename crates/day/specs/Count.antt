-- The report of a run: reads of each register, and levels met. Assumes nothing.
use Rattle.std.specs.Prelude.{ℕ, List}
use Rattle.laws.specs.All.{many}
use Rattle.laws.specs.Page.{among}
use Rattle.code.specs.Ins.{ins_at}
use Rattle.steps.specs.Code.{used_at}
use Rattle.steps.specs.Level.{is_level}
use Rattle.blocks.specs.Blocks.{slot_at}

-- in m steps register r is read so often: once in each step that uses it
unfoldable pub reads_in : List ℕ → List ℕ → ℕ → ℕ → ℕ
reads_in w t m r = many (λ s. among r (used_at w (slot_at t s))) m

-- and so many of them are levels
unfoldable pub levels_in : List ℕ → List ℕ → ℕ → ℕ
levels_in w t m = many (λ s. is_level (ins_at w (slot_at t s))) m
