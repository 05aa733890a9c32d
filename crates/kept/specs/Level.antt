-- Kept at level k: the level with the tries around it, and its kept list. Assumes nothing.
use Rattle.std.specs.Prelude.{ℕ, cond, List, []}
use Rattle.code.specs.Ins.{ins_at, count}
use Rattle.flow.specs.Set.{alone}
use Rattle.flow.specs.Sweep.{row}
use Rattle.flow.specs.Kept.{Level, handlers_of, kept}
use Rattle.steps.specs.Level.{is_level}
unfoldable pub use Rattle.steps.specs.Resume.{resume_of, result_at}
pub use Rattle.steps.specs.Resume.{no_register}
pub use Rattle.steps.specs.Inner.{Goes}

-- the result register as a set of at most one
abbrev pub result_of : ℕ → List ℕ → ℕ → ℕ
result_of regs w k = alone regs (result_at w k)

-- the level at k, with the tries around it
abbrev pub level_of : ℕ → List ℕ → List ℕ → ℕ → Level
level_of regs w tries k = record { resume = resume_of w k; result = result_of regs w k; handlers = handlers_of (count w) k tries }

-- the kept list of position k, by some rows: empty where k is no level
unfoldable pub kept_at : ℕ → List ℕ → List ℕ → List ℕ → ℕ → List ℕ
kept_at regs w tries rows k = cond (is_level (ins_at w k)) (kept regs (row rows) (level_of regs w tries k)) []
