-- The chunks that wish 14 speaks of: document 02. Assumes nothing.
use Rattle.std.specs.Prelude.{ℕ, ◌<◌, ◌≡◌, Bool, true, ◌||◌, List, eqb}
use Rattle.ops.specs.Op.{LoadConst, LoadTrue, LoadFalse, LoadNone, Jump, JumpIfFalse}
use Rattle.chunk.specs.Chunk.{chunk_count, op_at, folds}
use Rattle.runs.specs.Machine.{Plain}

-- LoadConst, LoadTrue, LoadFalse, LoadNone, the folding operators, Jump and JumpIfFalse
unfoldable pub known : ℕ → Bool
known o = eqb o LoadConst || eqb o LoadTrue || eqb o LoadFalse || eqb o LoadNone || eqb o Jump || eqb o JumpIfFalse || folds o

-- n instructions of these only, the jump mark on just the last two and every LoadConst naming a constant that is there
pub record Ruled (code : List ℕ) (constants n : ℕ) : Type 0 where
  pub only : (k : ℕ) → k < n → known (op_at code k) ≡ true
  pub plain : (k : ℕ) → k < n → Plain code constants k

-- all of the code
abbrev pub WishRule : List ℕ → ℕ → Type 0
WishRule code constants = Ruled code constants (chunk_count code)
