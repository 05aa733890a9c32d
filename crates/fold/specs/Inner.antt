-- What only the inside of `fold` needs: contracts of inner functions and proofs cite it, no promise does. Assumes nothing.
use Rattle.std.specs.Prelude.{ℕ, ◌≤◌, ◌<◌, ◌≡◌, true, length}
use Rattle.laws.specs.All.{many}
use Rattle.chunk.specs.Chunk.{chunk_count, op_at, folds}
use Rattle.chunk.specs.Check.{constant_room}
use Rattle.pool.specs.Inner.{PushRoom}
use Rattle.fold.specs.Plan.{Chunk}

-- the buffers that a plan at i reads
pub record Readable (s : Chunk) (i : ℕ) : Type 0 where
  pub here : i < chunk_count s.code
  pub marked : i < length s.dead
  pub kinds_there : s.constants ≤ length s.kinds
  pub words_there : s.constants ≤ length s.words

-- and room for a constant more where an operator stands
pub record OperatorRoom (s : Chunk) (i : ℕ) : Type 0 where
  pub readable : Readable s i
  pub room : folds (op_at s.code i) ≡ true → PushRoom s.kinds s.words s.constants

-- the buffers that folding needs
pub record PassRoom (s : Chunk) : Type 0 where
  pub few : s.constants ≤ 65536
  pub marks : chunk_count s.code ≤ length s.dead
  pub kinds_room : constant_room s.constants (many (λ k. folds (op_at s.code k)) (chunk_count s.code)) ≤ length s.kinds
  pub words_room : constant_room s.constants (many (λ k. folds (op_at s.code k)) (chunk_count s.code)) ≤ length s.words
