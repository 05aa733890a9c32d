-- What only the inside of `optimizer` needs: contracts of inner functions and proofs cite it, no promise does. Assumes nothing.
use Rattle.std.specs.Prelude.{ℕ, ◌+◌, ◌*◌, ◌%◌, ◌≤◌, ◌≡◌, false, List, length}
use Rattle.laws.specs.All.{every, many}
use Rattle.chunk.specs.Chunk.{stride, chunk_count, op_at, folds, is_phi}
use Rattle.chunk.specs.Check.{constant_room, tally_of}
use Rattle.chunk.specs.declared.Counts.{Counts}
use Rattle.landings.specs.Landings.{Unmarked}
use Rattle.positions.specs.Remap.{alive, remap_of}
use Rattle.optimizer.specs.Fold.{Buffers, sources_needed}

-- what the tests leave of the buffers
pub record FoldRoom (b : Buffers) (c : Counts) : Type 0 where
  pub whole : length b.code ≡ stride * chunk_count b.code
  pub few : chunk_count b.code ≤ 65535
  pub constants : c.constants ≤ 65536
  pub kinds : constant_room c.constants (tally_of b.code).folding ≤ length b.kinds
  pub words : constant_room c.constants (tally_of b.code).folding ≤ length b.words
  pub entries : c.map ≤ chunk_count b.code
  pub map : chunk_count b.code ≤ length b.map
  pub pairs : c.sources ≤ sources_needed b c
  pub sources : sources_needed b c ≤ length b.sources
  pub stmt_pairs : c.stmts % 2 ≡ 0
  pub stmts : c.stmts ≤ length b.stmts
  pub call_pairs : c.calls % 2 ≡ 0
  pub calls : c.calls ≤ length b.calls
  pub dead : chunk_count b.code ≤ length b.dead
  pub remap : chunk_count b.code + 1 ≤ length b.remap
  pub unmarked : Unmarked b.code

-- the same of buffers that are as long as needed
pub record Exact (b : Buffers) (c : Counts) : Type 0 where
  pub whole : length b.code ≡ stride * length b.dead
  pub few : length b.dead ≤ 65535
  pub constants : c.constants ≤ 65536
  pub kinds : constant_room c.constants (many (λ k. folds (op_at b.code k)) (chunk_count b.code)) ≤ length b.kinds
  pub words : constant_room c.constants (many (λ k. folds (op_at b.code k)) (chunk_count b.code)) ≤ length b.words
  pub map : length b.map ≡ length b.dead
  pub entries : c.map ≤ length b.map
  pub sources : c.sources ≤ length b.sources
  pub pairs : 2 * many (is_phi b.code) (length b.dead) ≤ length b.sources
  pub stmts : length b.stmts % 2 ≡ 0
  pub calls : length b.calls % 2 ≡ 0
  pub remap : length b.remap ≡ length b.dead + 1
  pub unmarked : Unmarked b.code

-- remap is filled if anything died
pub record Mapped (dead remap : List ℕ) : Type 0 where
  pub filled : every (alive dead) (length dead) ≡ false → remap ≡ remap_of dead
