-- What only the inside of `clear` needs: contracts of inner functions and proofs cite it, no promise does. Assumes nothing.
use Rattle.std.specs.Prelude.{ℕ, ◌-◌, ◌≤◌, ◌*◌, ◌≡◌, Bool, List, ◌++◌, take, drop, replicate, length}
use Rattle.laws.specs.All.{many}
use Rattle.named.specs.Unused.{packed_list, numbered}
use Rattle.chunk.specs.Chunk.{stride, chunk_count}
use Rattle.clear.specs.Clear.{PoolBuffers}

-- r of the first m entries stand at the front, and those past m where they were
pub record Moved (f : ℕ → Bool) (m r : ℕ) (old l : List ℕ) : Type 0 where
  pub front : take r l ≡ packed_list f m old
  pub rest : drop m l ≡ drop m old

-- all three lists of them
pub record Down (f : ℕ → Bool) (m r : ℕ) (kinds kinds' words words' scratch scratch' : List ℕ) : Type 0 where
  pub count : r ≡ many f m
  pub few : r ≤ m
  pub kinds_moved : Moved f m r kinds kinds'
  pub words_moved : Moved f m r words words'
  pub numbers : scratch' ≡ numbered (many f) m scratch

-- 0 from a up to m
abbrev pub freed : ℕ → ℕ → List ℕ → List ℕ
freed a m l = take a l ++ (replicate (m - a) 0 ++ drop m l)

-- what the tests leave of the buffers
pub record ClearRoom (b : PoolBuffers) (m : ℕ) : Type 0 where
  pub whole : length b.code ≡ stride * chunk_count b.code
  pub few : m ≤ 65536
  pub kinds : m ≤ length b.kinds
  pub words : m ≤ length b.words
  pub scratch : m ≤ length b.scratch
