-- What an answered fold leaves as it was: the pool as far as it was there, and all of it if nothing died. Assumes nothing.
use Rattle.std.specs.Prelude.{ℕ, ◌+◌, ◌*◌, ◌≤◌, ◌<◌, ◌≡◌, Bool, true, false, ◌++◌, length, get_or, take, drop, replicate}
use Rattle.laws.specs.All.{every}
use Rattle.laws.specs.Table.{Held}
use Rattle.refusals.specs.Stages.{try_kept}
use Rattle.refusals.specs.Stages.{pairs}
use Rattle.chunk.specs.Chunk.{stride, chunk_count}
use Rattle.chunk.specs.Check.{constant_room, tally_of}
use Rattle.chunk.specs.declared.Counts.{Counts}
use Rattle.landings.specs.Landings.{landings_at, landings_of}
use Rattle.positions.specs.Remap.{alive}
use Rattle.positions.specs.Moved.{moved_all}
use Rattle.fold.specs.declared.Kind.{Kind}
use Rattle.fold.specs.declared.Kind.TheVariants.{Binop, Not, Minus, Other}
use Rattle.std.specs.declared.result.Result.TheVariants.{Ok}
use Rattle.optimizer.specs.Fold.{Buffers, buffers, sources_needed, Called}
use Rattle.optimizer.specs.declared.Folded.{Folded}
use Rattle.refold.specs.Lending.{Lending, lending, fold_leaving}

-- a fold that answers f only pushes: constants below the old count stay, and so do entries past the new one and both lengths
pub record PoolLeft (b : Buffers) (c : Counts) (f : Folded) (a : Buffers) : Type 0 where
  pub more : c.constants ≤ f.constants
  pub kinds_below : (i : ℕ) → i < c.constants → get_or a.kinds i 0 ≡ get_or b.kinds i 0
  pub words_below : (i : ℕ) → i < c.constants → get_or a.words i 0 ≡ get_or b.words i 0
  pub kinds_past : (i : ℕ) → f.constants ≤ i → get_or a.kinds i 0 ≡ get_or b.kinds i 0
  pub words_past : (i : ℕ) → f.constants ≤ i → get_or a.words i 0 ≡ get_or b.words i 0
  pub kinds_long : length a.kinds ≡ length b.kinds
  pub words_long : length a.words ≡ length b.words

-- constants as far as there may come some, phi_map and dead marks n, phi_sources for the pairs and the Phis, remap n + 1, position pairs by their counts
pub record BuffersBeyond (c : Counts) (b a : Buffers) : Type 0 where
  pub code : length a.code ≡ length b.code
  pub kinds : Held (constant_room c.constants (tally_of b.code).folding) b.kinds a.kinds
  pub words : Held (constant_room c.constants (tally_of b.code).folding) b.words a.words
  pub map : Held (chunk_count b.code) b.map a.map
  pub sources : Held (sources_needed b c) b.sources a.sources
  pub stmts : Held c.stmts b.stmts a.stmts
  pub calls : Held c.calls b.calls a.calls
  pub dead : Held (chunk_count b.code) b.dead a.dead
  pub remap : Held (chunk_count b.code + 1) b.remap a.remap

-- and the tries keep their length, the table n + 1 entries
pub record FoldBeyond (c : Counts) (b a : Lending) : Type 0 where
  pub buffers : BuffersBeyond c b.buffers a.buffers
  pub tries : length a.tries ≡ length b.tries
  pub landings : Held (chunk_count b.buffers.code + 1) b.landings a.landings

-- no instruction has a mark of death
abbrev pub NoneDied : Buffers → Buffers → Type 0
NoneDied b a = every (alive a.dead) (chunk_count b.code) ≡ true

-- all as lent, but for the marks of death, which are 0, and the table, which counts what lands
abbrev pub as_lent : Lending → Counts → Called
as_lent l c =
    let b = l.buffers in
    let n = chunk_count b.code in
    fold_leaving (Ok (record { instructions = n; constants = c.constants; map = c.map; sources = c.sources }))
    (lending
    (buffers b.code b.kinds b.words b.map b.sources b.stmts b.calls (replicate n 0 ++ drop n b.dead) b.remap)
    l.tries (landings_of b.code l.tries ++ drop (n + 1) l.landings))

-- a fold that answers f and leaves a: each word of a try moves as a jump's operand does, and each try keeps its rule in the chunk that is left
pub record TriesLeft (b : Lending) (f : Folded) (a : Lending) : Type 0 where
  pub moved : a.tries ≡ moved_all (take (chunk_count b.buffers.code) a.buffers.dead) b.tries
  pub kept : (j : ℕ) → j < pairs a.tries → try_kept a.tries f.instructions j ≡ true

-- entry k of the table is how many jumps and handlers land on k in the chunk that is left, and 0 past its end
pub record LandingsLeft (b : Lending) (f : Folded) (a : Lending) : Type 0 where
  pub counts : (k : ℕ) → k ≤ chunk_count b.buffers.code
      → get_or a.landings k 0 ≡ landings_at (take (stride * f.instructions) a.buffers.code) a.tries k
  pub past : (k : ℕ) → f.instructions < k → k ≤ chunk_count b.buffers.code → get_or a.landings k 0 ≡ 0

-- the pass tries what the page names
abbrev pub tried : Kind → Bool
tried (Binop o) = true
tried Not = true
tried Minus = true
tried Other = false
