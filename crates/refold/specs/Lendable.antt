-- What a host lends next after a fold: the code cut at the answered count, the counts as answered, and every other buffer as it was left. Assumes nothing.
use Rattle.std.specs.Prelude.{◌≡◌, true, List, ℕ, ◌*◌, take}
use Rattle.std.specs.declared.result.Result.TheVariants.{Ok}
use Rattle.chunk.specs.Chunk.{stride}
use Rattle.chunk.specs.Tables.{constants_kept}
use Rattle.chunk.specs.Check.{chunk_check_of}
use Rattle.chunk.specs.declared.Counts.{Counts}
use Rattle.optimizer.specs.Fold.{Buffers, buffers}
use Rattle.optimizer.specs.declared.Folded.{Folded}
use Rattle.clear.specs.Clear as clearing
use Rattle.refold.specs.Lending.{Lending, lending, ready_for}

-- the buffers, with so many instructions of the code
abbrev pub cut_code : Folded → Buffers → Buffers
cut_code f a = buffers (take (stride * f.instructions) a.code) a.kinds a.words a.map a.sources a.stmts a.calls a.dead a.remap

-- with the tries and the table as they were left
abbrev pub cut_at : Folded → Lending → Lending
cut_at f a = lending (cut_code f a.buffers) a.tries a.landings

-- the counts as answered; the position pairs are as many as before
abbrev pub counts_left : Folded → Counts → Counts
counts_left f c = record { constants = f.constants; map = f.map; sources = f.sources; stmts = c.stmts; calls = c.calls }

-- the next call finds nothing to refuse
pub record Lendable (f : Folded) (c : Counts) (a : Lending) : Type 0 where
  -- the code passes tests 1 and 2
  pub code : chunk_check_of (take (stride * f.instructions) a.buffers.code) ≡ Ok f.instructions
  -- the constants keep their table's rule
  pub pool : constants_kept a.buffers.kinds a.buffers.words f.constants ≡ true
  -- all tests of the folding call pass, those of the tries and of room too
  pub ready : ready_for (cut_at f a) (counts_left f c) ≡ Ok f.instructions

-- what the clearing call is lent then
abbrev pub clearable : Folded → Lending → List ℕ → clearing.PoolBuffers
clearable f a scratch = clearing.pool_buffers (take (stride * f.instructions) a.buffers.code) a.buffers.kinds a.buffers.words scratch

-- and the next fold: what clearing left, and all else as the fold left it
abbrev pub cleared_buffers : Lending → clearing.PoolBuffers → Lending
cleared_buffers l x =
    let a = l.buffers in
    lending (buffers x.code x.kinds x.words a.map a.sources a.stmts a.calls a.dead a.remap) l.tries l.landings

-- the same counts, but of so many constants
abbrev pub with_constants : ℕ → Counts → Counts
with_constants left c = record { constants = left; map = c.map; sources = c.sources; stmts = c.stmts; calls = c.calls }

-- the counts as a fold answered them, but of the constants that clearing left
abbrev pub counts_cleared : Folded → Counts → ℕ → Counts
counts_cleared f c left = with_constants left (counts_left f c)
