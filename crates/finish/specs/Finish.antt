-- What the tables become after folding: document 01, 'Folding'. Assumes nothing.
use Rattle.std.specs.Prelude.{ℕ, ◌-◌, cond, List, ◌++◌, eqb, length, take, replicate}
use Rattle.laws.specs.All.{every, many}
use Rattle.chunk.specs.Chunk.{chunk_count, is_phi}
use Rattle.positions.specs.Remap.{alive, live, remap_of}
use Rattle.compact.specs.Tables.{compacted}
use Rattle.positions.specs.Moved.{placed}
use Rattle.phi_pass.specs.Phi.{marked, pairs_left, indexed}
use Rattle.finish.specs.declared.Left.{Left}

-- the lent tables of n instructions, each as far as it is needed, and their counts
pub record Tables : Type 0 where
  pub code : List ℕ
  pub map : List ℕ
  pub sources : List ℕ
  pub stmts : List ℕ
  pub calls : List ℕ
  pub dead : List ℕ
  pub remap : List ℕ
  pub left : Left

-- these tables and their counts as one record
abbrev pub tables : (code map sources stmts calls dead remap : List ℕ) → Left → Tables
tables code map sources stmts calls dead remap left =
    record { code = code; map = map; sources = sources; stmts = stmts; calls = calls; dead = dead; remap = remap; left = left }

-- phi_sources keeps the surviving pairs; with phi_map empty that is none
abbrev pub sources_left : List ℕ → List ℕ → List ℕ → List ℕ → List ℕ
sources_left w map sources dead = pairs_left w map sources dead

-- words past the new count are 0
unfoldable pub sources_after : List ℕ → List ℕ → List ℕ → List ℕ → ℕ → List ℕ
sources_after w map sources dead room = let l = sources_left w map sources dead in l ++ replicate (room - length l) 0

-- phi_map is empty if no Phi is left
abbrev pub map_count : ℕ → ℕ → ℕ
map_count phis instructions = cond (eqb phis 0) 0 instructions

-- the entries of phi_map and the words of phi_sources that there are
abbrev pub map_of : Tables → List ℕ
map_of t = take t.left.map t.map

-- the words of phi_sources as far as their count goes
abbrev pub sources_of : Tables → List ℕ
sources_of t = take t.left.sources t.sources

-- if anything died
unfoldable pub renewed : Tables → Tables
renewed t =
    let w = compacted t.dead t.code in
    let n = live t.dead (length t.dead) in
    record {
      code = w;
      map = indexed w;
      sources = sources_after t.code (map_of t) (sources_of t) t.dead (length t.sources);
      stmts = placed t.dead t.stmts;
      calls = placed t.dead t.calls;
      dead = t.dead;
      remap = remap_of t.dead;
      left =
          record {
            instructions = n;
            map = map_count (many (is_phi w) (chunk_count w)) n;
            sources = length (sources_left t.code (map_of t) (sources_of t) t.dead);
          };
    }

-- the Phis that die are marked; if nothing died, all else stays as lent
unfoldable pub finished : Tables → Tables
finished t =
    let d = marked t.code (map_of t) (sources_of t) t.dead in
    let m = tables t.code t.map t.sources t.stmts t.calls d t.remap t.left in
    cond (every (alive d) (length d)) m (renewed m)
