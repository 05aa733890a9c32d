-- The refusals of a lent chunk, in document 01's order of test. Assumes nothing.
use Rattle.std.specs.Prelude.{ℕ, ◌+◌, ◌*◌, ◌%◌, ◌/◌, min, max, Bool, cond, not, ◌||◌, List, ltb, eqb, length}
use Rattle.laws.specs.Walk.{first}
use Rattle.laws.specs.All.{many}
use Rattle.refusals.specs.Stages.{tried_of, room_of}
use Rattle.refusals.specs.declared.Refusal.TheVariants.{Length, Record}
use Rattle.refusals.specs.Stages.{Checked}
use Rattle.std.specs.declared.result.Result.TheVariants.{Ok, Err}
use Rattle.chunk.specs.declared.Counts.{Counts}
use Rattle.chunk.specs.declared.Lens.{Lens}
use Rattle.chunk.specs.declared.Tally.{Tally}
use Rattle.chunk.specs.Chunk.{stride, chunk_count, op_at, is_phi, folds, breaks_at}
use Rattle.chunk.specs.Tables.{constants_kept, map_kept, pairs_kept, table_of}

-- 1: code length no multiple of its stride, or too many instructions
abbrev pub uneven_chunk : List ℕ → Bool
uneven_chunk w = not (eqb (length w % stride) 0) || ltb 65535 (chunk_count w)

-- the first instruction that breaks a record rule, else n
abbrev pub first_bad_of : List ℕ → ℕ
first_bad_of w = first (breaks_at w) 0 (chunk_count w)

-- 1, then 2: the first position that breaks a record rule
unfoldable pub chunk_check_of : List ℕ → Checked
chunk_check_of w =
    cond (uneven_chunk w) (Err (Length (length w)))
    (cond (ltb (first_bad_of w) (chunk_count w)) (Err (Record (first_bad_of w)))
    (Ok (chunk_count w)))

-- 7: the lowest table that breaks its rule
unfoldable pub tables_of : Checked → ℕ → List ℕ → List ℕ → Counts → Lens → Checked
tables_of v n kinds words c l =
    table_of
    (table_of
    (table_of
    (table_of
    (table_of v 1 (constants_kept kinds words c.constants))
    2 (map_kept n c.map l.map))
    3 (pairs_kept c.sources l.sources))
    4 (pairs_kept c.stmts l.stmts))
    5 (pairs_kept c.calls l.calls)

-- the folding operators and the Phis in the chunk
unfoldable pub tally_of : List ℕ → Tally
tally_of w = record { folding = many (λ k. folds (op_at w k)) (chunk_count w); phis = many (is_phi w) (chunk_count w) }

-- constant room max(count, min(65,535, count + folding operators in the chunk))
abbrev pub constant_room : ℕ → ℕ → ℕ
constant_room constants folding = max constants (min 65535 (constants + folding))

-- phi_sources for max(pairs, Phis in the chunk), in words
abbrev pub source_room : ℕ → ℕ → ℕ
source_room sources phis = 2 * max (sources / 2) phis

-- 5: the first buffer too short, of constant kinds, constant words, phi_map, phi_sources, dead marks, remap
unfoldable pub rooms_of : Checked → List ℕ → Counts → Lens → Checked
rooms_of v w c l =
    room_of
    (room_of
    (room_of
    (room_of
    (room_of
    (room_of v 1 l.kinds (constant_room c.constants (tally_of w).folding))
    2 l.words (constant_room c.constants (tally_of w).folding))
    3 l.map (chunk_count w))
    4 l.sources (source_room c.sources (tally_of w).phis))
    5 l.dead (chunk_count w))
    6 l.remap (chunk_count w + 1)

-- 1, 2, 4, 7, 5: all tests of the folding call; the last short buffer is the table of landings
unfoldable pub ready_of : List ℕ → List ℕ → List ℕ → List ℕ → Counts → Lens → ℕ → Checked
ready_of w tries kinds words c l landings = room_of (rooms_of (tables_of (tried_of (chunk_check_of w) tries) (chunk_count w) kinds words c l) w c l) 7 landings
    (chunk_count w + 1)
