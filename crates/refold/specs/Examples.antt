-- Chunks of a few instructions, for what is computed. Assumes nothing.
use Rattle.std.specs.Prelude.{List, [], ◌∷◌, ℕ}
use Rattle.ops.specs.Op.{LoadConst, Add, Jump, Phi}
use Rattle.chunk.specs.declared.Counts.{Counts}
use Rattle.chunk.specs.declared.Lens.{Lens}
use Rattle.fold.specs.Plan.{Chunk, chunk}

-- a jump, and 2 + 3 after it
abbrev pub jumping : ℕ → Chunk
jumping to = chunk (Jump ∷ 1 ∷ to ∷ 0 ∷ LoadConst ∷ 2 ∷ 0 ∷ 1 ∷ LoadConst ∷ 2 ∷ 1 ∷ 2 ∷ Add ∷ 0 ∷ 0 ∷ 3 ∷ []) (0 ∷ 0 ∷ 0 ∷ 0 ∷ []) (1 ∷ 1 ∷ 9 ∷ [])
    (2 ∷ 3 ∷ 9 ∷ []) 2

-- the same, folded
abbrev pub summed : ℕ → Chunk
summed to = chunk (Jump ∷ 1 ∷ to ∷ 0 ∷ LoadConst ∷ 2 ∷ 2 ∷ 1 ∷ LoadConst ∷ 2 ∷ 1 ∷ 2 ∷ Add ∷ 0 ∷ 0 ∷ 3 ∷ []) (0 ∷ 0 ∷ 1 ∷ 1 ∷ []) (1 ∷ 1 ∷ 1 ∷ [])
    (2 ∷ 3 ∷ 5 ∷ []) 3

-- what a fold left of three Phis, of which the last died: the code, the counts as answered, and the lengths as lent
abbrev pub crossed : List ℕ
crossed = Phi ∷ 0 ∷ 7 ∷ 0 ∷ Phi ∷ 0 ∷ 8 ∷ 1 ∷ 0 ∷ 0 ∷ 0 ∷ 0 ∷ []

-- the counts of that chunk, as the fold answered them
abbrev pub crossed_counts : Counts
crossed_counts = record { constants = 0; map = 2; sources = 4; stmts = 0; calls = 0 }

-- the lengths of that chunk's buffers, as lent for three instructions
abbrev pub crossed_lens : Lens
crossed_lens = record { kinds = 0; words = 0; map = 3; sources = 6; stmts = 0; calls = 0; dead = 3; remap = 4 }
