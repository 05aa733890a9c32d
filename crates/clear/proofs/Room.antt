-- Freed room serves the next fold: where folding had its buffers before, it has them after. Assumes nothing.
use Prim.Native.Nat.{ℕ, ◌≤◌}
use native.Mathlib.Omega.{arith}
use mathlib.Core.Path.{◌≡◌, ap, ◌∙◌}
use mathlib.Core.List.{List}
use lib.ListN.{length}
use Rattle.laws.specs.All.{many}
use Rattle.laws.proofs.Many.{many_few}
use Rattle.chunk.specs.Chunk.{chunk_count, op_at, folds}
use Rattle.chunk.specs.Check.{constant_room}
use Rattle.fold.specs.Plan.{Chunk, chunk}
use Rattle.fold.specs.Inner.{PassRoom}
use Rattle.named.specs.Unused.{constant_named, before, pooled, recoded}
use Rattle.laws.proofs.Counting.{many_ext}
use Rattle.clear.proofs.Kept.{pooled_length}
use Rattle.clear.proofs.Loads.{recoded_count, recoded_op}

-- the count never grows
pub no_more : (w : List ℕ) (m : ℕ) → before w m ≤ m
no_more w m = many_few (constant_named w) m

-- a chunk after the call
abbrev pub cleared_chunk : Chunk → Chunk
cleared_chunk s =
    let w = s.code in
    chunk (recoded (before w) s.constants w) s.dead (pooled (constant_named w) s.constants s.kinds) (pooled (constant_named w) s.constants
    s.words)
    (before w s.constants)

pub operators_same : (number : ℕ → ℕ) (m : ℕ) (w : List ℕ)
    → many (λ k. folds (op_at (recoded number m w) k)) (chunk_count (recoded number m w)) ≡ many (λ k. folds (op_at w k)) (chunk_count w)
operators_same number m w =
    ap (many (λ k. folds (op_at (recoded number m w) k))) (recoded_count number m w)
    ∙ many_ext (λ k. folds (op_at (recoded number m w) k)) (λ k. folds (op_at w k)) (chunk_count w) (λ k h. ap folds (recoded_op number m w k h))

pub room_down : (a b f n : ℕ) → a ≤ b → constant_room b f ≤ n → constant_room a f ≤ n
room_down a b f n h l = omega arith

pub room_after : (s : Chunk) → PassRoom s → PassRoom (cleared_chunk s)
room_after s x =
    let w = s.code in
    let m = s.constants in
    let f = many (λ k. folds (op_at w k)) (chunk_count w) in
    let h = no_more w m in
    let z = x.kinds_room in
    let y = x.words_room in
    record {
      few = omega (arith, x.few);
      marks = rw (recoded_count (before w) m w) x.marks;
      kinds_room = rw (operators_same (before w) m w, pooled_length (constant_named w) m s.kinds (omega arith))
          (room_down (before w m) m f (length s.kinds) h z);
      words_room = rw (operators_same (before w) m w, pooled_length (constant_named w) m s.words (omega arith))
          (room_down (before w m) m f (length s.words) h y);
    }
