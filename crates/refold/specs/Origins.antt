-- Origins after folding and clearing: document 02, wish 8. Assumes nothing.
use Rattle.std.specs.Prelude.{ℕ, ◌<◌, ◌≡◌, true, List, take}
use Rattle.chunk.specs.Chunk.{chunk_count, origin_at}
use Rattle.positions.specs.Remap.{alive, live}
use Rattle.optimizer.specs.Fold.{Buffers}
use Rattle.optimizer.specs.declared.Folded.{Folded}

-- the code w became v, of which m instructions are left, where these marks say who died
pub record Survive (dead w v : List ℕ) (m : ℕ) : Type 0 where
  -- a survivor stands where remap says, and has its origin
  pub kept : (k : ℕ) → k < chunk_count w → alive dead k ≡ true → origin_at v (live dead k) ≡ origin_at w k
  -- survivors stand in the order in which they stood
  pub order : (j k : ℕ) → j < k → alive dead j ≡ true → live dead j < live dead k
  -- each instruction that is left is one survivor
  pub onto : (i : ℕ) → i < m → (k : ℕ) × (k < chunk_count w) × (alive dead k ≡ true) × (live dead k ≡ i)

-- a fold that answers f and leaves a, by the marks of death that it leaves
abbrev pub OriginsLeft : Buffers → Folded → Buffers → Type 0
OriginsLeft b f a = Survive (take (chunk_count b.code) a.dead) b.code a.code f.instructions

-- whatever came between: each of the first m instructions of v has the origin of one of the first n of w, in the same order
pub record Carried (n : ℕ) (w : List ℕ) (m : ℕ) (v : List ℕ) : Type 0 where
  pub place : (k : ℕ) → k < m → ℕ
  pub there : (k : ℕ) (h : k < m) → place k h < n
  pub order : (j k : ℕ) (h : j < m) (i : k < m) → j < k → place j h < place k i
  pub origin : (k : ℕ) (h : k < m) → origin_at v k ≡ origin_at w (place k h)
