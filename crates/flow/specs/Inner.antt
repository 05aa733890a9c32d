-- What only the inside of `flow` needs: contracts of inner functions and proofs cite it, no promise does. Assumes nothing.
use Rattle.std.specs.Prelude.{◌≡◌, List, Bool, not, true, false, ℕ, ◌+◌, ◌*◌, ◌<◌, ◌≤◌, eqb, set, length, get_or, take, drop, ◌⊎◌}
use Rattle.flow.specs.Flow.{Flow, row_at}
use Rattle.flow.specs.Sweep.{row}
use Rattle.std.proofs.Math.Seq.{paste}
use Rattle.flow.specs.Words.{value, Small}

-- Row k is found and stored, which leaves out; `changed` says whether it was another.
pub record Put (f : Flow) (rows : List ℕ) (k : ℕ) (out : List ℕ) (changed : Bool) : Type 0 where
  pub stored : out ≡ set rows k (row_at f (row rows) k)
  pub told : changed ≡ not (eqb (row rows k) (row_at f (row rows) k))

-- the list L was written from `at` on, which leaves out, and n is the place past it
pub record Listing (L old : List ℕ) (at : ℕ) (out : List ℕ) (n : ℕ) : Type 0 where
  pub past : n ≡ at + length L
  pub put : out ≡ paste old at L (length L)

-- the words of row k, where a row has `words` words
abbrev pub window : ℕ → ℕ → List ℕ → List ℕ
window words k buf = take words (drop (k * words) buf)

-- the words s hold the set x
pub record Holds (w : ℕ) (s : List ℕ) (x : ℕ) : Type 0 where
  pub small : Small w s
  pub is : value w s ≡ x

-- the first words of s are stored from `at` on, which leaves out; `changed` says whether one was another
pub record WordsStored (buf : List ℕ) (at words : ℕ) (s out : List ℕ) (changed : Bool) : Type 0 where
  pub long : length out ≡ length buf
  pub kept : (x : ℕ) → (x < at) ⊎ (at + words ≤ x) → get_or out x 0 ≡ get_or buf x 0
  pub new : (j : ℕ) → j < words → get_or out (at + j) 0 ≡ get_or s j 0
  pub quiet : changed ≡ false → out ≡ buf
  pub loud : changed ≡ true → (j : ℕ) × (j < words) × (get_or buf (at + j) 0 ≡ get_or s j 0 → ⊥)
