-- What only the inside of `area` needs: contracts of inner functions and proofs cite it, no promise does. Assumes nothing.
use Rattle.std.specs.Prelude.{ℕ, ◌+◌, ◌*◌, ◌<◌, ◌≤◌, ◌≡◌, List, length, get_or}
use Rattle.std.proofs.lemmas.List.Edits.{sets}
use Rattle.area.specs.Area.{need_of, entry_of}

-- what `store` relies on: room for the entry, and registers that are in the file
pub record StoreRoom (at : ℕ) (l : List ℕ) : Type 0 where
  pub room : at + (2 * length l + 2) ≤ 4096
  pub below : (i : ℕ) → i < length l → get_or l i 0 < 64

-- an entry is stored from `at` on, and r is the place past it
pub record EntryStored (at : ℕ) (file l : List ℕ) (q : ℕ) (old new : List ℕ) (r : ℕ) : Type 0 where
  pub words : new ≡ sets old at (entry_of file l q)
  pub past : r ≡ at + need_of l
