-- `dead_phi` of block.rs: whether the value that a Phi writes is read on some path from the instruction after it. Assumes nothing.
use Rattle.std.specs.Prelude.{ℕ, ◌+◌, List}
use Rattle.phi_paths.specs.Read.{Read}

-- `dead_phi`: no path from k + 1, over instructions that do not stop it, comes to one that reads r
abbrev pub Dead : List ℕ → ℕ → ℕ → Type 0
Dead w k r = Read w r (k + 1) → ⊥
