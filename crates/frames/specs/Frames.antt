-- What may happen to a saver: entries and leavings, nested to any depth, and registers overwritten with anything between them. Assumes nothing.
use Rattle.std.specs.Prelude.{ℕ, suc, ◌≤◌, ◌≡◌, List, [], ◌∷◌, ◌++◌, length, take}
use Rattle.saver.specs.Saver.{Saver, saver, regs_of, in_use, enter_of}
use Rattle.leaves.specs.Leaving.{Back, leave_of}
use Rattle.std.specs.declared.result.Result.TheVariants.{Ok}

-- the register file: as many entries as the saver was made for
abbrev pub file_of : Saver → List ℕ
file_of s = take (regs_of s) s.file

-- what every saver is that was made and used: a file of at most 64, and no more words in use than there are
pub record Sound (s : Saver) : Type 0 where
  pub few : regs_of s ≤ 64
  pub room : in_use s ≤ 4096
  pub heads : length s.head ≡ 2
  pub areas : length s.area ≡ 4096
  pub files : length s.file ≡ 64

-- a call is entered with a list and a result register; registers are overwritten; a call is left
pub data CallEvent : Type 0 where
  enters : List ℕ → ℕ → CallEvent
  writes : List ℕ → CallEvent
  leaves : Back → CallEvent

-- well bracketed: each entry has its leaving, and what happens between them is well bracketed too
pub data Matched : List CallEvent → Type 0 where
  none : Matched []
  over : {new : List ℕ} {es : List CallEvent} → Matched es → Matched (writes new ∷ es)
  frame : {l : List ℕ} {q : ℕ} {es fs : List CallEvent} (back : Back) → Matched es → Matched fs → Matched (enters l q ∷ (es ++ (leaves back ∷ fs)))

-- a saver that was made and used, with so many calls open: entered and not yet left
pub data Open : Saver → ℕ → Type 0 where
  made : {s : Saver} → Sound s → in_use s ≡ 0 → Open s 0
  entered : {s : Saver} {n : ℕ} → Open s n → (l : List ℕ) (q u : ℕ) → (enter_of s l q).answer ≡ Ok u → Open (enter_of s l q).left (suc n)
  overwritten : {s : Saver} {n : ℕ} → Open s n → (new : List ℕ) → length new ≡ length s.file → Open (saver s.head s.area new) n
  left : {s : Saver} {n : ℕ} → Open s (suc n) → (back : Back) → Open (leave_of s back).left n
