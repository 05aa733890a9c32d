-- What only the inside of `frames` needs: contracts of inner functions and proofs cite it, no promise does. Assumes nothing.
use Rattle.std.specs.Prelude.{ℕ, ◌≡◌, List, [], ◌∷◌, length, get_or, take}
use Rattle.area.specs.Area.{put_in}
use Rattle.saver.specs.Saver.{Saver, saver, regs_of, in_use, enter_of}
use Rattle.leaves.specs.Leaving.{Back, leave_of}
use Rattle.std.specs.declared.result.Result.TheVariants.{Ok}
use Rattle.frames.specs.Frames.{Sound, CallEvent, enters, writes, leaves}

-- g, with the listed registers as they are in f
unfoldable pub restored : ℕ → List ℕ → List ℕ → List ℕ → List ℕ
restored regs f [] g = g
restored regs f (r ∷ l) g = restored regs f l (put_in regs r (get_or f r 0) g)

-- From one saver to another by events in order. An entry here is one that is not refused; overwriting keeps the file's length; a leaving is
-- whatever the call makes of it.
pub data Play : Saver → List CallEvent → Saver → Type 0 where
  done : {s : Saver} → Play s [] s
  enter : {s t : Saver} {l : List ℕ} {q u : ℕ} {es : List CallEvent} → (enter_of s l q).answer ≡ Ok u → Play (enter_of s l q).left es t
      → Play s (enters l q ∷ es) t
  write : {s t : Saver} {new : List ℕ} {es : List CallEvent} → length new ≡ length s.file → Play (saver s.head s.area new) es t
      → Play s (writes new ∷ es) t
  leave : {s t : Saver} {back : Back} {es : List CallEvent} → Play (leave_of s back).left es t → Play s (leaves back ∷ es) t

-- the same room is in use, by the same words, and the file is as long
pub record SameRoom (s t : Saver) : Type 0 where
  pub sound : Sound t
  pub regs : regs_of t ≡ regs_of s
  pub used : in_use t ≡ in_use s
  pub saved : take (in_use s) t.area ≡ take (in_use s) s.area
