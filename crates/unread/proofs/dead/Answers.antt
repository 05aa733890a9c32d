-- `unread::dead` meets its contract. Assumes nothing.
use mathlib.Core.Path.{◌≡◌}
use mathlib.Core.Bool.{Bool, true, false, not}
use mathlib.Core.List.{List}
use Prim.Native.Nat.{ℕ, ◌+◌, ◌/◌}
use lib.ListN.{length}
use Rattle.laws.specs.Table.{cleared_to}
use Rattle.laws.proofs.Table.{cleared_length}
use Rattle.paths.specs.Search.{Says, SearchSettles}
use Rattle.paths.specs.Inner.{Searched}
use Rattle.paths.proofs.Between.{none, settles}
use Rattle.phi_paths.specs.Read.{Read}
use Rattle.unread.specs.Phi.{Dead}
use Rattle.phi_paths.specs.Inner.{PhiRoom}
use Rattle.unread.proofs.dead.Goals as goal

module _ (w seen seen₁ todo : List ℕ) (room : PhiRoom w seen todo) (c : seen₁ ≡ cleared_to (length w / 6 + 1) seen) where
  ready : PhiRoom w seen₁ todo
  ready =
      record {
        whole = room.whole;
        few = room.few;
        marks = rw (c, cleared_length (length w / 6 + 1) seen room.marks) room.marks;
        waiting = room.waiting;
      }

other : (P : Type 0) (b : Bool) → Says P b → Says (P → ⊥) (not b)
other P true s = λ n. n s
other P false s = s

done : (w seen seen₁ seen₂ seen₃ todo todo₁ todo₂ : List ℕ) (k r : ℕ) (b : Bool)
    → seen₁ ≡ cleared_to (length w / 6 + 1) seen
    → Searched (Read w r (k + 1)) (length w / 6) seen₁ todo b seen₂ todo₁
    → seen₃ ≡ cleared_to (length w / 6 + 1) seen₂
    → todo₂ ≡ cleared_to (length w / 6 + 1) todo₁
    → SearchSettles (Dead w k r) (length w / 6 + 1) seen todo (not b) seen₃ todo₂
done w seen seen₁ seen₂ seen₃ todo todo₁ todo₂ k r b c s d e =
    settles (Read w r (k + 1)) (Dead w k r) (length w / 6) seen seen₁ seen₂ seen₃ todo todo₁ todo₂ b (not b) c s d e (other (Read w r (k + 1)) b)

pub search-found-requires : goal.search-found-requires
search-found-requires c = (search ready, search none)

pub returns : goal.returns
returns c = search done
