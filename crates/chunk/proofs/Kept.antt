-- What the table rules say of a chunk that keeps them. Assumes nothing.
use mathlib.Core.Path.{◌≡◌}
use mathlib.Core.Bool.{Bool, true, ◌&&◌}
use mathlib.Core.List.{List}
use Prim.Native.Nat.{ℕ, ◌≤◌}
use lib.Dec.{leb}
use lib.ListN.{length}
use borrow.Author.Tests.{leb-true}
use Rattle.laws.specs.All.{every}
use Rattle.laws.proofs.Branch.{and-true}
use Rattle.chunk.specs.Tables.{constant_kept, within, constants_kept}

module _ (k a b : ℕ) (e : within k a b ≡ true) where
  pub few : k ≤ 65536
  few = leb-true _ _ (and-true (leb k 65536) _ (and-true _ (leb k b) e).0).0

  pub kinds_there : k ≤ a
  kinds_there = leb-true _ _ (and-true (leb k 65536) _ (and-true _ (leb k b) e).0).1

  pub words_there : k ≤ b
  words_there = leb-true _ _ (and-true (leb k 65536 && leb k a) _ e).1

module _ (kinds words : List ℕ) (k : ℕ) where
  pub all_in : (r : Bool) → within k (length kinds) (length words) ≡ true → r ≡ every (constant_kept kinds words) k → r ≡ constants_kept kinds words k
  all_in r e h = rw e h
