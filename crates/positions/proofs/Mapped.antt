-- Where positions go, and the tries with them. Assumes nothing.
use Prim.Native.Nat.{ℕ, ◌≤◌, ◌<◌, min}
use native.Mathlib.Omega.{arith}
use mathlib.Core.Path.{◌≡◌, refl, sym, ◌∙◌}
use mathlib.Core.Bool.{Bool, true, false, cond}
use mathlib.Core.List.{List}
use lib.Dec.{leb}
use lib.ListN.{length, get_or}
use lib.Seq.{ext_get_or}
use borrow.Author.Tests.{leb-true, leb-false, le-leb}
use Rattle.laws.specs.All.{every}
use Rattle.laws.proofs.Each.{each_at, each_word}
use Rattle.laws.proofs.Many.{many_few}
use Rattle.laws.proofs.Counting.{many_le, many_all, every_le}
use Rattle.positions.specs.Remap.{alive, live, mapped}
use Rattle.positions.specs.Moved.{moved_all}

module _ (dead : List ℕ) where
  pub map_in : (k : ℕ) → k ≤ length dead → mapped dead k ≡ live dead k
  unfolding mapped
  map_in k h = rw (le-leb k (length dead) h) refl

  -- from the old end on, to the new end or past it
  pub map_past : (k : ℕ) → length dead ≤ k → live dead (length dead) ≤ mapped dead k
  unfolding mapped
  map_past k h = go (leb k (length dead)) refl
    where
      go : (t : Bool) → leb k (length dead) ≡ t → live dead (length dead) ≤ cond t (live dead k) k
      go true e = let s : k ≡ length dead = omega (arith, leb-true k (length dead) e) in rw s (omega arith)
      go false e = omega (arith, many_few (alive dead) (length dead))

  -- never between the new end and the old one
  pub map_out : (v t : ℕ) → live dead (length dead) < t → t ≤ length dead → mapped dead v ≡ t → ⊥
  unfolding mapped
  map_out v t a b = go (leb v (length dead)) refl
    where
      go : (s : Bool) → leb v (length dead) ≡ s → cond s (live dead v) v ≡ t → ⊥
      go true e q = omega (arith, many_le (alive dead) v (length dead) (leb-true v (length dead) e))
      go false e q = omega (arith, leb-false v (length dead) e)

  -- where nothing died every position stays
  map_stays : every (alive dead) (length dead) ≡ true → (v : ℕ) → mapped dead v ≡ v
  unfolding mapped
  map_stays e v = go (leb v (length dead)) refl
    where
      go : (t : Bool) → leb v (length dead) ≡ t → cond t (live dead v) v ≡ v
      go true q = many_all (alive dead) v (every_le (alive dead) v (length dead) (leb-true v (length dead) q) e)
      go false q = refl

  -- a pair that keeps its rule keeps it after
  pub pair_kept : (s h : ℕ) → s ≤ min h (length dead) → mapped dead s ≤ min (mapped dead h) (live dead (length dead))
  unfolding mapped
  pair_kept s h l = rw (le-leb s (length dead) (omega arith)) (go (leb h (length dead)) refl)
    where
      a : live dead s ≤ live dead (length dead)
      a = many_le (alive dead) s (length dead) (omega arith)

      go : (t : Bool) → leb h (length dead) ≡ t → live dead s ≤ min (cond t (live dead h) h) (live dead (length dead))
      go true e = omega (arith, a, many_le (alive dead) s h (omega arith))
      go false e = omega (arith, a, leb-false h (length dead) e, many_few (alive dead) (length dead))

  module _ (l : List ℕ) where
    pub moved_long : length (moved_all dead l) ≡ length l
    unfolding moved_all
    moved_long = each_word (λ k. mapped dead (get_or l k 0)) (length l)

    pub moved_at : (k : ℕ) → k < length l → get_or (moved_all dead l) k 0 ≡ mapped dead (get_or l k 0)
    unfolding moved_all
    moved_at k h = each_at (λ j. mapped dead (get_or l j 0)) (length l) k h

    pub none_moved : every (alive dead) (length dead) ≡ true → l ≡ moved_all dead l
    none_moved e = ext_get_or 0 l (moved_all dead l) (sym moved_long) (λ k h. sym (moved_at k h ∙ map_stays e (get_or l k 0)))
