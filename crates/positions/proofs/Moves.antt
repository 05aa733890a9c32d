-- Laws of remap and of what follows it, for the loops that write them in place. Assumes nothing.
use Prim.Native.Nat.{ℕ, ◌+◌, ◌*◌, ◌/◌, ◌%◌, ◌≤◌, ◌<◌}
use native.Mathlib.Nat.{le_refl}
use native.Mathlib.Omega.{arith}
use mathlib.Core.Path.{◌≡◌, refl, sym, ap, ◌∙◌}
use mathlib.Core.List.{List, [], ◌∷◌, ◌++◌, append_assoc}
use lib.ListN.{length, get_or, set}
use lib.Seq.{set-get_or}
use borrow.Author.Tests.{eq-eqb, ne_eqb, le-leb, lt-leb}
use mir.Val.{bool_byte}
use Rattle.laws.specs.All.{many}
use Rattle.laws.specs.Each.{each}
use Rattle.laws.proofs.Many.{many_more, many_few, counted_on}
use Rattle.laws.proofs.Each.{each_more, each_word, each_at}
use Rattle.laws.proofs.InPlace.{Walked, walk_none, walk_read, walk_put, walk_at, walk_as, walk_whole, word_put}
use Rattle.positions.specs.Remap.{alive, live, remap_of, mapped}
use Rattle.positions.specs.Inner.{Remap}
use Rattle.positions.specs.Moved.{pair_at, placed, moved_all}

-- ---- remap

module _ (dead : List ℕ) where
  pub live_on : (i : ℕ) → get_or dead i 0 ≡ 0 → live dead (i + 1) ≡ live dead i + 1
  live_on i e = rw (many_more (alive dead) i, eq-eqb (get_or dead i 0) 0 e)

  pub live_off : (i : ℕ) → (get_or dead i 0 ≡ 0 → ⊥) → live dead (i + 1) ≡ live dead i
  live_off i h = many_more (alive dead) i ∙ rw (ne_eqb (get_or dead i 0) 0 h) (omega arith)

  pub remap_of_lem : (map : List ℕ) → map ≡ remap_of dead → Remap dead map
  unfolding remap_of
  remap_of_lem map e = record {
    whole = e;
    long = rw e (each_word (live dead) (length dead + 1));
    at = λ i h. rw e (each_at (live dead) (length dead + 1) i (omega arith));
  }

  module _ (map : List ℕ) (r : Remap dead map) (v : ℕ) where
    pub moved_in : v ≤ length dead → get_or map v 0 ≡ mapped dead v
    unfolding mapped
    moved_in h = r.at v h ∙ rw (le-leb v (length dead) h)

    pub moved_less : v ≤ length dead → get_or map v 0 ≤ v
    moved_less h = omega (arith, r.at v h, many_few (alive dead) v)

  pub moved_out : (v : ℕ) → length dead < v → v ≡ mapped dead v
  unfolding mapped
  moved_out v h = rw (lt-leb v (length dead) h)

-- where the walk stands at i, with `at` counted
pub record Counted (dead xs old : List ℕ) (at i : ℕ) : Type 0 where
  pub walked : Walked xs old (each (λ k. live dead k ∷ []) i) i i
  pub counts : at ≡ live dead i

pub counted_none : (dead old : List ℕ) → Counted dead old old 0 0
unfolding each many
counted_none dead old = record { walked = walk_none old; counts = refl }

module _ {dead xs old : List ℕ} {at i : ℕ} (c : Counted dead xs old at i) where
  pub counted_more : (r : ℕ) → r ≡ bool_byte (alive dead i) → i < length dead → length old ≡ length dead + 1 → Counted dead (set xs i at) old (at + r) (i + 1)
  counted_more r e h l = record {
    walked = word_put (live dead) c.walked (omega arith) at c.counts;
    counts = counted_on (alive dead) i at r (alive dead i) c.counts e refl;
  }

  pub counted_few : at ≤ i
  counted_few = omega (arith, c.counts, many_few (alive dead) i)

  -- the last entry makes the table whole
  pub counted_whole : length dead ≤ i → i ≤ length dead → length old ≡ length dead + 1 → set xs (length dead) at ≡ remap_of dead
  unfolding remap_of
  counted_whole h l n =
      let q : i ≡ length dead = omega arith in
      let done : set xs i at ≡ each (λ k. live dead k ∷ []) (i + 1) = walk_whole (word_put (live dead) c.walked (omega arith) at c.counts)
      (omega arith) in
      rw q at done

pub ruleset counting = (counted_none, counted_more, counted_few, counted_whole, remap_of_lem)

pub ruleset reading = (moved_in, moved_less, moved_out)

-- ---- position pairs

-- where the loop stands at pair k
pub record Placed (dead xs old : List ℕ) (k : ℕ) : Type 0 where
  pub walked : Walked xs old (each (pair_at dead old) k) (2 * k) (2 * k)

pub placed_none : (dead old : List ℕ) → Placed dead old old 0
unfolding each
placed_none dead old = record { walked = walk_none old }

append_two : (l : List ℕ) (a b : ℕ) → (l ++ (a ∷ [])) ++ (b ∷ []) ≡ l ++ (a ∷ b ∷ [])
append_two l a b = append_assoc l (a ∷ []) (b ∷ [])

module _ {dead xs old : List ℕ} {k : ℕ} (p : Placed dead xs old k) where
  pub placed_more : (v : ℕ) → v ≡ mapped dead (get_or xs (2 * k) 0) → k < length old / 2 → Placed dead (set xs (2 * k) v) old (k + 1)
  placed_more v e h =
      let w = p.walked in
      let one = walk_put w v (omega arith) in
      let ys = set xs (2 * k) v in
      let two = rw (set-get_or ys (2 * k + 1) 0) at (walk_put one (get_or ys (2 * k + 1) 0) (omega arith)) in
      let a : v ≡ mapped dead (get_or old (2 * k) 0) = e ∙ ap (mapped dead) (walk_read w (2 * k) (omega arith)) in
      let b : get_or ys (2 * k + 1) 0 ≡ get_or old (2 * k + 1) 0 = walk_read one (2 * k + 1) (omega arith) in
      let l = each (pair_at dead old) k in
      let done : (l ++ (v ∷ [])) ++ (get_or ys (2 * k + 1) 0 ∷ []) ≡ each (pair_at dead old) (k + 1) = append_two l v (get_or ys (2 * k + 1) 0)
      ∙ rw (b, a) (sym (each_more (pair_at dead old) k)) in
      record { walked = walk_at (walk_as two (each (pair_at dead old) (k + 1)) done) (2 * (k + 1)) (2 * (k + 1)) (omega arith) (omega arith) }

  pub placed_whole : length old / 2 ≤ k → k ≤ length old / 2 → length old % 2 ≡ 0 → xs ≡ placed dead old
  unfolding placed
  placed_whole h l z = let e : k ≡ length old / 2 = omega arith in walk_whole p.walked (omega arith) ∙ ap (each (pair_at dead old)) e

pub ruleset placing = (placed_none, placed_more, placed_whole)

-- ---- every word

pub record Moving (dead xs old : List ℕ) (k : ℕ) : Type 0 where
  pub walked : Walked xs old (each (λ j. mapped dead (get_or old j 0) ∷ []) k) k k

pub moving_none : (dead old : List ℕ) → Moving dead old old 0
unfolding each
moving_none dead old = record { walked = walk_none old }

module _ {dead xs old : List ℕ} {k : ℕ} (p : Moving dead xs old k) where
  pub moving_more : (v : ℕ) → v ≡ mapped dead (get_or xs k 0) → k < length xs → Moving dead (set xs k v) old (k + 1)
  moving_more v e h =
      record {
        walked = word_put (λ j. mapped dead (get_or old j 0)) p.walked (omega (arith, p.walked.same)) v
            (e ∙ ap (mapped dead) (walk_read p.walked k (le_refl k)));
      }

  pub moving_whole : length xs ≤ k → k ≤ length old → xs ≡ moved_all dead old
  unfolding moved_all
  moving_whole h l =
      let e : k ≡ length old = omega (arith, p.walked.same) in
      walk_whole p.walked (omega (arith, p.walked.same)) ∙ ap (each (λ j. mapped dead (get_or old j 0) ∷ [])) e

pub ruleset moving = (moving_none, moving_more, moving_whole)
