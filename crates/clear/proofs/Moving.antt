-- Laws of `packed_list` and `freed`, for the loops that write them in place. Assumes nothing.
use Prim.Native.Nat.{ℕ, ◌+◌, ◌≤◌, ◌<◌}
use native.Mathlib.Nat.{le_refl}
use native.Mathlib.Omega.{arith}
use mathlib.Core.Path.{◌≡◌, refl, sym, ap, ◌∙◌}
use mathlib.Core.Bool.{Bool, true, false, not}
use mathlib.Core.List.{List, [], ◌∷◌, ◌++◌, append-nil}
use lib.Dec.{eqb}
use borrow.Author.Tests.{eq-eqb, ne_eqb}
use lib.ListN.{length, get_or, set}
use Rattle.laws.specs.All.{many}
use Rattle.laws.specs.Each.{each}
use Rattle.laws.proofs.Many.{many_more, many_few}
use Rattle.laws.proofs.Each.{each_more}
use Rattle.laws.proofs.InPlace.{Walked, walk_none, walk_read, walk_pass, walk_put, walk_as, walk_end, word_put}
use Rattle.named.specs.Unused.{packed_at, packed_list, numbered}
use Rattle.named.specs.Inner.{marked_in}
use Rattle.clear.specs.Inner.{Moved, Down}

-- ---- the constants that move down

module _ (f : ℕ → Bool) (l : List ℕ) (i : ℕ) where
  kept_on : f i ≡ true → each (packed_at f l) (i + 1) ≡ each (packed_at f l) i ++ (get_or l i 0 ∷ [])
  kept_on e = each_more (packed_at f l) i ∙ rw e

  kept_off : f i ≡ false → each (packed_at f l) (i + 1) ≡ each (packed_at f l) i
  kept_off e = each_more (packed_at f l) i ∙ rw e (append-nil (each (packed_at f l) i))

module _ (f : ℕ → Bool) (i : ℕ) where
  count_on : f i ≡ true → many f (i + 1) ≡ many f i + 1
  count_on e = many_more f i ∙ rw e

  count_off : f i ≡ false → many f (i + 1) ≡ many f i
  count_off e = many_more f i ∙ rw e (omega arith)

-- where one list stands at i, with `to` kept
pub record Keeping (f : ℕ → Bool) (xs old : List ℕ) (to i : ℕ) : Type 0 where
  pub walked : Walked xs old (each (packed_at f old) i) to i

keeping_none : (f : ℕ → Bool) (old : List ℕ) → Keeping f old old 0 0
unfolding each
keeping_none f old = record { walked = walk_none old }

module _ {f : ℕ → Bool} {xs old : List ℕ} {to i : ℕ} (k : Keeping f xs old to i) where
  keeping_skip : f i ≡ false → Keeping f xs old to (i + 1)
  keeping_skip e = record { walked = walk_as (walk_pass k.walked 1) (each (packed_at f old) (i + 1)) (sym (kept_off f old i e)) }

  keeping_put : f i ≡ true → i < length old → Keeping f (set xs to (get_or xs i 0)) old (to + 1) (i + 1)
  keeping_put e h =
      let r = walk_read k.walked i (le_refl i) in
      record { walked = walk_as (walk_put k.walked (get_or xs i 0) h) (each (packed_at f old) (i + 1)) (rw r (sym (kept_on f old i e))) }

  keeping_done : (m : ℕ) → i ≡ m → Moved f m to old xs
  unfolding packed_list
  keeping_done m e = record { front = k.walked.front ∙ ap (each (packed_at f old)) e; rest = rw e at k.walked.rest }

-- where all three stand
pub record Going (kinds kinds₀ words words₀ scratch scratch₀ : List ℕ) (to i : ℕ) : Type 0 where
  pub in_kinds : Keeping (marked_in scratch₀) kinds kinds₀ to i
  pub in_words : Keeping (marked_in scratch₀) words words₀ to i
  pub numbers : Walked scratch scratch₀ (each (λ k. many (marked_in scratch₀) k ∷ []) i) i i
  pub counts : to ≡ many (marked_in scratch₀) i

pub going_none : (kinds words scratch : List ℕ) → Going kinds kinds words words scratch scratch 0 0
unfolding each many
going_none kinds words scratch = record {
  in_kinds = keeping_none (marked_in scratch) kinds;
  in_words = keeping_none (marked_in scratch) words;
  numbers = walk_none scratch;
  counts = refl;
}

module _ {kinds kinds₀ words words₀ scratch scratch₀ : List ℕ} {to i : ℕ} (g : Going kinds kinds₀ words words₀ scratch scratch₀ to i) where
  read_mark : (b : Bool) → eqb (get_or scratch i 0) 0 ≡ b → marked_in scratch₀ i ≡ not b
  read_mark b e = let r = walk_read g.numbers i (le_refl i) in rw (← r, e)

  pub going_skip : (m : ℕ) → get_or scratch i 0 ≡ 0 → i < m → m ≤ length scratch₀
      → Going kinds kinds₀ words words₀ (set scratch i to) scratch₀ to (i + 1)
  going_skip m e b l =
      let u = read_mark true (eq-eqb _ 0 e) in
      let h : i < length scratch₀ = omega arith in
      record {
        in_kinds = keeping_skip g.in_kinds u;
        in_words = keeping_skip g.in_words u;
        numbers = word_put (many (marked_in scratch₀)) g.numbers h to g.counts;
        counts = g.counts ∙ sym (count_off (marked_in scratch₀) i u);
      }

  pub going_put : (m : ℕ) → (get_or scratch i 0 ≡ 0 → ⊥) → i < m → m ≤ length scratch₀ → m ≤ length kinds₀ → m ≤ length words₀
      → Going (set kinds to (get_or kinds i 0)) kinds₀ (set words to (get_or words i 0)) words₀ (set scratch i to) scratch₀ (to + 1) (i + 1)
  going_put m e b l k w =
      let u = read_mark false (ne_eqb _ 0 e) in
      let h : i < length scratch₀ = omega arith in
      record {
        in_kinds = keeping_put g.in_kinds u (omega arith);
        in_words = keeping_put g.in_words u (omega arith);
        numbers = word_put (many (marked_in scratch₀)) g.numbers h to g.counts;
        counts = ap (λ (x : ℕ). x + 1) g.counts ∙ sym (count_on (marked_in scratch₀) i u);
      }

  pub going_few : to ≤ i
  going_few = omega (arith, g.counts, many_few (marked_in scratch₀) i)

  pub going_done : (m : ℕ) → m ≤ i → i ≤ m → Down (marked_in scratch₀) m to kinds₀ kinds words₀ words scratch₀ scratch
  unfolding numbered
  going_done m h l =
      let e : i ≡ m = omega arith in
      let few = going_few in
      record {
        count = g.counts ∙ ap (many (marked_in scratch₀)) e;
        few = omega arith;
        kinds_moved = keeping_done g.in_kinds m e;
        words_moved = keeping_done g.in_words m e;
        numbers = rw e at (walk_end g.numbers);
      }
