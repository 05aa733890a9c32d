-- Laws of the Phi pass, for the loops that write its tables. Assumes nothing.
use Prim.Native.Nat.{ℕ, zero, suc, ◌+◌, ◌-◌, ◌*◌, ◌/◌, ◌%◌, ◌≤◌, ◌<◌, zero-le}
use native.Mathlib.Nat.{le_refl}
use native.Mathlib.Decide.{ℕ_discrete}
use native.Mathlib.Numerals.{add-one}
use native.Mathlib.Omega.{arith}
use mathlib.Core.Path.{◌≡◌, refl, sym, ap, ◌∙◌}
use mathlib.Core.Bool.{Bool, true, false, cond, ◌&&◌}
use mathlib.Core.List.{List, [], ◌∷◌, ◌++◌, append-nil}
use lib.Dec.{eqb}
use lib.ListN.{length, get_or, set, take, replicate}
use lib.Seq.{take-suc, take-suc-set, set-get_or}
use borrow.Author.Tests.{eq-eqb, ne_eqb, le-ltb, eqb-true}
use mir.Val.{bool_byte}
use Rattle.laws.specs.All.{many}
use Rattle.laws.specs.Each.{each}
use Rattle.laws.proofs.Branch.{and-true}
use Rattle.laws.proofs.Many.{many_more, many_few, counted_on}
use Rattle.laws.proofs.Each.{each_more, each_word}
use Rattle.laws.proofs.InPlace.{Walked, walk_none, walk_read, walk_two, walk_at, walk_as, walk_whole, word_put}
use Rattle.chunk.specs.Chunk.{chunk_count, op_at, is_phi}
use Rattle.ops.specs.Op.{Phi}
use Rattle.phi_pass.specs.Phi.{paired, left_source, right_source, noop, phi_mark_at, marked, pair_left, pairs_left, phi_entry, indexed}
use Rattle.phi_pass.specs.Inner.{spread}

-- ---- which Phis die

module _ (w map sources : List ℕ) (i : ℕ) where
  a_phi : paired w map sources i ≡ true → is_phi w i ≡ true
  unfolding paired
  a_phi h = (and-true (is_phi w i) _ h).0

  pub dead_stays : (dead : List ℕ) → (get_or dead i 0 ≡ 0 → ⊥) → get_or dead i 0 ≡ phi_mark_at w map sources dead i
  unfolding phi_mark_at
  dead_stays dead h = rw (ne_eqb (get_or dead i 0) 0 h)

-- where the marking stands at i
pub record Marked (w map sources xs old : List ℕ) (i : ℕ) : Type 0 where
  pub walked : Walked xs old (each (λ k. phi_mark_at w map sources old k ∷ []) i) i i

pub marked_none : (w map sources old : List ℕ) → Marked w map sources old old 0
unfolding each
marked_none w map sources old = record { walked = walk_none old }

mark_same : (w map sources xs old : List ℕ) (i : ℕ) → get_or xs i 0 ≡ get_or old i 0 → phi_mark_at w map sources xs i ≡ phi_mark_at w map sources old i
unfolding phi_mark_at
mark_same w map sources xs old i e = rw e

pub marked_length : (w map sources dead : List ℕ) → length (marked w map sources dead) ≡ length dead
unfolding marked
marked_length w map sources dead = each_word (phi_mark_at w map sources dead) (length dead)

module _ {w map sources xs old : List ℕ} {i : ℕ} (m : Marked w map sources xs old i) where
  pub marked_more : (v : ℕ) → v ≡ phi_mark_at w map sources xs i → i < length old → Marked w map sources (set xs i v) old (i + 1)
  marked_more v e h =
      record { walked = word_put (phi_mark_at w map sources old) m.walked h v (e ∙ mark_same w map sources xs old i (walk_read m.walked i (le_refl i))) }

  pub marked_whole : length old ≤ i → i ≤ length old → xs ≡ marked w map sources old
  unfolding marked
  marked_whole h l = let e : i ≡ length old = omega arith in rw e at (walk_whole m.walked h)

-- with no entry in phi_map no Phi has a pair, and no mark changes
pub unpaired : (w map sources : List ℕ) (i : ℕ) → length map ≡ 0 → paired w map sources i ≡ false
unfolding paired
unpaired w map sources i e = rw (e, le-ltb i 0 zero-le) (go (is_phi w i))
  where
    go : (p : Bool) → p && false ≡ false
    go true = refl
    go false = refl

mark_stays : (w map sources old : List ℕ) (i : ℕ) → length map ≡ 0 → phi_mark_at w map sources old i ≡ get_or old i 0
unfolding phi_mark_at noop
mark_stays w map sources old i e = rw (unpaired w map sources i e) (go (eqb (get_or old i 0) 0) refl)
  where
    go : (t : Bool) → eqb (get_or old i 0) 0 ≡ t → cond t 0 (get_or old i 0) ≡ get_or old i 0
    go true h = sym (eqb-true (get_or old i 0) 0 h)
    go false h = refl

marks_stay : (w map sources old : List ℕ) → length map ≡ 0 → (i : ℕ) → i ≤ length old → Marked w map sources old old i
marks_stay w map sources old e zero l = marked_none w map sources old
marks_stay w map sources old e (suc i) l =
    let m = marked_more (marks_stay w map sources old e i (omega arith)) (phi_mark_at w map sources old i) refl (omega arith) in
    let same : set old i (phi_mark_at w map sources old i) ≡ old = ap (set old i) (mark_stays w map sources old i e) ∙ set-get_or old i 0 in
    rw (same, add-one i) at m

pub none_marked : (w map sources old : List ℕ) → length map ≡ 0 → old ≡ marked w map sources old
none_marked w map sources old e = marked_whole (marks_stay w map sources old e (length old) (le_refl (length old))) (le_refl (length old))
    (le_refl (length old))

-- ---- the surviving pairs

spread_more : (xs : List ℕ) (v : ℕ) → spread (xs ++ (v ∷ [])) ≡ spread xs ++ (v / 65536 ∷ v % 65536 ∷ [])
unfolding spread
spread_more [] v = refl
spread_more (x ∷ xs) v = ap (λ (l : List ℕ). x / 65536 ∷ x % 65536 ∷ l) (spread_more xs v)

pub spread_length : (xs : List ℕ) → length (spread xs) ≡ 2 * length xs
unfolding spread
spread_length [] = refl
spread_length (x ∷ xs) = omega (arith, spread_length xs)

module _ (w map sources dead : List ℕ) (i : ℕ) where
  pair_on : get_or dead i 0 ≡ 0 → paired w map sources i ≡ true
      → each (pair_left w map sources dead) (i + 1) ≡ each (pair_left w map sources dead) i ++ (left_source map sources i ∷ right_source map sources i ∷ [])
  pair_on e h = each_more (pair_left w map sources dead) i ∙ rw (eq-eqb (get_or dead i 0) 0 e, h)

  pair_dead : (get_or dead i 0 ≡ 0 → ⊥) → each (pair_left w map sources dead) (i + 1) ≡ each (pair_left w map sources dead) i
  pair_dead h = each_more (pair_left w map sources dead) i ∙ rw (ne_eqb (get_or dead i 0) 0 h) (append-nil (each (pair_left w map sources dead) i))

  pair_off : get_or dead i 0 ≡ 0 → paired w map sources i ≡ false → each (pair_left w map sources dead) (i + 1) ≡ each (pair_left w map sources dead) i
  pair_off e h = each_more (pair_left w map sources dead) i ∙ rw (eq-eqb (get_or dead i 0) 0 e, h) (append-nil (each (pair_left w map sources dead) i))

-- where the gathering stands at i, with `to` pairs
pub record Gathered (w map sources dead queue : List ℕ) (to i : ℕ) : Type 0 where
  pub pairs : spread (take to queue) ≡ each (pair_left w map sources dead) i
  pub few : to ≤ many (is_phi w) i

pub gathered_none : (w map sources dead queue : List ℕ) → Gathered w map sources dead queue 0 0
unfolding each spread
gathered_none w map sources dead queue = record { pairs = refl; few = omega arith }

module _ {w map sources dead queue : List ℕ} {to i : ℕ} (g : Gathered w map sources dead queue to i) where
  pub gathered_dead : (get_or dead i 0 ≡ 0 → ⊥) → Gathered w map sources dead queue to (i + 1)
  gathered_dead h = record { pairs = g.pairs ∙ sym (pair_dead w map sources dead i h); few = omega (arith, g.few, many_more (is_phi w) i) }

  pub gathered_skip : get_or dead i 0 ≡ 0 → paired w map sources i ≡ false → Gathered w map sources dead queue to (i + 1)
  gathered_skip z h =
      record { pairs = g.pairs ∙ sym (pair_off w map sources dead i z h); few = omega (arith, g.few, many_more (is_phi w) i) }

  pub gathered_put : (a b m : ℕ) → get_or dead i 0 ≡ 0 → paired w map sources i ≡ true → a ≡ left_source map sources i → b ≡ right_source map sources i
      → b < 65536 → length queue ≡ m → length dead ≤ m → to ≤ i → i < length dead
      → Gathered w map sources dead (set queue to (a * 65536 + b)) (to + 1) (i + 1)
  gathered_put a b m z h e f n p o x y =
      let l : to < length queue = omega arith in
      let q : (a * 65536 + b) / 65536 ≡ left_source map sources i = omega arith in
      let r : (a * 65536 + b) % 65536 ≡ right_source map sources i = omega arith in
      let s : many (is_phi w) (i + 1) ≡ many (is_phi w) i + 1 = many_more (is_phi w) i ∙ rw (a_phi w map sources i h) in
      record {
        pairs =
            ap spread (rw (add-one to) (take-suc-set queue to (a * 65536 + b) l)) ∙ spread_more (take to queue) (a * 65536 + b)
            ∙ rw (g.pairs, q, r) (sym (pair_on w map sources dead i z h));
        few = omega (arith, g.few);
      }

  pub gathered_few : to ≤ i
  gathered_few = omega (arith, g.few, many_few (is_phi w) i)

  module _ (h : length dead ≤ i) (l : i ≤ length dead) where
    pub gathered_whole : spread (take to queue) ≡ pairs_left w map sources dead
    unfolding pairs_left
    gathered_whole = let e : i ≡ length dead = omega arith in g.pairs ∙ ap (each (pair_left w map sources dead)) e

    pub gathered_all : to ≤ many (is_phi w) (length dead)
    gathered_all = let e : i ≡ length dead = omega arith in rw e at g.few

-- with no entry in phi_map there are none
none_gathered : (w map sources dead queue : List ℕ) → length map ≡ 0 → (i : ℕ) → Gathered w map sources dead queue 0 i
none_gathered w map sources dead queue e zero = gathered_none w map sources dead queue
none_gathered w map sources dead queue e (suc i) = rw (add-one i) at (go (none_gathered w map sources dead queue e i) (ℕ_discrete (get_or dead i 0) 0))
  where
    go : Gathered w map sources dead queue 0 i → Dec (get_or dead i 0 ≡ 0) → Gathered w map sources dead queue 0 (i + 1)
    go g (yes z) = gathered_skip g z (unpaired w map sources i e)
    go g (no z) = gathered_dead g z

module _ (w map sources dead queue : List ℕ) (e : length map ≡ 0) where
  pub none_left : spread (take 0 queue) ≡ pairs_left w map sources dead
  none_left = gathered_whole (none_gathered w map sources dead queue e (length dead)) (le_refl (length dead)) (le_refl (length dead))

-- where the spreading stands at pair j
pub record Spread (queue xs old : List ℕ) (j : ℕ) : Type 0 where
  pub walked : Walked xs old (spread (take j queue)) (2 * j) (2 * j)

pub spread_none : (queue old : List ℕ) → Spread queue old old 0
unfolding spread
spread_none queue old = record { walked = walk_none old }

module _ {queue xs old : List ℕ} {j : ℕ} (s : Spread queue xs old j) where
  pub spread_on : (a b m : ℕ) → a ≡ get_or queue j 0 / 65536 → b ≡ get_or queue j 0 % 65536 → j < m → m ≤ length queue → 2 * m ≤ length old
      → Spread queue (set (set xs (2 * j) a) (2 * j + 1) b) old (j + 1)
  spread_on a b m e f h l o =
      let w = s.walked in
      let two = walk_two w a b (omega arith) in
      let done : spread (take j queue) ++ (a ∷ b ∷ []) ≡ spread (take (j + 1) queue) = rw (e, f, add-one j, take-suc queue j 0 (omega arith))
      (sym (spread_more (take j queue) (get_or queue j 0))) in
      record { walked = walk_at (walk_as two (spread (take (j + 1) queue)) done) (2 * (j + 1)) (2 * (j + 1)) (omega arith) (omega arith) }

  pub spread_whole : (m : ℕ) (end : List ℕ) → m ≤ j → j ≤ m → end ≡ take (2 * m) xs ++ replicate (length xs - 2 * m) 0
      → end ≡ spread (take m queue) ++ replicate (length old - 2 * m) 0
  spread_whole m end h l e = let q : j ≡ m = omega arith in let w = rw q at s.walked in e ∙ rw (w.front, w.same)

-- ---- phi_map

pub record Indexed (w xs old : List ℕ) (next i : ℕ) : Type 0 where
  pub walked : Walked xs old (each (λ k. phi_entry (is_phi w k) (many (is_phi w) k) ∷ []) i) i i
  pub counts : next ≡ many (is_phi w) i

pub indexed_none : (w old : List ℕ) → Indexed w old old 0 0
unfolding each many
indexed_none w old = record { walked = walk_none old; counts = refl }

module _ {w xs old : List ℕ} {next i : ℕ} (x : Indexed w xs old next i) where
  pub indexed_more : (o v r : ℕ) → o ≡ op_at w i → v ≡ phi_entry (eqb o Phi) next → r ≡ bool_byte (eqb o Phi) → i < length old
      → Indexed w (set xs i v) old (next + r) (i + 1)
  indexed_more o v r e f g h =
      record {
        walked = word_put (λ k. phi_entry (is_phi w k) (many (is_phi w) k)) x.walked h v (f ∙ rw (e, x.counts));
        counts = counted_on (is_phi w) i next r (eqb o Phi) x.counts g (rw e);
      }

  pub indexed_few : next ≤ i
  indexed_few = omega (arith, x.counts, many_few (is_phi w) i)

  module _ (s : length old ≡ chunk_count w) (h : length old ≤ i) (l : i ≤ length old) where
    pub indexed_count : next ≡ many (is_phi w) (chunk_count w)
    indexed_count = let e : i ≡ chunk_count w = omega arith in x.counts ∙ ap (many (is_phi w)) e

    pub indexed_whole : xs ≡ indexed w
    unfolding indexed
    indexed_whole = let e : i ≡ chunk_count w = omega arith in rw e at (walk_whole x.walked h)

pub ruleset marking = (none_marked, marked_none, marked_more, marked_whole)

pub ruleset gathering = (none_left, gathered_none, gathered_dead, gathered_skip, gathered_put, gathered_few, gathered_whole, gathered_all)

pub ruleset spreading = (spread_none, spread_on, spread_whole)

pub ruleset indexing = (indexed_none, indexed_more, indexed_few, indexed_count, indexed_whole)
