-- What is left of the tables after a fold: counts that keep the table rules, buffers as long as lent, no more Phis, no operator that was dead.
-- Assumes nothing.
use Prim.Native.Nat.{ℕ, zero, suc, ◌+◌, ◌-◌, ◌*◌, ◌%◌, ◌/◌, ◌≤◌, ◌<◌}
use native.Mathlib.Omega.{arith}
use mathlib.Core.Path.{◌≡◌, refl, sym, ap, ◌∙◌}
use mathlib.Core.Logic.{◌⊎◌, inl, inr}
use mathlib.Core.Bool.{Bool, true, false, cond, ◌&&◌, and-true as and_yes, and-false}
use mathlib.Core.List.{List, [], ◌∷◌, ◌++◌}
use lib.Dec.{eqb, ltb}
use lib.ListN.{length, get_or, take, replicate, length-append, length-replicate, get_or-append, get_or-eq_default}
use lib.Seq.{get_or-append-add, take_all, take_at}
use mir.Val.{bool_byte}
use borrow.Author.Tests.{eqb-false, ltb-true, ltb-false}
use Rattle.laws.specs.All.{every, many}
use Rattle.laws.specs.Each.{each}
use Rattle.laws.proofs.Branch.{and-true}
use Rattle.laws.proofs.Each.{each_at, each_length, each_word}
use Rattle.laws.proofs.Many.{many_few, many_fewer, many_more}
use Rattle.ops.specs.Op.{Phi}
use Rattle.chunk.specs.Chunk.{stride, chunk_count, op_at, folds, is_phi}
use Rattle.positions.specs.Remap.{alive, live, remap_of}
use Rattle.compact.specs.Tables.{words_of, left_at, left, compacted}
use Rattle.compact.proofs.Left.{left_long}
use Rattle.positions.specs.Moved.{pair_at, placed}
use Rattle.phi_pass.specs.Phi.{paired, left_source, right_source, phi_mark_at as phi_mark, marked, pair_left, pairs_left, indexed}
use Rattle.phi_pass.proofs.Pairs.{marked_length, dead_stays}
use Rattle.laws.proofs.Counting.{many_ext, every_at}
use Rattle.finish.specs.Finish.{Tables, tables, sources_after, map_of, sources_of, renewed, finished}
use Rattle.finish.specs.Inner.{TableRoom}
use Rattle.refold.proofs.Spent.{waiting}

-- ---- how many of the live instructions pass a test of their opcode

module _ (dead w : List ℕ) where
  abbrev packed : ℕ → List ℕ
  packed k = each (left_at dead w) k

module _ (g : ℕ → Bool) (dead w : List ℕ) where
  abbrev lived : ℕ → Bool
  lived j = g (op_at w j) && alive dead j

  pub packed_many : (k : ℕ) → many (λ i. g (op_at (packed dead w k) i)) (live dead k) ≡ many lived k
  unfolding each many
  packed_many zero = refl
  packed_many (suc k) = go (alive dead k) (packed_many k)
    where
      p : List ℕ
      p = each (left_at dead w) k

      r : ℕ
      r = many (alive dead) k

      before : (rest : List ℕ) (i : ℕ) → i < r → g (op_at (p ++ rest) i) ≡ g (op_at p i)
      before rest i h = ap g (get_or-append p rest 0 (stride * i) (omega (arith, left_long dead w k)))

      same : (rest : List ℕ) → many (λ i. g (op_at p i)) r ≡ many lived k → many (λ i. g (op_at (p ++ rest) i)) r ≡ many lived k
      same rest ih = many_ext (λ i. g (op_at (p ++ rest) i)) (λ i. g (op_at p i)) r (before rest) ∙ ih

      at : op_at (p ++ words_of dead w k) r ≡ op_at w k
      at =
          let e : stride * r ≡ length p + 0 = omega (arith, left_long dead w k) in
          ap (λ (i : ℕ). get_or (p ++ words_of dead w k) i 0) e ∙ get_or-append-add p (words_of dead w k) 0 0

      go : (t : Bool) → many (λ i. g (op_at p i)) r ≡ many lived k
          → many (λ i. g (op_at (p ++ cond t (words_of dead w k) []) i)) (r + bool_byte t) ≡ many lived k + bool_byte
          (g (op_at w k) && t)
      go false ih =
          let z : r + 0 ≡ r = omega arith in
          ap (many (λ i. g (op_at (p ++ []) i))) z ∙ same [] ih ∙ rw (and-false (g (op_at w k))) (omega arith)
      go true ih =
          let rest = words_of dead w k in
          many_more (λ i. g (op_at (p ++ rest) i)) r ∙ rw (same rest ih, at, and_yes (g (op_at w k)))

-- ---- the marks of the Phi pass

-- past the end nothing is dead
alive_past : (dead : List ℕ) (k : ℕ) → length dead ≤ k → alive dead k ≡ true
alive_past dead k h = let e : get_or dead k 0 ≡ 0 = get_or-eq_default dead 0 h in rw e

-- a Phi that dies makes nothing alive
alive_marked : (w map sources dead : List ℕ) (k : ℕ) → alive (marked w map sources dead) k ≡ true → alive dead k ≡ true
unfolding marked
alive_marked w map sources dead k e = go (ltb k (length dead)) refl (alive dead k) refl
  where
    go : (u : Bool) → ltb k (length dead) ≡ u → (t : Bool) → alive dead k ≡ t → alive dead k ≡ true
    go false l t q = alive_past dead k (ltb-false k (length dead) l)
    go true l true q = q
    go true l false q =
        let x : get_or dead k 0 ≡ phi_mark w map sources dead k = dead_stays w map sources k dead (eqb-false (get_or dead k 0) 0 q) in
        let y : get_or (each (λ i. phi_mark w map sources dead i ∷ []) (length dead)) k 0 ≡ phi_mark w map sources dead k = each_at (phi_mark w map sources dead)
        (length dead) k (ltb-true k (length dead) l) in
        let z : get_or (marked w map sources dead) k 0 ≡ get_or dead k 0 = y ∙ sym x in
        sym (ap (λ (v : ℕ). eqb v 0) z) ∙ e

-- ---- whole pairs

module _ (w map sources dead : List ℕ) where
  pair_even : (k : ℕ) (t : Bool) → length (cond t (left_source map sources k ∷ right_source map sources k ∷ []) []) % 2 ≡ 0
  pair_even k true = refl
  pair_even k false = refl

  some_even : (n : ℕ) → length (each (pair_left w map sources dead) n) % 2 ≡ 0
  unfolding each
  some_even zero = refl
  some_even (suc n) =
      let e = length-append (each (pair_left w map sources dead) n) (pair_left w map sources dead n) in
      omega (arith, e, some_even n, pair_even n (alive dead n && paired w map sources n))

  pair_few : (k : ℕ) (t : Bool) → (t ≡ true → is_phi w k ≡ true)
      → length (cond t (left_source map sources k ∷ right_source map sources k ∷ []) []) ≤ 2 * bool_byte (is_phi w k)
  pair_few k true h = let e = h refl in rw e (omega arith)
  pair_few k false h = omega arith

  is_phi_lem : (k : ℕ) → alive dead k && paired w map sources k ≡ true → is_phi w k ≡ true
  unfolding paired
  is_phi_lem k e =
      let p = (and-true (alive dead k) (paired w map sources k) e).1 in
      (and-true (is_phi w k) (ltb k (length map) && ltb (get_or map k 0) (length sources / 2)) p).0

  some_few : (n : ℕ) → length (each (pair_left w map sources dead) n) ≤ 2 * many (is_phi w) n
  unfolding each many
  some_few zero = omega arith
  some_few (suc n) =
      let e = length-append (each (pair_left w map sources dead) n) (pair_left w map sources dead n) in
      omega (arith, e, some_few n, pair_few n (alive dead n && paired w map sources n) (is_phi_lem n))

  -- a pair for a Phi at the most
  pairs_few : length (pairs_left w map sources dead) ≤ 2 * many (is_phi w) (length dead)
  unfolding pairs_left
  pairs_few = some_few (length dead)

  pairs_even : length (pairs_left w map sources dead) % 2 ≡ 0
  unfolding pairs_left
  pairs_even = some_even (length dead)

placed_length : (dead t : List ℕ) → length t % 2 ≡ 0 → length (placed dead t) ≡ length t
unfolding placed
placed_length dead t e = each_length (pair_at dead t) 2 (λ k. refl) (length t / 2) ∙ omega arith

-- ---- what is left

pub record Settled (t u : Tables) : Type 0 where
  pub few : u.left.instructions ≤ length t.dead
  pub entries : (u.left.map ≡ 0) ⊎ (u.left.map ≡ u.left.instructions)
  pub even : u.left.sources % 2 ≡ 0
  pub pairs : u.left.sources ≤ length u.sources
  pub map : length u.map ≡ length t.map
  pub sources : length u.sources ≡ length t.sources
  pub stmts : length u.stmts ≡ length t.stmts
  pub calls : length u.calls ≡ length t.calls
  pub dead : length u.dead ≡ length t.dead
  pub remap : length u.remap ≡ length t.remap
  pub long : length u.code ≡ length t.code
  pub operators : many (λ k. folds (op_at (take (stride * u.left.instructions) u.code) k)) u.left.instructions ≤ many (waiting t.code t.dead)
      (length t.dead)
  pub phis : many (is_phi (take (stride * u.left.instructions) u.code)) u.left.instructions ≤ many (is_phi t.code) (length t.dead)

module _ (t : Tables) (fit : TableRoom t) (all : t.left.instructions ≡ length t.dead) (entries : (t.left.map ≡ 0) ⊎ (t.left.map ≡ length t.dead))
    (even : t.left.sources % 2 ≡ 0) where
  abbrev d : List ℕ
  d = marked t.code (map_of t) (sources_of t) t.dead

  abbrev m : Tables
  m = tables t.code t.map t.sources t.stmts t.calls d t.remap t.left

  d_long : length d ≡ length t.dead
  d_long = marked_length t.code (map_of t) (sources_of t) t.dead

  n_code : length t.code ≡ stride * length d
  n_code = fit.code ∙ ap (λ (x : ℕ). stride * x) (sym d_long)

  all_alive : every (alive d) (length d) ≡ true → (k : ℕ) → alive t.dead k ≡ true
  all_alive e k = alive_marked t.code (map_of t) (sources_of t) t.dead k (go (ltb k (length d)) refl)
    where
      go : (u : Bool) → ltb k (length d) ≡ u → alive d k ≡ true
      go true l = every_at (alive d) (length d) k e (ltb-true k (length d) l)
      go false l = alive_past d k (ltb-false k (length d) l)

  idle : every (alive d) (length d) ≡ true → Settled t m
  idle e =
      let w : take (stride * t.left.instructions) t.code ≡ t.code = take_all (stride * t.left.instructions) t.code (omega (arith, fit.code)) in
      record {
        few = omega arith;
        entries = rw all entries;
        even = even;
        pairs = fit.words;
        map = refl;
        sources = refl;
        stmts = refl;
        calls = refl;
        dead = d_long;
        remap = refl;
        long = refl;
        operators = rw (w, all) (many_fewer (λ k. folds (op_at t.code k)) (waiting t.code t.dead) (λ k h. rw (h, all_alive e k)) (length t.dead));
        phis = rw (w, all) (omega arith);
      }

  abbrev new : List ℕ
  new = compacted d t.code

  left_length : length (left d t.code) ≡ stride * live d (length d)
  unfolding left
  left_length = left_long d t.code (length d)

  new_length : length new ≡ length t.code
  unfolding compacted
  new_length =
      let l = left d t.code in
      length-append l (replicate (length t.code - length l) 0)
      ∙ omega (arith, length-replicate {A = ℕ} (length t.code - length l) 0, left_length, many_few (alive d) (length d), n_code)

  new_cut : take (stride * live d (length d)) new ≡ left d t.code
  unfolding compacted
  new_cut = take_at (left d t.code) (replicate (length t.code - length (left d t.code)) 0) (stride * live d (length d)) left_length

  module _ (g : ℕ → Bool) where
    left_many : many (λ k. g (op_at (left d t.code) k)) (live d (length d)) ≡ many (λ j. g (op_at t.code j) && alive d j) (length d)
    unfolding left
    left_many = packed_many g d t.code (length d)

    left_few : many (λ k. g (op_at (left d t.code) k)) (live d (length d)) ≤ many (λ j. g (op_at t.code j) && alive t.dead j) (length d)
    left_few =
        rw left_many
        (many_fewer (λ j. g (op_at t.code j) && alive d j) (λ j. g (op_at t.code j) && alive t.dead j)
        (λ j h.
        let p = and-true (g (op_at t.code j)) (alive d j) h in
        rw (p.0, alive_marked t.code (map_of t) (sources_of t) t.dead j p.1)) (length d))

    left_fewer : many (λ k. g (op_at (left d t.code) k)) (live d (length d)) ≤ many (λ j. g (op_at t.code j)) (length d)
    left_fewer =
        rw left_many
        (many_fewer (λ j. g (op_at t.code j) && alive d j) (λ j. g (op_at t.code j)) (λ j h. (and-true (g (op_at t.code j)) (alive d j) h).0) (length d))

  entry : (b : Bool) (n : ℕ) → (cond b 0 n ≡ 0) ⊎ (cond b 0 n ≡ n)
  entry true n = inl refl
  entry false n = inr refl

  map_length : length (indexed new) ≡ chunk_count new
  unfolding indexed
  map_length = each_word _ (chunk_count new)

  remap_length : length (remap_of d) ≡ length d + 1
  unfolding remap_of
  remap_length = each_word _ (length d + 1)

  abbrev l : List ℕ
  l = pairs_left t.code (map_of t) (sources_of t) d

  after_length : length (sources_after t.code (map_of t) (sources_of t) d (length t.sources)) ≡ length l + (length t.sources - length l)
  unfolding sources_after
  after_length = length-append l (replicate (length t.sources - length l) 0)
      ∙ ap (λ (x : ℕ). length l + x) (length-replicate (length t.sources - length l) 0)

  phis_of : many (is_phi t.code) (length d) ≡ many (is_phi t.code) (length t.dead)
  phis_of = ap (many (is_phi t.code)) d_long

  anew : Settled t (renewed m)
  unfolding renewed
  anew =
      record {
        few = omega (arith, many_few (alive d) (length d), d_long);
        entries = entry (eqb (many (is_phi new) (chunk_count new)) 0) (live d (length d));
        even = pairs_even t.code (map_of t) (sources_of t) d;
        pairs = omega (arith, after_length);
        map = omega (arith, map_length, new_length, fit.code, fit.map);
        sources = omega (arith, after_length, pairs_few t.code (map_of t) (sources_of t) d, phis_of, fit.pairs);
        stmts = placed_length d t.stmts fit.stmts;
        calls = placed_length d t.calls fit.calls;
        dead = d_long;
        remap = omega (arith, remap_length, d_long, fit.remap);
        long = new_length;
        operators = rw (new_cut, ← d_long) (left_few folds);
        phis = rw (new_cut, ← d_long) (left_fewer (λ o. eqb o Phi));
      }

  pub settled : Settled t (finished t)
  unfolding finished
  settled = go (every (alive d) (length d)) refl
    where
      go : (b : Bool) → every (alive d) (length d) ≡ b → Settled t (cond b m (renewed m))
      go true e = idle e
      go false e = anew
