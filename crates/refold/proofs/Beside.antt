-- Compaction and the Phi pass keep two chunks alike that differ only in where their constants stand. Assumes nothing.
use Prim.Native.Nat.{ℕ, zero, suc, ◌+◌, ◌-◌, ◌*◌, ◌/◌, ◌%◌, ◌≤◌, ◌<◌}
use native.Mathlib.Omega.{arith}
use mathlib.Core.Path.{◌≡◌, refl, sym, ap, ◌∙◌}
use mathlib.Core.Bool.{Bool, true, false, cond, false≢true}
use mathlib.Core.List.{List, [], ◌∷◌, ◌++◌}
use lib.Dec.{eqb, ltb}
use lib.ListN.{length, get_or, take, replicate, length-append, length-replicate, get_or-append, get_or-eq_default}
use lib.Seq.{get_or-append-add}
use borrow.Author.Tests.{ltb-true, ltb-false}
use Rattle.laws.specs.All.{every, many}
use Rattle.laws.specs.Each.{each}
use Rattle.laws.proofs.Each.{each_ext}
use Rattle.ops.specs.Op.{Phi}
use Rattle.landings.specs.Landings.{landings_of}
use Rattle.landings.proofs.Kept.{landings_same}
use Rattle.chunk.specs.Chunk.{stride, chunk_count, op_at, mark_at, operand_at, marks_jump, names, is_phi}
use Rattle.fold.specs.Plan.{Chunk}
use Rattle.positions.specs.Remap.{alive, live}
use Rattle.compact.specs.Tables.{moved_operand, words_of, left_at, left, compacted}
use Rattle.compact.proofs.Left.{left_long}
use Rattle.phi_pass.specs.Phi.{paired, noop, phi_mark_at as phi_mark, marked, pair_left, pairs_left, indexed}
use Rattle.laws.proofs.Counting.{many_ext, zeros_at}
use Rattle.clear.proofs.Alike.{Loads, Alike}
use Rattle.finish.specs.Finish.{Tables, tables, sources_after, renewed, finished}
use Rattle.finish.specs.declared.Left.{Left}

abbrev name_mark : ℕ → Bool
name_mark x = eqb (x / 2 % 2) 1

abbrev jump_mark : ℕ → Bool
jump_mark x = eqb (x % 2) 1

module _ (limit : ℕ) (s t : Chunk) where
  -- two instructions, word by word
  pub record Pair (o m x o' m' x' : ℕ) : Type 0 where
    pub op : o ≡ o'
    pub mark : m ≡ m'
    pub plain : name_mark m ≡ false → x ≡ x'
    pub load : name_mark m ≡ true → Loads limit s t x x'
    pub goal : jump_mark m ≡ true → x ≡ x'

  -- two codes
  abbrev pub Like : List ℕ → List ℕ → Type 0
  Like u v = (k : ℕ) → Pair (op_at u k) (mark_at u k) (operand_at u k) (op_at v k) (mark_at v k) (operand_at v k)

  none : Pair 0 0 0 0 0 0
  none = record { op = refl; mark = refl; plain = λ e. refl; load = λ e. absurd (false≢true e); goal = λ e. absurd (false≢true e) }

  -- past its end a code has zeros
  like_past : (u v : List ℕ) (k : ℕ) → length u ≤ stride * k → length v ≤ stride * k
      → Pair (op_at u k) (mark_at u k) (operand_at u k) (op_at v k) (mark_at v k) (operand_at v k)
  like_past u v k h l =
      rw (
        zero_at u (stride * k) h,
        zero_at u (stride * k + 1) (omega arith),
        zero_at u (stride * k + 2) (omega arith),
        zero_at v (stride * k) l,
        zero_at v (stride * k + 1) (omega arith),
        zero_at v (stride * k + 2) (omega arith),
      ) none
    where
      zero_at : (l : List ℕ) (i : ℕ) → length l ≤ i → get_or l i 0 ≡ 0
      zero_at l i h = get_or-eq_default l 0 h

  append_like : (u v u' v' : List ℕ) (m : ℕ) → length u ≡ stride * m → length v ≡ stride * m → Like u v → Like u' v' → Like (u ++ u') (v ++ v')
  append_like u v u' v' m lu lv p q k = go (ltb k m) refl
    where
      near : (l l' : List ℕ) (j : ℕ) → length l ≡ stride * m → k < m → j < stride → get_or (l ++ l') (stride * k + j) 0 ≡ get_or l (stride * k + j) 0
      near l l' j e h b = get_or-append l l' 0 (stride * k + j) (omega arith)

      far : (l l' : List ℕ) (j : ℕ) → length l ≡ stride * m → m ≤ k → get_or (l ++ l') (stride * k + j) 0 ≡ get_or l' (stride * (k - m) + j) 0
      far l l' j e h =
          let i : stride * k + j ≡ length l + (stride * (k - m) + j) = omega arith in
          ap (λ (x : ℕ). get_or (l ++ l') x 0) i ∙ get_or-append-add l l' (stride * (k - m) + j) 0

      first : (l : List ℕ) (i : ℕ) → get_or l (stride * i) 0 ≡ get_or l (stride * i + 0) 0
      first l i = let e : stride * i ≡ stride * i + 0 = omega arith in ap (λ (x : ℕ). get_or l x 0) e

      go : (b : Bool) → ltb k m ≡ b
          → Pair (op_at (u ++ u') k) (mark_at (u ++ u') k) (operand_at (u ++ u') k) (op_at (v ++ v') k) (mark_at (v ++ v') k) (operand_at (v ++ v') k)
      go true e =
          let h = ltb-true k m e in
          rw (
            first (u ++ u') k ∙ near u u' 0 lu h (omega arith) ∙ sym (first u k),
            near u u' 1 lu h (omega arith),
            near u u' 2 lu h (omega arith),
            first (v ++ v') k ∙ near v v' 0 lv h (omega arith) ∙ sym (first v k),
            near v v' 1 lv h (omega arith),
            near v v' 2 lv h (omega arith),
          ) (p k)
      go false e =
          let h = ltb-false k m e in
          rw (
            first (u ++ u') k ∙ far u u' 0 lu h ∙ sym (first u' (k - m)),
            far u u' 1 lu h,
            far u u' 2 lu h,
            first (v ++ v') k ∙ far v v' 0 lv h ∙ sym (first v' (k - m)),
            far v v' 1 lv h,
            far v v' 2 lv h,
          ) (q (k - m))

  zeros_like : (n m : ℕ) → Like (replicate n 0) (replicate m 0)
  zeros_like n m k =
      rw (
        zeros_at n (stride * k),
        zeros_at n (stride * k + 1),
        zeros_at n (stride * k + 2),
        zeros_at m (stride * k),
        zeros_at m (stride * k + 1),
        zeros_at m (stride * k + 2),
      ) none

-- Phis are indexed by where they stand
indexed_same : (u v : List ℕ) → length u ≡ length v → ((k : ℕ) → is_phi u k ≡ is_phi v k) → indexed u ≡ indexed v
unfolding indexed
indexed_same u v l e =
    let c : chunk_count u ≡ chunk_count v = ap (λ (x : ℕ). x / stride) l in
    ap (each (λ i. cond (is_phi u i) (many (is_phi u) i) 0 ∷ [])) c
    ∙ each_ext (λ i. cond (is_phi u i) (many (is_phi u) i) 0 ∷ []) (λ i. cond (is_phi v i) (many (is_phi v) i) 0 ∷ []) (chunk_count v)
    (λ k h. rw (e k, many_ext (is_phi u) (is_phi v) k (λ i q. e i)))

module _ {limit : ℕ} {s t : Chunk} (a : Alike limit s t) where
  abbrev w : List ℕ
  w = s.code

  abbrev v : List ℕ
  v = t.code

  -- a jump names no constant
  jump_plain : (k : ℕ) → marks_jump w k ≡ true → names w k ≡ false
  jump_plain k j = go (names w k) refl
    where
      go : (b : Bool) → names w k ≡ b → b ≡ false
      go true e = absurd (false≢true (sym (a.apart k e) ∙ j))
      go false e = refl

  pub alike_like : Like limit s t w v
  alike_like k = record { op = a.ops k; mark = a.marks k; plain = a.plain k; load = a.loads k; goal = λ j. a.plain k (jump_plain k j) }

  phi_same : (k : ℕ) → is_phi w k ≡ is_phi v k
  phi_same k = ap (λ (o : ℕ). eqb o Phi) (a.ops k)

  -- ---- compaction

  module _ (dead : List ℕ) where
    operand_like : (k : ℕ) → Pair limit s t (op_at w k) (mark_at w k) (moved_operand dead w k) (op_at v k) (mark_at v k) (moved_operand dead v k)
    unfolding moved_operand
    operand_like k =
        record {
          op = a.ops k;
          mark = a.marks k;
          plain = λ e. rw (a.marks k, a.plain k e);
          load = λ e.
              let j : marks_jump w k ≡ false = a.apart k e in
              let j' : marks_jump v k ≡ false = sym (ap (λ (x : ℕ). eqb (x % 2) 1) (a.marks k)) ∙ j in
              rw (j, j') (a.loads k e);
          goal = λ j. rw (a.marks k, a.plain k (jump_plain k j));
        }

    one_like : (k : ℕ) (b : Bool)
        → Like limit s t (cond b (words_of dead w k) []) (cond b (words_of dead v k) [])
    one_like k true zero = operand_like k
    one_like k true (suc i) =
        like_past limit s t (words_of dead w k) (words_of dead v k) (suc i) (omega arith) (omega arith)
    one_like k false i = like_past limit s t [] [] i (omega arith) (omega arith)

    some_like : (k : ℕ) → Like limit s t (each (left_at dead w) k) (each (left_at dead v) k)
    unfolding each
    some_like zero = λ i. like_past limit s t [] [] i (omega arith) (omega arith)
    some_like (suc k) =
        append_like limit s t (each (left_at dead w) k) (each (left_at dead v) k) (left_at dead w k) (left_at dead v k) (live dead k) (left_long dead w k)
        (left_long dead v k) (some_like k)
        (one_like k (alive dead k))

    compacted_like : Like limit s t (compacted dead w) (compacted dead v)
    unfolding compacted left
    compacted_like =
        append_like limit s t (left dead w) (left dead v) (replicate (length w - length (left dead w)) 0) (replicate (length v - length (left dead v)) 0)
        (live dead (length dead))
        (left_long dead w (length dead)) (left_long dead v (length dead)) (some_like (length dead))
        (zeros_like limit s t (length w - length (left dead w)) (length v - length (left dead v)))

    compacted_long : length (compacted dead w) ≡ length (compacted dead v)
    unfolding compacted left
    compacted_long =
        let l = left dead w in
        let r = left dead v in
        length-append l (replicate (length w - length l) 0)
        ∙ omega (
          arith,
          length-replicate {A = ℕ} (length w - length l) 0,
          length-replicate {A = ℕ} (length v - length r) 0,
          left_long dead w (length dead),
          left_long dead v (length dead),
          a.long,
        )
        ∙ sym (length-append r (replicate (length v - length r) 0))

  -- ---- the Phi pass

  module _ (map sources dead : List ℕ) where
    noop_same : (i : ℕ) → noop w map sources i ≡ noop v map sources i
    unfolding noop paired
    noop_same i = go (is_phi w i) refl
      where
        go : (b : Bool) → is_phi w i ≡ b → noop w map sources i ≡ noop v map sources i
        go false e = let f : is_phi v i ≡ false = sym (phi_same i) ∙ e in rw (e, f)
        go true e =
            let f : is_phi v i ≡ true = sym (phi_same i) ∙ e in
            rw (e, f, a.plain i (unnamed (names w i) refl))
          where
            unnamed : (b : Bool) → names w i ≡ b → names w i ≡ false
            unnamed true n = absurd (false≢true (sym (a.free i n) ∙ e))
            unnamed false n = n

    mark_same : (i : ℕ) → phi_mark w map sources dead i ≡ phi_mark v map sources dead i
    unfolding phi_mark
    mark_same i = rw (noop_same i)

    marked_same : marked w map sources dead ≡ marked v map sources dead
    unfolding marked
    marked_same =
        each_ext (λ i. phi_mark w map sources dead i ∷ []) (λ i. phi_mark v map sources dead i ∷ []) (length dead) (λ i h. ap (λ (x : ℕ). x ∷ []) (mark_same i))

    pairs_same : pairs_left w map sources dead ≡ pairs_left v map sources dead
    unfolding pairs_left paired
    pairs_same = each_ext (pair_left w map sources dead) (pair_left v map sources dead) (length dead) (λ i h. rw (phi_same i))

-- two lots of tables: alike in their code, the same in all else
pub record Beside (limit : ℕ) (s t : Chunk) (x y : Tables) : Type 0 where
  pub code : Like limit s t x.code y.code
  pub long : length x.code ≡ length y.code
  pub map : x.map ≡ y.map
  pub sources : x.sources ≡ y.sources
  pub stmts : x.stmts ≡ y.stmts
  pub calls : x.calls ≡ y.calls
  pub dead : x.dead ≡ y.dead
  pub remap : x.remap ≡ y.remap
  pub left : x.left ≡ y.left

module _ {limit : ℕ} {s t : Chunk} (a : Alike limit s t) (map sources stmts calls dead remap : List ℕ) (counts : Left) where
  abbrev with_code : List ℕ → List ℕ → Tables
  with_code u d = tables u map sources stmts calls d remap counts

  abbrev entries : List ℕ
  entries = take counts.map map

  abbrev words : List ℕ
  words = take counts.sources sources

  new_phis : (d : List ℕ) (k : ℕ) → is_phi (compacted d s.code) k ≡ is_phi (compacted d t.code) k
  new_phis d k = ap (λ (o : ℕ). eqb o Phi) (compacted_like a d k).op

  new_count : (d : List ℕ) → many (is_phi (compacted d s.code)) (chunk_count (compacted d s.code)) ≡ many (is_phi (compacted d t.code))
      (chunk_count (compacted d t.code))
  new_count d =
      ap (λ (x : ℕ). many (is_phi (compacted d s.code)) (x / stride)) (compacted_long a d)
      ∙ many_ext (is_phi (compacted d s.code)) (is_phi (compacted d t.code)) (chunk_count (compacted d t.code)) (λ k h. new_phis d k)

  renewed_beside : (d : List ℕ) → Beside limit s t (renewed (with_code s.code d)) (renewed (with_code t.code d))
  unfolding renewed sources_after
  renewed_beside d =
      record {
        code = compacted_like a d;
        long = compacted_long a d;
        map = indexed_same (compacted d s.code) (compacted d t.code) (compacted_long a d) (new_phis d);
        sources = ap (λ (l : List ℕ). l ++ replicate (length sources - length l) 0) (pairs_same a entries words d);
        stmts = refl;
        calls = refl;
        dead = refl;
        remap = refl;
        left = rw (new_count d, pairs_same a entries words d);
      }

  pub finished_beside : Beside limit s t (finished (with_code s.code dead)) (finished (with_code t.code dead))
  unfolding finished
  finished_beside = rw (← marked_same a entries words dead) (go (every (alive d) (length d)))
    where
      d : List ℕ
      d = marked s.code entries words dead

      go : (b : Bool) → Beside limit s t (cond b (with_code s.code d) (renewed (with_code s.code d)))
          (cond b (with_code t.code d) (renewed (with_code t.code d)))
      go true =
          record { code = alike_like a; long = a.long; map = refl; sources = refl; stmts = refl; calls = refl; dead = refl; remap = refl; left = refl }
      go false = renewed_beside d

-- and the same jumps to the same places: one table of landings
pub table_same : {limit : ℕ} {s t : Chunk} {x y : Tables} → Beside limit s t x y → (tries : List ℕ) → landings_of x.code tries ≡ landings_of y.code tries
table_same {x = x} {y = y} b tries =
    sym (landings_same x.code y.code tries
    (record {
      long = sym b.long;
      mark = λ k. sym (ap jump_mark (b.code k).mark);
      goal = λ k j. sym ((b.code k).goal j);
    }))
