-- An answered fold leaves a chunk that the next call accepts, cut at the answered count. Assumes nothing.
use Prim.Native.Nat.{ℕ, zero, suc, ◌+◌, ◌-◌, ◌*◌, ◌%◌, ◌≤◌, ◌<◌}
use native.Mathlib.Omega.{arith}
use mathlib.Core.Path.{◌≡◌, refl, sym, ap, ◌∙◌, subst}
use mathlib.Core.Logic.{◌⊎◌, inl, inr, ⊎_elim}
use mathlib.Core.Bool.{Bool, true, false, not, ◌&&◌, ◌||◌}
use mathlib.Core.List.{List, ◌++◌}
use lib.Dec.{eqb, leb}
use lib.ListN.{length, get_or, take, drop, replicate, length-append, length-drop, length-replicate, take-append-drop, get_or-append}
use lib.Seq.{length-take-le, get_or-drop, ext_get_or, drop_at}
use borrow.Author.Tests.{eqb-true, eq-eqb, le-leb, le-ltb}
use Rattle.laws.specs.All.{every, many}
use Rattle.laws.specs.Table as Table
use Rattle.laws.specs.Walk.{first}
use Rattle.laws.proofs.Branch.{and-true, or_true}
use Rattle.laws.proofs.Many.{many_fewer}
use Rattle.refusals.specs.Stages.{pairs, first_bad_try, tried_of, try_kept}
use Rattle.refusals.specs.declared.Refusal.{Refusal}
use Rattle.refusals.specs.Stages.{Checked}
use Rattle.std.specs.declared.result.Result.TheVariants.{Ok, Err}
use Rattle.refusals.proofs.Stages.{room_before}
use Rattle.chunk.specs.Chunk.{stride, chunk_count, op_at, folds, is_phi}
use Rattle.chunk.specs.Tables.{constant_kept, within, constants_kept, map_kept, pairs_kept}
use Rattle.chunk.specs.Check.{chunk_check_of, tables_of, tally_of, constant_room, source_room, rooms_of, ready_of}
use Rattle.chunk.proofs.Kept.{kinds_there, words_there}
use Rattle.chunk.specs.declared.Counts.{Counts}
use Rattle.chunk.specs.declared.Lens.{Lens}
use Rattle.laws.proofs.Counting.{every_at}
use Rattle.fold.specs.Plan.{Chunk, chunk}
use Rattle.landings.specs.Landings.{landings_of}
use Rattle.landings.proofs.Asked.{table_long}
use Rattle.fold.specs.Pass.{Bars, by_scan, fold_all}
use Rattle.fold.specs.Inner.{PassRoom}
use Rattle.positions.specs.Remap.{alive}
use Rattle.positions.specs.Moved.{moved_all}
use Rattle.positions.proofs.Mapped.{moved_long, none_moved}
use Rattle.finish.specs.Finish.{Tables, tables, finished}
use Rattle.finish.specs.Inner.{TableRoom}
use Rattle.optimizer.specs.Fold.{Buffers, lens_of, needed, sources_needed, FoldOutcome, fold_pass, constant_fold, joined_buffers}
use Rattle.optimizer.specs.Fold.{fold_lent, Called, rejoined, fold_call}
use Rattle.optimizer.specs.Inner.{FoldRoom, Exact}
use Rattle.optimizer.specs.declared.Folded.{Folded}
use Rattle.optimizer.proofs.Whole.{pass_kept, exact_of, fit_of}
use Rattle.optimizer.proofs.Again.{again}
use Rattle.optimizer.proofs.Idle.{as_lent_lem}
use Rattle.optimizer.proofs.Tested.{held_of, table_there, table_met, tried_met, check_met}
use Rattle.optimizer.proofs.Tries.{tries_kept}
use Rattle.clear.proofs.Accepts.{table_on, room_on}
use Rattle.clear.proofs.Twice.{every_of}
use Rattle.refold.proofs.Pushes.{all_pushed, all_held as pool_few, pool_again}
use Rattle.refold.proofs.Prefix.{prefix}
use Rattle.refold.proofs.Spent.{waiting, all_spent}
use Rattle.refold.proofs.Settled.{Settled, settled}
use Rattle.refold.specs.Inner.{Pushed, fold_of, Folds}
use Rattle.refold.specs.Lending.{Lending, lending, ready_for, fold_leaving}
use Rattle.refold.specs.Left.{PoolLeft, BuffersBeyond, FoldBeyond, NoneDied, as_lent}
use Rattle.refold.specs.Lendable.{cut_code, counts_left, Lendable}

-- ---- what the tests say

-- the rules of all five tables
pub record Kept (n k : ℕ) (v : Checked) (kinds words : List ℕ) (c : Counts) (l : Lens) : Type 0 where
  pub before : v ≡ Ok n
  pub constants : constants_kept kinds words c.constants ≡ true
  pub map : map_kept k c.map l.map ≡ true
  pub sources : pairs_kept c.sources l.sources ≡ true
  pub stmts : pairs_kept c.stmts l.stmts ≡ true
  pub calls : pairs_kept c.calls l.calls ≡ true

tables_kept : (n k : ℕ) (v : Checked) (kinds words : List ℕ) (c : Counts) (l : Lens) → tables_of v k kinds words c l ≡ Ok n → Kept n k v kinds words c l
unfolding tables_of
tables_kept n k v kinds words c l e =
    let t₅ = table_met n _ 5 (pairs_kept c.calls l.calls) (sym e) in
    let t₄ = table_met n _ 4 (pairs_kept c.stmts l.stmts) (sym t₅.0) in
    let t₃ = table_met n _ 3 (pairs_kept c.sources l.sources) (sym t₄.0) in
    let t₂ = table_met n _ 2 (map_kept k c.map l.map) (sym t₃.0) in
    let t₁ = table_met n v 1 (constants_kept kinds words c.constants) (sym t₂.0) in
    record { before = t₁.0; constants = t₁.1; map = t₂.1; sources = t₃.1; stmts = t₄.1; calls = t₅.1 }

rooms_kept : (n : ℕ) (v : Checked) (w : List ℕ) (c : Counts) (l : Lens) → rooms_of v w c l ≡ Ok n → v ≡ Ok n
unfolding rooms_of
rooms_kept n v w c l e =
    let r₆ = room_before n _ 6 l.remap (chunk_count w + 1) (sym e) in
    let r₅ = room_before n _ 5 l.dead (chunk_count w) (sym r₆) in
    let r₄ = room_before n _ 4 l.sources (source_room c.sources (tally_of w).phis) (sym r₅) in
    let r₃ = room_before n _ 3 l.map (chunk_count w) (sym r₄) in
    let r₂ = room_before n _ 2 l.words (constant_room c.constants (tally_of w).folding) (sym r₃) in
    room_before n v 1 l.kinds (constant_room c.constants (tally_of w).folding) (sym r₂)

ready_kept : (n : ℕ) (w tries kinds words : List ℕ) (c : Counts) (l : Lens) (landings : ℕ) → ready_of w tries kinds words c l landings ≡ Ok n
    → Kept n (chunk_count w) (tried_of (chunk_check_of w) tries) kinds words c l
unfolding ready_of
ready_kept n w tries kinds words c l landings e =
    let v = tables_of (tried_of (chunk_check_of w) tries) (chunk_count w) kinds words c l in
    tables_kept n (chunk_count w) (tried_of (chunk_check_of w) tries) kinds words c l
    (rooms_kept n v w c l (room_before n (rooms_of v w c l) 7 landings (chunk_count w + 1) (sym e)))

pub check_count : (w : List ℕ) (n : ℕ) → chunk_check_of w ≡ Ok n → chunk_count w ≡ n
check_count w n e = sym (check_met n w (sym e)).is

-- ---- and what they ask for

tables_on : (n k : ℕ) (v : Checked) (kinds words : List ℕ) (c : Counts) (l : Lens) → Kept n k v kinds words c l → tables_of v k kinds words c l ≡ Ok n
unfolding tables_of
tables_on n k v kinds words c l x =
    table_on n _ 5 (pairs_kept c.calls l.calls)
    (table_on n _ 4 (pairs_kept c.stmts l.stmts)
    (table_on n _ 3 (pairs_kept c.sources l.sources)
    (table_on n _ 2 (map_kept k c.map l.map)
    (table_on n v 1 (constants_kept kinds words c.constants) x.before x.constants)
    x.map) x.sources) x.stmts) x.calls

record Roomy (w : List ℕ) (c : Counts) (l : Lens) : Type 0 where
  kinds : constant_room c.constants (tally_of w).folding ≤ l.kinds
  words : constant_room c.constants (tally_of w).folding ≤ l.words
  map : chunk_count w ≤ l.map
  sources : source_room c.sources (tally_of w).phis ≤ l.sources
  dead : chunk_count w ≤ l.dead
  remap : chunk_count w + 1 ≤ l.remap

rooms_on : (n : ℕ) (v : Checked) (w : List ℕ) (c : Counts) (l : Lens) → v ≡ Ok n → Roomy w c l → rooms_of v w c l ≡ Ok n
unfolding rooms_of
rooms_on n v w c l e r =
    room_on n _ 6 l.remap (chunk_count w + 1)
    (room_on n _ 5 l.dead (chunk_count w)
    (room_on n _ 4 l.sources (source_room c.sources (tally_of w).phis)
    (room_on n _ 3 l.map (chunk_count w)
    (room_on n _ 2 l.words (constant_room c.constants (tally_of w).folding)
    (room_on n v 1 l.kinds (constant_room c.constants (tally_of w).folding) e r.kinds)
    r.words) r.map) r.sources) r.dead) r.remap

first_none_below : (f : ℕ → Bool) (m k : ℕ) → ((j : ℕ) → j < k + m → f j ≡ false) → first f k m ≡ k + m
unfolding first
first_none_below f zero k h = omega arith
first_none_below f (suc m) k h = rw (h k (omega arith)) (omega (arith, first_none_below f m (suc k) (λ j l. h j (omega arith))))

-- no try breaks its rule
tried_on : (n : ℕ) (v : Checked) (t : List ℕ) → v ≡ Ok n → ((j : ℕ) → j < pairs t → try_kept t n j ≡ true) → tried_of v t ≡ Ok n
unfolding first_bad_try
tried_on n v t e h =
    let f = first_none_below (λ j. not (try_kept t n j)) (pairs t) 0 (λ j l. ap not (h j (omega arith))) in
    rw (e, le-ltb (first (λ j. not (try_kept t n j)) 0 (pairs t)) (pairs t) (omega arith))

ready_on : (n : ℕ) (w tries kinds words : List ℕ) (c : Counts) (l : Lens) (landings : ℕ) → Kept n (chunk_count w) (tried_of (chunk_check_of w) tries) kinds words c
    l
    → Roomy w c l → chunk_count w + 1 ≤ landings → ready_of w tries kinds words c l landings ≡ Ok n
unfolding ready_of
ready_on n w tries kinds words c l landings x r h =
    let v = tables_of (tried_of (chunk_check_of w) tries) (chunk_count w) kinds words c l in
    room_on n (rooms_of v w c l) 7 landings (chunk_count w + 1) (rooms_on n v w c l (tables_on n (chunk_count w) (tried_of (chunk_check_of w) tries) kinds words c l
    x) r) h

map_on : (n entries len : ℕ) → (entries ≡ 0) ⊎ (entries ≡ n) → entries ≤ len → map_kept n entries len ≡ true
map_on n entries len e h = ⊎_elim (λ q. rw (eq-eqb entries 0 q, le-leb entries len h))
    (λ q. rw (eq-eqb entries n q, le-leb entries len h) (or_yes (eqb entries 0))) e
  where
    or_yes : (b : Bool) → (b || true) && true ≡ true
    or_yes true = refl
    or_yes false = refl

map_is : (n entries len : ℕ) → map_kept n entries len ≡ true → (entries ≡ 0) ⊎ (entries ≡ n)
map_is n entries len e =
    ⊎_elim (λ q. inl (eqb-true entries 0 q)) (λ q. inr (eqb-true entries n q))
    (or_true (eqb entries 0) (eqb entries n) (and-true (eqb entries 0 || eqb entries n) (leb entries len) e).0)

pairs_on : (words len : ℕ) → words % 2 ≡ 0 → words ≤ len → pairs_kept words len ≡ true
pairs_on words len e h = rw (eq-eqb (words % 2) 0 e, le-leb words len h)

pairs_is : (words len : ℕ) → pairs_kept words len ≡ true → words % 2 ≡ 0
pairs_is words len e = eqb-true (words % 2) 0 (and-true (eqb (words % 2) 0) (leb words len) e).0

-- ---- a buffer that keeps its length and its tail

front_held : (m : ℕ) (front l : List ℕ) → length front ≡ m → m ≤ length l → Table.Held m l (front ++ drop m l)
front_held m front l e h = record { same = length-append front (drop m l) ∙ omega (arith, length-drop m l); tail = drop_at front (drop m l) m e }

past_held : (m : ℕ) (l l' : List ℕ) → length l' ≡ length l → ((i : ℕ) → m ≤ i → get_or l' i 0 ≡ get_or l i 0) → Table.Held m l l'
past_held m l l' e h =
    record {
      same = e;
      tail =
          ext_get_or 0 (drop m l') (drop m l) (length-drop m l' ∙ ap (λ (x : ℕ). x - m) e ∙ sym (length-drop m l))
          (λ i q. get_or-drop m l' i 0 ∙ h (m + i) (omega arith) ∙ sym (get_or-drop m l i 0));
    }

-- ---- the parts of an answer

module _ (strict : Bool) (l : Lending) (c : Counts) where
  abbrev b : Buffers
  b = l.buffers

  abbrev scan : Bars
  scan = by_scan strict l.tries

  abbrev pub o : FoldOutcome Folded
  o = constant_fold scan (needed b c) c

  -- the tries follow, and the table counts what lands in the chunk that is left
  abbrev moved : List ℕ
  moved = moved_all o.after.dead l.tries

  abbrev pub all_left : Lending
  all_left = lending (joined_buffers b c o).after moved (landings_of o.after.code moved ++ drop (chunk_count b.code + 1) l.landings)

  pub call_refused : (r : Refusal) → ready_for l c ≡ Err r → fold_of strict l c ≡ fold_leaving (Err r) l
  unfolding fold_call
  call_refused r e = rw e

  pub call_answered : (m : ℕ) → ready_for l c ≡ Ok m → Folds strict l c o.answer all_left
  unfolding fold_call rejoined joined_buffers fold_lent
  call_answered m e = rw e

  -- the chunk that the pass begins with, and ends with
  abbrev pub clean : Chunk
  clean = chunk b.code (replicate (length (take (chunk_count b.code) b.dead)) 0) b.kinds b.words c.constants

  abbrev pub end : Chunk
  end = fold_pass scan (chunk b.code (take (chunk_count b.code) b.dead) b.kinds b.words c.constants)

  abbrev pub before : Tables
  before =
      tables end.code (needed b c).map (needed b c).sources (needed b c).stmts (needed b c).calls end.dead (needed b c).remap
      (record { instructions = length (needed b c).dead; map = c.map; sources = c.sources })

  abbrev pub after : Tables
  after = finished before

  pub end_is : end ≡ fold_all scan clean
  unfolding fold_pass
  end_is = refl

  module _ (m : ℕ) (q : ready_for l c ≡ Ok m) where
    pub rules : Kept m (chunk_count b.code) (tried_of (chunk_check_of b.code) l.tries) b.kinds b.words c (lens_of b)
    rules = ready_kept m b.code l.tries b.kinds b.words c (lens_of b) (length l.landings) q

    pub code_fine : chunk_check_of b.code ≡ Ok m
    code_fine = (tried_met m (chunk_check_of b.code) l.tries (sym rules.before)).0

    held : FoldRoom b c
    held = held_of b l.tries c (length l.landings) m (Ok m) (sym q) refl

    pub n_is : chunk_count b.code ≡ m
    n_is = check_count b.code m code_fine

    pub marks : length (take (chunk_count b.code) b.dead) ≡ chunk_count b.code
    marks = length-take-le (chunk_count b.code) b.dead held.dead

    exact : Exact (needed b c) c
    exact = exact_of b.code b.kinds b.words b.map b.sources b.stmts b.calls b.dead b.remap c (sources_needed b c) refl held

    fit : TableRoom before
    fit =
        fit_of b.code b.kinds b.words (needed b c).map (needed b c).sources (needed b c).stmts (needed b c).calls (needed b c).dead
        (needed b c).remap c
        scan end.code end.dead end.kinds end.words end.constants exact refl

    pub lent_clean : PassRoom clean
    unfolding tally_of
    lent_clean =
        record {
          few = held.constants;
          marks = omega (arith, marks, length-replicate {A = ℕ} (length (take (chunk_count b.code) b.dead)) 0);
          kinds_room = held.kinds;
          words_room = held.words;
        }

    pushed : Pushed clean end
    pushed = rw end_is (all_pushed scan clean)

    pub pool_left : PoolLeft b c o.answer (joined_buffers b c o).after
    unfolding constant_fold joined_buffers
    pool_left =
        let p = pushed in
        record {
          more = p.more;
          kinds_below = p.kinds_below;
          words_below = p.words_below;
          kinds_past = p.kinds_past;
          words_past = p.words_past;
          kinds_long = p.kinds_long;
          words_long = p.words_long;
        }

    pub end_marks : length end.dead ≡ chunk_count b.code
    end_marks = pushed.dead_long ∙ length-replicate (length (take (chunk_count b.code) b.dead)) 0 ∙ marks

    pub all_settled : Settled before after
    all_settled =
        settled before fit (marks ∙ sym end_marks)
        (rw end_marks (map_is (chunk_count b.code) c.map (length b.map) rules.map))
        (pairs_is c.sources (length b.sources) rules.sources)

    abbrev r : ℕ
    r = after.left.instructions

    abbrev short : List ℕ
    short = take (stride * r) after.code

    pub after_code : chunk_check_of after.code ≡ Ok m
    unfolding constant_fold joined_buffers
    after_code = sym (ap (λ (x : Called). chunk_check_of x.result.after.code) (call_answered m q)) ∙ again strict b l.tries l.landings c m code_fine

    pub few : r ≤ m
    few = omega (arith, all_settled.few, end_marks, n_is)

    code_again : chunk_check_of short ≡ Ok r
    code_again = prefix after.code m r after_code few

    pool_kept : constants_kept end.kinds end.words end.constants ≡ true
    pool_kept = rw end_is (pool_again scan clean lent_clean rules.constants)

    short_count : chunk_count short ≡ r
    short_count = check_count short r code_again

    -- the operators that are left, with the constants, ask for no more room
    spent : many (λ k. folds (op_at short k)) r + end.constants ≤ (tally_of b.code).folding + c.constants
    unfolding tally_of
    spent =
        let n = chunk_count b.code in
        let s : many (waiting end.code end.dead) n + end.constants ≤ many (waiting clean.code clean.dead) n + c.constants =
        rw end_is (all_spent scan clean lent_clean.marks) in
        let u : many (waiting clean.code clean.dead) n ≤ many (λ k. folds (op_at b.code k)) n =
        many_fewer (waiting clean.code clean.dead) (λ k. folds (op_at b.code k))
        (λ k h. (and-true (folds (op_at b.code k)) (alive clean.dead k) h).0) n in
        let v : many (waiting end.code end.dead) (length end.dead) ≡ many (waiting end.code end.dead) n = ap
        (many (waiting end.code end.dead)) end_marks in
        omega (arith, all_settled.operators)

    phis_few : many (is_phi short) r ≤ (tally_of b.code).phis
    unfolding tally_of
    phis_few =
        let p = pass_kept scan (chunk b.code (needed b c).dead b.kinds b.words c.constants) end (omega (arith, marks)) refl in
        let u = many_fewer (is_phi end.code) (is_phi b.code) (λ k h. sym (p.phis k) ∙ h) (chunk_count b.code) in
        let v : many (is_phi end.code) (length end.dead) ≡ many (is_phi end.code) (chunk_count b.code) = ap (many (is_phi end.code)) end_marks in
        omega (arith, all_settled.phis)

    -- the tries that are left keep their rule
    pub tries_left : (j : ℕ) → j < pairs moved → try_kept moved r j ≡ true
    unfolding constant_fold joined_buffers
    tries_left j h =
        let e = call_answered m q in
        let z = tries_kept strict b l.tries l.landings c o.answer (ap (λ (x : Called). x.result.answer) e) j
        (rw (moved_long o.after.dead l.tries) at h) in
        subst (λ (x : Called). try_kept x.tries r j ≡ true) e z

    rules_left : Kept r (chunk_count short) (tried_of (chunk_check_of short) moved) end.kinds end.words (counts_left o.answer c)
        (lens_of (cut_code o.answer (joined_buffers b c o).after))
    unfolding constant_fold joined_buffers
    rules_left =
        record {
          before = tried_on r (chunk_check_of short) moved code_again tries_left;
          constants = pool_kept;
          map =
              rw short_count
              (map_on r after.left.map (length (after.map ++ drop (chunk_count b.code) b.map)) all_settled.entries
              (⊎_elim
              (λ z. omega (arith, z))
              (λ z. omega (arith, z, few, n_is, length-append after.map (drop (chunk_count b.code) b.map), all_settled.map, fit.map, end_marks))
              all_settled.entries));
          sources =
              pairs_on after.left.sources (length (after.sources ++ drop (sources_needed b c) b.sources)) all_settled.even
              (omega (arith, all_settled.pairs, length-append after.sources (drop (sources_needed b c) b.sources)));
          stmts =
              pairs_on c.stmts (length (after.stmts ++ drop c.stmts b.stmts)) held.stmt_pairs
              (omega (
                arith,
                all_settled.stmts,
                length-take-le c.stmts b.stmts held.stmts,
                length-append after.stmts
                    (drop c.stmts b.stmts),
              ));
          calls =
              pairs_on c.calls (length (after.calls ++ drop c.calls b.calls)) held.call_pairs
              (omega (
                arith,
                all_settled.calls,
                length-take-le c.calls b.calls held.calls,
                length-append after.calls
                    (drop c.calls b.calls),
              ));
        }

    room_of : (len : ℕ) → constant_room c.constants (tally_of b.code).folding ≤ len → end.constants ≤ len
        → constant_room end.constants (tally_of short).folding ≤ len
    unfolding tally_of
    room_of len h k = let e : many (λ j. folds (op_at short j)) (chunk_count short) ≡ many (λ j. folds (op_at short j)) r = ap (many (λ j. folds (op_at short j)))
        short_count in omega (arith, spent)

    phi_room : (len : ℕ) → sources_needed b c ≤ len → after.left.sources ≤ len → source_room after.left.sources (tally_of short).phis ≤ len
    unfolding tally_of
    phi_room len h k = let e : many (is_phi short) (chunk_count short) ≡ many (is_phi short) r = ap (many (is_phi short)) short_count in omega
        (arith, phis_few, all_settled.even)

    pool_within : (end.constants ≤ length end.kinds) × (end.constants ≤ length end.words)
    pool_within =
        let w = (and-true (within end.constants (length end.kinds) (length end.words))
        (every (constant_kept end.kinds end.words) end.constants) pool_kept).0 in
        (kinds_there end.constants (length end.kinds) (length end.words) w, words_there end.constants (length end.kinds) (length end.words) w)

    room_left : Roomy short (counts_left o.answer c) (lens_of (cut_code o.answer (joined_buffers b c o).after))
    unfolding constant_fold joined_buffers
    room_left =
        record {
          kinds = room_of (length end.kinds) (rw pushed.kinds_long held.kinds) pool_within.0;
          words = room_of (length end.words) (rw pushed.words_long held.words) pool_within.1;
          map = rw short_count (omega (
            arith,
            few,
            n_is,
            length-append after.map (drop (chunk_count b.code) b.map),
            all_settled.map,
            fit.map,
            end_marks,
          ));
          sources =
              phi_room (length (after.sources ++ drop (sources_needed b c) b.sources))
              (omega (
                arith,
                all_settled.sources,
                length-take-le (sources_needed b c) b.sources held.sources,
                length-append after.sources
                    (drop (sources_needed b c) b.sources),
              ))
              (omega (arith, all_settled.pairs, length-append after.sources (drop (sources_needed b c) b.sources)));
          dead = rw short_count (omega (arith, few, n_is, length-append after.dead (drop (chunk_count b.code) b.dead), all_settled.dead, end_marks));
          remap =
              rw short_count
              (omega (
                arith,
                few,
                n_is,
                length-append after.remap (drop (chunk_count b.code + 1) b.remap),
                all_settled.remap,
                length-take-le
                    (chunk_count b.code + 1) b.remap held.remap,
              ));
        }

    -- the table keeps its length, and its words past n + 1
    table_held : Table.Held (chunk_count b.code + 1) l.landings all_left.landings
    unfolding constant_fold
    table_held =
        let z : chunk_count after.code ≡ chunk_count b.code = check_count after.code m after_code ∙ sym n_is in
        front_held (chunk_count b.code + 1) (landings_of after.code moved) l.landings (table_long after.code moved ∙ ap (λ (x : ℕ). x + 1) z)
        (table_there b l.tries c (length l.landings) m (Ok m) (sym q) refl)

    table_room : chunk_count short + 1 ≤ length all_left.landings
    table_room =
        omega (arith, short_count, few, n_is, table_held.same, table_there b l.tries c (length l.landings) m (Ok m) (sym q) refl)

    lendable : Lendable o.answer c all_left
    unfolding constant_fold joined_buffers
    lendable =
        record {
          code = code_again;
          pool = pool_kept;
          ready =
              ready_on r short moved end.kinds end.words (counts_left o.answer c) (lens_of (cut_code o.answer (joined_buffers b c o).after))
              (length all_left.landings) rules_left room_left table_room;
        }

    -- ---- words past a need

    buffers_beyond : BuffersBeyond c b (joined_buffers b c o).after
    unfolding constant_fold joined_buffers tally_of
    buffers_beyond =
        let n = chunk_count b.code in
        let room = constant_room c.constants (tally_of b.code).folding in
        let few : end.constants ≤ room = rw end_is (pool_few scan clean lent_clean) in
        let p = pushed in
        record {
          code = all_settled.long ∙ p.code_long;
          kinds = past_held room b.kinds end.kinds p.kinds_long (λ i h. p.kinds_past i (omega arith));
          words = past_held room b.words end.words p.words_long (λ i h. p.words_past i (omega arith));
          map = front_held n after.map b.map (all_settled.map ∙ length-take-le n b.map held.map) held.map;
          sources =
              front_held (sources_needed b c) after.sources b.sources
              (all_settled.sources ∙ length-take-le (sources_needed b c) b.sources held.sources) held.sources;
          stmts = front_held c.stmts after.stmts b.stmts (all_settled.stmts ∙ length-take-le c.stmts b.stmts held.stmts) held.stmts;
          calls = front_held c.calls after.calls b.calls (all_settled.calls ∙ length-take-le c.calls b.calls held.calls) held.calls;
          dead = front_held n after.dead b.dead (all_settled.dead ∙ end_marks) held.dead;
          remap = front_held (n + 1) after.remap b.remap (all_settled.remap ∙ length-take-le (n + 1) b.remap held.remap) held.remap;
        }

    fold_beyond : FoldBeyond c l all_left
    fold_beyond = record { buffers = buffers_beyond; tries = moved_long o.after.dead l.tries; landings = table_held }

  -- what holds of the answer holds of any answered call
  pub by_call : (P : Folded → Lending → Type 0) → ((m : ℕ) → ready_for l c ≡ Ok m → P o.answer all_left)
      → (f : Folded) (a : Lending) → Folds strict l c f a → P f a
  by_call P h f a e = go (ready_for l c) refl
    where
      go : (v : Checked) → ready_for l c ≡ v → P f a
      go (Err r) q =
          let y : Err r ≡ Ok f = ap (λ (x : Called). x.result.answer) (sym (call_refused r q) ∙ e) in
          cc
      go (Ok m) q =
          let y : fold_leaving (Ok o.answer) all_left ≡ fold_leaving (Ok f) a = sym (call_answered m q) ∙ e in
          let i : Ok o.answer ≡ Ok f = ap (λ (x : Called). x.result.answer) y in
          let j : o.answer ≡ f = cc in
          let k : all_left ≡ a = ap (λ (x : Called). lending x.result.after x.tries x.landings) y in
          subst (λ (x : Lending). P f x) k (subst (λ (x : Folded). P x all_left) j (h m q))

  -- what an answered call leaves can be lent to the next
  pub lends : (f : Folded) (a : Lending) → Folds strict l c f a → Lendable f c a
  lends = by_call (λ f a. Lendable f c a) lendable

  -- and of the pool it changes nothing that was there
  pub pool_stays : (f : Folded) (a : Lending) → Folds strict l c f a → PoolLeft b c f a.buffers
  pool_stays = by_call (λ f a. PoolLeft b c f a.buffers) pool_left

  -- words past a needed length are never touched
  pub stays_beyond : (f : Folded) (a : Lending) → Folds strict l c f a → FoldBeyond c l a
  stays_beyond = by_call (λ f a. FoldBeyond c l a) fold_beyond

  -- a refusal leaves all as lent
  pub refusal_leaves : (r : Refusal) (a : Lending) → fold_of strict l c ≡ fold_leaving (Err r) a → a ≡ l
  refusal_leaves r a e = go (ready_for l c) refl
    where
      go : (v : Checked) → ready_for l c ≡ v → a ≡ l
      go (Err s) q = ap (λ (x : Called). lending x.result.after x.tries x.landings) (sym e ∙ call_refused s q)
      go (Ok m) q =
          let y : Ok o.answer ≡ Err r = ap (λ (x : Called). x.result.answer) (sym (call_answered m q) ∙ e) in
          cc

  -- ---- if nothing died

  module _ (m : ℕ) (q : ready_for l c ≡ Ok m) where
    all_alive : NoneDied b (joined_buffers b c o).after → every (alive o.after.dead) (length o.after.dead) ≡ true
    unfolding joined_buffers constant_fold
    all_alive e =
        let n = chunk_count b.code in
        let l : length after.dead ≡ n = (all_settled m q).dead ∙ end_marks m q in
        every_of (alive after.dead) (length after.dead)
        (λ k h.
        let z : get_or (after.dead ++ drop n b.dead) k 0 ≡ get_or after.dead k 0 = get_or-append after.dead (drop n b.dead) 0 k h in
        sym (ap (λ (x : ℕ). eqb x 0) z) ∙ every_at (alive (after.dead ++ drop n b.dead)) n k e (rw l at h))

    idle : NoneDied b (joined_buffers b c o).after → fold_leaving (Ok o.answer) all_left ≡ as_lent l c
    unfolding joined_buffers
    idle e =
        let h : chunk_count b.code ≤ length (needed b c).dead = omega (arith, marks m q) in
        rw (
          ← none_moved o.after.dead l.tries (all_alive e),
          as_lent_lem scan (needed b c) c h (all_alive e),
          marks m q,
          take-append-drop (chunk_count b.code) b.map,
          take-append-drop (sources_needed b c) b.sources,
          take-append-drop c.stmts b.stmts,
          take-append-drop c.calls b.calls,
          take-append-drop (chunk_count b.code + 1) b.remap,
        )

  -- then code, constants, tries and every table stay as lent, the dead marks are 0, and the landings are counted
  pub idle_call : (f : Folded) (a : Lending) → Folds strict l c f a → NoneDied b a.buffers → fold_of strict l c ≡ as_lent l c
  idle_call = by_call (λ f a. NoneDied b a.buffers → fold_of strict l c ≡ as_lent l c) (λ m q e. call_answered m q ∙ idle m q e)
