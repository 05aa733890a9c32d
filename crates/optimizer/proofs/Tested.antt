-- What the tests of the folding call leave of the buffers. Assumes nothing.
use Prim.Native.Nat.{ℕ, ◌+◌, ◌*◌, ◌%◌, ◌≤◌, ◌<◌}
use native.Mathlib.Omega.{arith}
use Rattle.std.proofs.lemmas.Bool.Decides.{nat_tests}
use mathlib.Core.Path.{◌≡◌, refl, sym, ◌∙◌}
use mathlib.Core.Bool.{Bool, true, false, not}
use mathlib.Core.List.{List}
use lib.Dec.{eqb}
use lib.ListN.{length}
use borrow.Author.Tests.{not-false}
use Rattle.laws.specs.All.{every}
use Rattle.laws.proofs.Branch.{and-true}
use Rattle.laws.proofs.Walk.{none_passed}
use Rattle.ops.specs.Op.{LoadConst}
use Rattle.refusals.specs.Stages.{try_kept, pairs, first_bad_try, tried_of, room_of}
use Rattle.refusals.proofs.Stages.{room_before, room_there}
use Rattle.refusals.specs.Stages.{Checked}
use Rattle.std.specs.declared.result.Result.TheVariants.{Ok, Err}
use Rattle.chunk.specs.Chunk.{stride, chunk_count, op_at, mark_at, folds, chunk_rules}
use Rattle.landings.specs.Landings.{Unmarked}
use Rattle.chunk.specs.Tables.{constant_kept, within, map_kept, pairs_kept, table_of}
use Rattle.chunk.specs.Check.{first_bad_of, chunk_check_of, tables_of, tally_of, source_room, rooms_of, ready_of}
use Rattle.chunk.specs.declared.Counts.{Counts}
use Rattle.chunk.proofs.Kept.{few}
use Rattle.optimizer.specs.Fold.{Buffers, lens_of}
use Rattle.optimizer.specs.Inner.{FoldRoom}
use Rattle.optimizer.proofs.Ruled.{ruled_of}

pub table_met : (n : ℕ) (v : Checked) (t : ℕ) (kept : Bool) → Ok n ≡ table_of v t kept → (v ≡ Ok n) × (kept ≡ true)
table_met n (Err r) t kept e = cc
table_met n (Ok m) t true e = (sym e, refl)
table_met n (Ok m) t false e = cc

room_met : (n : ℕ) (v : Checked) (b have needed : ℕ) → Ok n ≡ room_of v b have needed → (v ≡ Ok n) × (needed ≤ have)
room_met n v b have needed e = (room_before n v b have needed e, room_there n v b have needed e)

map_few : (n entries len : ℕ) → map_kept n entries len ≡ true → entries ≤ n
map_few n entries len e = grind (arith, nat_tests)

pairs_whole : (words len : ℕ) → pairs_kept words len ≡ true → (words % 2 ≡ 0) × (words ≤ len)
pairs_whole words len e = grind (arith, nat_tests)

-- what tests 1 and 2 say of a code that passes them
pub record Met (w : List ℕ) (n : ℕ) : Type 0 where
  pub even : length w % stride ≡ 0
  pub few : chunk_count w ≤ 65535
  pub good : chunk_count w ≤ first_bad_of w
  pub is : n ≡ chunk_count w

pub check_met : (n : ℕ) (w : List ℕ) → Ok n ≡ chunk_check_of w → Met w n
unfolding chunk_check_of
check_met n w h = record {
  even = grind (arith, nat_tests);
  few = grind (arith, nat_tests);
  good = grind (arith, nat_tests);
  is = grind (arith, nat_tests);
}

whole_of : (w : List ℕ) → length w % stride ≡ 0 → length w ≡ stride * chunk_count w
whole_of w e = omega arith

pairs_in : (s phis : ℕ) → s % 2 ≡ 0 → s ≤ source_room s phis
pairs_in s phis e = omega arith

pub tried_met : (n : ℕ) (v : Checked) (t : List ℕ) → Ok n ≡ tried_of v t → (v ≡ Ok n) × (pairs t ≤ first_bad_try t n)
tried_met n (Err r) t e = cc
tried_met n (Ok m) t e = grind (arith, nat_tests)

kept_tries : (t : List ℕ) (n m : ℕ) → n ≡ m → pairs t ≤ first_bad_try t n → (j : ℕ) → j < pairs t → try_kept t m j ≡ true
unfolding first_bad_try
kept_tries t n m q p j h = rw (← q) (not-false _ (none_passed (λ i. not (try_kept t n i)) j (pairs t) 0 (omega arith) (omega arith) (omega arith)))

-- a LoadConst that keeps its record rule has no jump mark
load_calm : (m : ℕ) → chunk_rules LoadConst m ≡ true → eqb (m % 2) 1 ≡ false
unfolding chunk_rules folds
load_calm m e = grind (arith, nat_tests)

unmarked_of : (w : List ℕ) (n : ℕ) → Met w n → Unmarked w
unmarked_of w n m k o =
    let r : chunk_rules (op_at w k) (mark_at w k) ≡ true = ruled_of w (omega (arith, m.even)) m.good k in
    load_calm (mark_at w k) (rw o at r)

module _ (b : Buffers) (tries : List ℕ) (c : Counts) (landings n : ℕ) (v : Checked) (e : v
    ≡ ready_of b.code tries b.kinds b.words c (lens_of b) landings) (f : v ≡ Ok n) where
  pub table_there : chunk_count b.code + 1 ≤ landings
  unfolding ready_of
  table_there = (room_met n (rooms_of (tables_of (tried_of (chunk_check_of b.code) tries) (chunk_count b.code) b.kinds b.words c (lens_of b)) b.code c
      (lens_of b))
      7 landings (chunk_count b.code + 1) (sym f ∙ e)).1

  passed : FoldRoom b c × ((j : ℕ) → j < pairs tries → try_kept tries (chunk_count b.code) j ≡ true)
  unfolding ready_of rooms_of tables_of
  passed =
      let r₇ = room_met n (rooms_of (tables_of (tried_of (chunk_check_of b.code) tries) (chunk_count b.code) b.kinds b.words c (lens_of b)) b.code c
      (lens_of b))
      7 landings (chunk_count b.code + 1) (sym f ∙ e) in
      let r₆ = room_met n _ 6 _ _ (sym r₇.0) in
      let r₅ = room_met n _ 5 _ _ (sym r₆.0) in
      let r₄ = room_met n _ 4 _ _ (sym r₅.0) in
      let r₃ = room_met n _ 3 _ _ (sym r₄.0) in
      let r₂ = room_met n _ 2 _ _ (sym r₃.0) in
      let r₁ = room_met n _ 1 _ _ (sym r₂.0) in
      let t₅ = table_met n _ 5 _ (sym r₁.0) in
      let t₄ = table_met n _ 4 _ (sym t₅.0) in
      let t₃ = table_met n _ 3 _ (sym t₄.0) in
      let t₂ = table_met n _ 2 _ (sym t₃.0) in
      let t₁ = table_met n _ 1 _ (sym t₂.0) in
      let y = tried_met n (chunk_check_of b.code) tries (sym t₁.0) in
      let k = check_met n b.code (sym y.0) in
      let s = pairs_whole c.sources (length b.sources) t₃.1 in
      let p = pairs_whole c.stmts (length b.stmts) t₄.1 in
      let q = pairs_whole c.calls (length b.calls) t₅.1 in
      let i = (and-true (within c.constants (length b.kinds) (length b.words)) (every (constant_kept b.kinds b.words) c.constants)
      t₁.1).0 in (
        record {
          whole = whole_of b.code k.even;
          few = k.few;
          constants = few c.constants (length b.kinds) (length b.words) i;
          kinds = r₁.1;
          words = r₂.1;
          entries = map_few (chunk_count b.code) c.map (length b.map) t₂.1;
          map = r₃.1;
          pairs = pairs_in c.sources (tally_of b.code).phis s.0;
          sources = r₄.1;
          stmt_pairs = p.0;
          stmts = p.1;
          call_pairs = q.0;
          calls = q.1;
          dead = r₅.1;
          remap = r₆.1;
          unmarked = unmarked_of b.code n k;
        },
        kept_tries tries n (chunk_count b.code) k.is y.1,
      )

  pub held_of : FoldRoom b c
  held_of = passed.0

  -- refusal 4 was not given
  pub tries_there : (j : ℕ) → j < pairs tries → try_kept tries (chunk_count b.code) j ≡ true
  tries_there = passed.1
