-- A chunk that the folding call accepts is accepted after clearing too, with the same buffers lent. Assumes nothing.
use Prim.Native.Nat.{ℕ, ◌+◌, ◌≤◌}
use mathlib.Core.Path.{◌≡◌, sym, ap, ◌∙◌}
use native.Mathlib.Omega.{arith}
use mathlib.Core.Bool.{Bool, true, false, cond}
use mathlib.Core.List.{List}
use lib.Dec.{eqb, ltb}
use lib.ListN.{length}
use borrow.Author.Tests.{le-ltb}
use Rattle.laws.specs.All.{every, many}
use Rattle.laws.proofs.Branch.{and-true}
use Rattle.refusals.specs.Stages.{pairs, first_bad_try, tried_of, room_of}
use Rattle.refusals.specs.declared.Refusal.TheVariants.{Try}
use Rattle.ops.specs.Op.{Phi}
use Rattle.refusals.specs.Stages.{Checked}
use Rattle.std.specs.declared.result.Result.TheVariants.{Ok, Err}
use Rattle.refusals.proofs.Stages.{room_before, room_there}
use Rattle.chunk.specs.Chunk.{chunk_count, is_phi}
use Rattle.chunk.specs.Tables.{constant_kept, within, constants_kept, map_kept, pairs_kept, table_of}
use Rattle.chunk.specs.Check.{chunk_check_of, tables_of, tally_of, constant_room, source_room, rooms_of, ready_of}
use Rattle.chunk.specs.declared.Counts.{Counts}
use Rattle.chunk.specs.declared.Lens.{Lens}
use Rattle.chunk.proofs.Kept.{few, kinds_there, words_there}
use Rattle.named.specs.Unused.{constant_named, before, pooled, recoded}
use Rattle.laws.proofs.Counting.{many_ext}
use Rattle.clear.proofs.Tested.{table_met, check_met, whole_of}
use Rattle.clear.proofs.Loads.{recoded_count, recoded_op}
use Rattle.clear.proofs.Twice.{check_same, constants_same}
use Rattle.clear.proofs.Room.{no_more, operators_same, room_down}

pub table_on : (n : ℕ) (v : Checked) (t : ℕ) (kept : Bool) → v ≡ Ok n → kept ≡ true → table_of v t kept ≡ Ok n
table_on n v t kept e f = rw (e, f)

pub room_on : (n : ℕ) (v : Checked) (b have needed : ℕ) → v ≡ Ok n → needed ≤ have → room_of v b have needed ≡ Ok n
room_on n v b have needed e h = rw (e, le-ltb have needed h)

pub room_met : (n : ℕ) (v : Checked) (b have needed : ℕ) → room_of v b have needed ≡ Ok n → (v ≡ Ok n) × (needed ≤ have)
room_met n v b have needed e = (room_before n v b have needed (sym e), room_there n v b have needed (sym e))

pub tally_same : (number : ℕ → ℕ) (m : ℕ) (w : List ℕ) → tally_of (recoded number m w) ≡ tally_of w
unfolding tally_of
tally_same number m w = rw (operators_same number m w, phis)
  where
    phis : many (is_phi (recoded number m w)) (chunk_count (recoded number m w)) ≡ many (is_phi w) (chunk_count w)
    phis =
        ap (many (is_phi (recoded number m w))) (recoded_count number m w)
        ∙ many_ext (is_phi (recoded number m w)) (is_phi w) (chunk_count w) (λ k h. ap (λ (o : ℕ). eqb o Phi) (recoded_op number m w k h))

-- the counts after the call
abbrev pub counts_after : List ℕ → Counts → Counts
counts_after w c = record { constants = before w c.constants; map = c.map; sources = c.sources; stmts = c.stmts; calls = c.calls }

-- the table tests of the folding call
tried_met : (n : ℕ) (v : Checked) (t : List ℕ) → tried_of v t ≡ Ok n → v ≡ Ok n
tried_met n (Err r) t e = absurd (let z : ◌≡◌ {A = ℕ} 0 1 = cc in omega arith)
tried_met n (Ok m) t e = go (ltb (first_bad_try t m) (pairs t)) e
  where
    go : (u : Bool) → ◌≡◌ {A = Checked} (cond u (Err (Try (first_bad_try t m))) (Ok m)) (Ok n) → ◌≡◌ {A = Checked} (Ok m) (Ok n)
    go true e = absurd (let z : ◌≡◌ {A = ℕ} 0 1 = cc in omega arith)
    go false e = e

module _ (n : ℕ) (w tries kinds words : List ℕ) (c : Counts) (l : Lens) where
  abbrev m : ℕ
  m = c.constants

  abbrev w' : List ℕ
  w' = recoded (before w) m w

  abbrev kinds' : List ℕ
  kinds' = pooled (constant_named w) m kinds

  abbrev words' : List ℕ
  words' = pooled (constant_named w) m words

  tables_again : tables_of (tried_of (chunk_check_of w) tries) (chunk_count w) kinds words c l ≡ Ok n
      → tables_of (tried_of (chunk_check_of w') tries) (chunk_count w') kinds' words' (counts_after w c) l ≡ Ok n
  unfolding tables_of
  tables_again e =
      let t₅ = table_met n _ 5 (pairs_kept c.calls l.calls) (sym e) in
      let t₄ = table_met n _ 4 (pairs_kept c.stmts l.stmts) (sym t₅.0) in
      let t₃ = table_met n _ 3 (pairs_kept c.sources l.sources) (sym t₄.0) in
      let t₂ = table_met n _ 2 (map_kept (chunk_count w) c.map l.map) (sym t₃.0) in
      let t₁ = table_met n (tried_of (chunk_check_of w) tries) 1 (constants_kept kinds words m) (sym t₂.0) in
      let p = and-true (within m (length kinds) (length words)) (every (constant_kept kinds words) m) t₁.1 in
      let long = whole_of w (check_met n w (sym (tried_met n (chunk_check_of w) tries t₁.0))) in
      let k = constants_same w kinds words m (kinds_there m (length kinds) (length words) p.0) (words_there m (length kinds) (length words) p.0)
      (few m (length kinds) (length words) p.0) p.1 in
      let s₁ = table_on n (tried_of (chunk_check_of w') tries) 1 (constants_kept kinds' words' (before w m))
      (ap (λ (v : Checked). tried_of v tries) (check_same (before w) m w long) ∙ t₁.0) k in
      let s₂ = table_on n _ 2 (map_kept (chunk_count w') c.map l.map) s₁ (rw (recoded_count (before w) m w) t₂.1) in
      let s₃ = table_on n _ 3 (pairs_kept c.sources l.sources) s₂ t₃.1 in
      let s₄ = table_on n _ 4 (pairs_kept c.stmts l.stmts) s₃ t₄.1 in
      table_on n _ 5 (pairs_kept c.calls l.calls) s₄ t₅.1

  -- and its tests of room
  rooms_again : (v v' : Checked) → (v ≡ Ok n → v' ≡ Ok n) → rooms_of v w c l ≡ Ok n → rooms_of v' w' (counts_after w c) l ≡ Ok n
  unfolding rooms_of
  rooms_again v v' on e =
      let f = (tally_of w).folding in
      let g = tally_same (before w) m w in
      let r₆ = room_met n _ 6 l.remap (chunk_count w + 1) e in
      let r₅ = room_met n _ 5 l.dead (chunk_count w) r₆.0 in
      let r₄ = room_met n _ 4 l.sources (source_room c.sources (tally_of w).phis) r₅.0 in
      let r₃ = room_met n _ 3 l.map (chunk_count w) r₄.0 in
      let r₂ = room_met n _ 2 l.words (constant_room m f) r₃.0 in
      let r₁ = room_met n v 1 l.kinds (constant_room m f) r₂.0 in
      let s₁ = room_on n v' 1 l.kinds (constant_room (before w m) f) (on r₁.0) (room_down (before w m) m f l.kinds (no_more w m) r₁.1) in
      let s₂ = room_on n _ 2 l.words (constant_room (before w m) f) s₁ (room_down (before w m) m f l.words (no_more w m) r₂.1) in
      let s₃ = room_on n _ 3 l.map (chunk_count w) s₂ r₃.1 in
      let s₄ = room_on n _ 4 l.sources (source_room c.sources (tally_of w).phis) s₃ r₄.1 in
      let s₅ = room_on n _ 5 l.dead (chunk_count w) s₄ r₅.1 in
      rw (g, recoded_count (before w) m w) (room_on n _ 6 l.remap (chunk_count w + 1) s₅ r₆.1)

  pub accepted_after : (landings : ℕ) → ready_of w tries kinds words c l landings ≡ Ok n
      → ready_of w' tries kinds' words' (counts_after w c) l landings ≡ Ok n
  unfolding ready_of
  accepted_after landings e =
      let r₇ = room_met n (rooms_of (tables_of (tried_of (chunk_check_of w) tries) (chunk_count w) kinds words c l) w c l) 7 landings (chunk_count w + 1) e in
      let s₆ =
      rooms_again (tables_of (tried_of (chunk_check_of w) tries) (chunk_count w) kinds words c l) (tables_of (tried_of (chunk_check_of w') tries) (chunk_count w') kinds'
      words'
      (counts_after w c) l) tables_again r₇.0
      in
      room_on n (rooms_of (tables_of (tried_of (chunk_check_of w') tries) (chunk_count w') kinds' words' (counts_after w c) l) w' (counts_after w c) l) 7 landings
      (chunk_count w' + 1) s₆
      (rw (recoded_count (before w) m w) r₇.1)
