-- What the tests of the clearing call leave of the buffers, and what it answers by them. Assumes nothing.
use Prim.Native.Nat.{ℕ, ◌*◌, ◌%◌}
use native.Mathlib.Omega.{arith}
use mathlib.Core.Path.{◌≡◌, refl, sym, ◌∙◌}
use mathlib.Core.Bool.{Bool, true, false, not}
use mathlib.Core.List.{List}
use lib.Dec.{eqb, ltb}
use lib.ListN.{length}
use borrow.Author.Tests.{eqb-true, not-false}
use Rattle.laws.specs.All.{every}
use Rattle.laws.proofs.Branch.{and-true, or_false}
use Rattle.refusals.proofs.Answers.{refused, told}
use Rattle.refusals.proofs.Stages.{room_before, room_there}
use Rattle.refusals.specs.Answers.{answer_of, refused_of}
use Rattle.refusals.specs.declared.Answer.{Answer}
use Rattle.refusals.specs.declared.Refusal.{Refusal}
use Rattle.refusals.specs.declared.Refusal.TheVariants.{Length, Table}
use Rattle.refusals.specs.Stages.{Checked}
use Rattle.std.specs.declared.result.Result.TheVariants.{Ok, Err}
use Rattle.chunk.specs.Chunk.{stride, chunk_count}
use Rattle.chunk.specs.Tables.{constant_kept, within, constants_kept, table_of}
use Rattle.chunk.specs.Check.{uneven_chunk, chunk_check_of}
use Rattle.chunk.proofs.Kept.{few, kinds_there, words_there}
use Rattle.clear.specs.Clear.{Is, No, PoolBuffers, clear_outcome, cleared, clear_ready_of, clear_call, ClearTold}
use Rattle.clear.specs.Inner.{ClearRoom}

pub never : {A : Type 0} (n : ℕ) (r : Refusal) → Ok n ≡ Err r → A
never n r e = let z : ◌≡◌ {A = ℕ} 0 1 = cc in absurd (omega arith)

pub table_met : (n : ℕ) (v : Checked) (t : ℕ) (kept : Bool) → Ok n ≡ table_of v t kept → (v ≡ Ok n) × (kept ≡ true)
table_met n (Err r) t kept e = never n r e
table_met n (Ok m) t true e = (sym e, refl)
table_met n (Ok m) t false e = never n (Table t) e

pub check_met : (n : ℕ) (w : List ℕ) → Ok n ≡ chunk_check_of w → length w % stride ≡ 0
unfolding chunk_check_of
check_met n w h = go (uneven_chunk w) refl h
  where
    go : (u : Bool) → uneven_chunk w ≡ u → Ok n ≡ chunk_check_of w → length w % stride ≡ 0
    go true e h = never n (Length (length w)) (rw e at h)
    go false e h = eqb-true (length w % stride) 0 (not-false _ (or_false (not (eqb (length w % stride) 0)) (ltb 65535 (chunk_count w)) e).0)

pub whole_of : (w : List ℕ) → length w % stride ≡ 0 → length w ≡ stride * chunk_count w
whole_of w e = omega arith

module _ (b : PoolBuffers) (m : ℕ) (v : Checked) (e : v ≡ clear_ready_of b m) where
  pub held_of : (n : ℕ) → v ≡ Ok n → ClearRoom b m
  unfolding clear_ready_of
  held_of n f =
      let r : Ok n ≡ clear_ready_of b m = sym f ∙ e in
      let v₁ = table_of (chunk_check_of b.code) 1 (constants_kept b.kinds b.words m) in
      let t = table_met n (chunk_check_of b.code) 1 (constants_kept b.kinds b.words m) (sym (room_before n v₁ 1 (length b.scratch) m r)) in
      let i = (and-true (within m (length b.kinds) (length b.words)) (every (constant_kept b.kinds b.words) m) t.1).0 in
      record {
        whole = whole_of b.code (check_met n b.code (sym t.0));
        few = few m (length b.kinds) (length b.words) i;
        kinds = kinds_there m (length b.kinds) (length b.words) i;
        words = words_there m (length b.kinds) (length b.words) i;
        scratch = room_there n v₁ 1 (length b.scratch) m r;
      }

  pub refused_by : (q : Refusal) (r : Answer) → v ≡ Err q → r ≡ refused_of q → ClearTold b m r b
  unfolding clear_call
  refused_by q r h z =
      record {
        told = No q;
        allowed = refused v (clear_ready_of b m) e (λ p. clear_outcome (No p) b) (cleared b m) q (clear_outcome (No q) b) h refl;
        is = z;
      }

  pub told_by : (n left : ℕ) (b' : PoolBuffers) (r : Answer) → v ≡ Ok n → clear_outcome (Is left) b' ≡ cleared b m → r ≡ answer_of left 0 0 0
      → ClearTold b m r b'
  unfolding clear_call
  told_by n left b' r h g z =
      record {
        told = Is left;
        allowed = told v (clear_ready_of b m) e (λ p. clear_outcome (No p) b) (cleared b m) n (clear_outcome (Is left) b') h g;
        is = z;
      }
