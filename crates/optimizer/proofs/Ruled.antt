-- What tests 1 and 2 say of a code that passes them. Assumes nothing.
use Prim.Native.Nat.{ℕ, ◌+◌, ◌*◌, ◌≤◌}
use native.Mathlib.Omega.{arith}
use mathlib.Core.Path.{◌≡◌, refl}
use mathlib.Core.Bool.{Bool, true, false}
use mathlib.Core.List.{List}
use lib.Dec.{ltb}
use lib.ListN.{length, get_or-eq_default}
use borrow.Author.Tests.{ltb-true, ltb-false, not-false}
use Rattle.laws.proofs.Walk.{none_passed}
use Rattle.chunk.specs.Chunk.{stride, chunk_count, op_at, mark_at, folds, chunk_rules, breaks_at}
use Rattle.chunk.specs.Check.{first_bad_of}

-- every instruction keeps the record rules; past the end there is none to break them
abbrev pub Ruled : List ℕ → Type 0
Ruled w = (k : ℕ) → chunk_rules (op_at w k) (mark_at w k) ≡ true

pub no_words : chunk_rules 0 0 ≡ true
unfolding chunk_rules folds
no_words = refl

-- what the tests say of a code that passes them
pub ruled_of : (w : List ℕ) → length w ≡ stride * chunk_count w → chunk_count w ≤ first_bad_of w → Ruled w
ruled_of w l h k = go (ltb k (chunk_count w)) refl
  where
    go : (t : Bool) → ltb k (chunk_count w) ≡ t → chunk_rules (op_at w k) (mark_at w k) ≡ true
    go true q = not-false _ (none_passed (breaks_at w) k (chunk_count w) 0 (omega arith) (omega arith) (omega (arith, ltb-true k (chunk_count w) q)))
    go false q =
        let p : op_at w k ≡ 0 = get_or-eq_default w 0 {n = stride * k} (omega (arith, ltb-false k (chunk_count w) q)) in
        let r : mark_at w k ≡ 0 = get_or-eq_default w 0 {n = stride * k + 1} (omega (arith, ltb-false k (chunk_count w) q)) in
        rw (p, r) no_words
