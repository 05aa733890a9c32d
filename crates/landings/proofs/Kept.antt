-- Codes with the same jumps have the same landings. Assumes nothing.
use Prim.Native.Nat.{ℕ, ◌+◌, ◌/◌}
use mathlib.Core.Path.{◌≡◌, refl, ap, ◌∙◌}
use mathlib.Core.Bool.{Bool, true, false, ◌&&◌}
use mathlib.Core.List.{List, [], ◌∷◌}
use lib.Dec.{eqb}
use lib.ListN.{length}
use Rattle.laws.specs.Each.{each}
use Rattle.laws.proofs.Each.{each_ext}
use Rattle.chunk.specs.Chunk.{stride, chunk_count, operand_at, marks_jump}
use Rattle.laws.proofs.Counting.{many_ext}
use Rattle.landings.specs.Landings.{jump_lands, landings_at, landings_of}

-- the same jumps, to the same places
pub record SameJumps (w w' : List ℕ) : Type 0 where
  pub long : length w' ≡ length w
  pub mark : (k : ℕ) → marks_jump w' k ≡ marks_jump w k
  pub goal : (k : ℕ) → marks_jump w k ≡ true → operand_at w' k ≡ operand_at w k

module _ (w w' tries : List ℕ) (s : SameJumps w w') where
  to_same : (t k : ℕ) → jump_lands w' t k ≡ jump_lands w t k
  to_same t k = rw (s.mark k) (go (marks_jump w k) refl)
    where
      go : (b : Bool) → marks_jump w k ≡ b → b && eqb (operand_at w' k) t ≡ b && eqb (operand_at w k) t
      go true e = rw (s.goal k e) refl
      go false e = refl

  at_same : (t : ℕ) → landings_at w' tries t ≡ landings_at w tries t
  unfolding landings_at
  at_same t = rw (s.long, many_ext (jump_lands w' t) (jump_lands w t) (chunk_count w) (λ k h. to_same t k)) refl

  pub landings_same : landings_of w' tries ≡ landings_of w tries
  unfolding landings_of
  landings_same =
      each_ext (λ t. landings_at w' tries t ∷ []) (λ t. landings_at w tries t ∷ []) (chunk_count w' + 1) (λ t h. ap (λ (x : ℕ). x ∷ []) (at_same t))
      ∙ ap (λ (m : ℕ). each (λ t. landings_at w tries t ∷ []) (m / stride + 1)) s.long

pub same_refl : (w : List ℕ) → SameJumps w w
same_refl w = record { long = refl; mark = λ k. refl; goal = λ k h. refl }

pub same_twice : {a b c : List ℕ} → SameJumps a b → SameJumps b c → SameJumps a c
same_twice p q =
    record {
      long = q.long ∙ p.long;
      mark = λ k. q.mark k ∙ p.mark k;
      goal = λ k h. q.goal k (p.mark k ∙ h) ∙ p.goal k h;
    }
