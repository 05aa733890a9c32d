-- Laws of `each`. Assumes nothing.
use mathlib.Core.Path.{◌≡◌, refl, ◌∙◌}
use mathlib.Core.Logic.{⊎_elim}
use mathlib.Core.List.{List, [], ◌∷◌, ◌++◌}
use Prim.Native.Nat.{ℕ, zero, suc, ◌+◌, ◌*◌, ◌<◌, ◌≤◌}
use native.Mathlib.Nat.{eq-or-lt_of_le}
use native.Mathlib.Omega.{arith}
use native.Mathlib.Numerals.{add-one}
use lib.ListN.{length, get_or, length-append, get_or-append}
use lib.Seq.{get_or_at}
use Rattle.laws.specs.Each.{each}

module _ (g : ℕ → List ℕ) where
  pub each_more : (k : ℕ) → each g (k + 1) ≡ each g k ++ g k
  unfolding each
  each_more k = rw add-one

  -- m words a place
  pub each_length : (m : ℕ) → ((k : ℕ) → length (g k) ≡ m) → (n : ℕ) → length (each g n) ≡ m * n
  unfolding each
  each_length m h zero = omega arith
  each_length m h (suc n) = length-append (each g n) (g n) ∙ omega (arith, each_length m h n, h n)

  pub each_ext : (h : ℕ → List ℕ) (n : ℕ) → ((k : ℕ) → k < n → g k ≡ h k) → each g n ≡ each h n
  unfolding each
  each_ext h zero e = refl
  each_ext h (suc n) e = rw (each_ext h n (λ k l. e k (omega arith)), e n (omega arith))

-- one word a place
pub each_word : (f : ℕ → ℕ) (n : ℕ) → length (each (λ k. f k ∷ []) n) ≡ n
each_word f n = each_length (λ k. f k ∷ []) 1 (λ k. refl) n ∙ omega arith

pub each_at : (f : ℕ → ℕ) (n i : ℕ) → i < n → get_or (each (λ k. f k ∷ []) n) i 0 ≡ f i
unfolding each
each_at f zero i h = absurd (omega arith)
each_at f (suc n) i h =
    ⊎_elim
    (λ q. rw q (get_or_at (each (λ k. f k ∷ []) n) (f n) [] 0 n (each_word f n)))
    (λ q. get_or-append (each (λ k. f k ∷ []) n) (f n ∷ []) 0 i (rw (each_word f n) q) ∙ each_at f n i q)
    (eq-or-lt_of_le (below i n h))
  where
    below : (i n : ℕ) → i < suc n → i ≤ n
    below i n h = omega arith
