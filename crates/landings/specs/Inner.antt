-- What only the inside of `landings` needs: contracts of inner functions and proofs cite it, no promise does. Assumes nothing.
use Rattle.std.specs.Prelude.{ℕ, ◌+◌, ◌<◌, ◌≤◌, ◌≡◌, cond, List, ltb, length, get_or, set}
use Rattle.laws.specs.All.{many}
use Rattle.landings.specs.Landings.{jump_lands, handler_lands}

-- one landing more on t; one beyond n is not counted
unfoldable pub bumped : List ℕ → ℕ → List ℕ
bumped l t = cond (ltb t (length l)) (set l t (get_or l t 0 + 1)) l

-- a table of m counts
pub record Counts (l : List ℕ) (m : ℕ) (f : ℕ → ℕ) : Type 0 where
  pub long : length l ≡ m
  pub each : (t : ℕ) → t < m → get_or l t 0 ≡ f t

-- no count above b
pub record FewAt (l : List ℕ) (b : ℕ) : Type 0 where
  pub each : (t : ℕ) → get_or l t 0 ≤ b

-- the first k instructions counted, on top of l₀
pub record Jumped (w l₀ l : List ℕ) (k : ℕ) : Type 0 where
  pub counts : Counts l (length l₀) (λ t. get_or l₀ t 0 + many (jump_lands w t) k)

-- the first k tries
pub record Handled (tries l₀ l : List ℕ) (k : ℕ) : Type 0 where
  pub counts : Counts l (length l₀) (λ t. get_or l₀ t 0 + many (handler_lands tries t) k)
