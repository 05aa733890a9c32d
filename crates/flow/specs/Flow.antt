-- The row equations, of any code: no opcode is named here. Assumes nothing.
use Rattle.std.specs.Prelude.{◌≡◌, ℕ, ◌≤◌, ◌<◌}
use mathlib.Core.List.{List, [], ◌∷◌, ◌++◌, Memᴰ}
use Rattle.std.specs.Int.Bits.{bit_or}
use Rattle.flow.specs.Set.{minus, ◌⊑◌}

-- What liveness sees of code: n, the register count, and at each position the registers used, those given up, the positions that "after"
-- names (none after a return), and those that it may leave for before it gives up anything, as for a handler. Document 01's rows have none.
pub record Flow : Type 0 where
  pub size : ℕ
  pub regs : ℕ
  pub used : ℕ → ℕ
  pub given_up : ℕ → ℕ
  pub after : ℕ → List ℕ
  pub raises : ℕ → List ℕ

-- the rows at some positions, together
unfoldable pub joined : (ℕ → ℕ) → List ℕ → ℕ
joined R [] = 0
joined R (s ∷ ss) = bit_or (R s) (joined R ss)

-- a row together with the rows of some handlers
abbrev pub onto : (ℕ → ℕ) → ℕ → List ℕ → ℕ
onto R x [] = x
onto R x (h ∷ hs) = onto R (bit_or x (R h)) hs

-- row k = used(k) together with (after(k) without given-up(k)), and with the rows of its handlers whole
unfoldable pub row_at : Flow → (ℕ → ℕ) → ℕ → ℕ
row_at f R k = onto R (bit_or (f.used k) (minus (joined R (f.after k)) (f.given_up k))) (f.raises k)

-- every position that may come next
abbrev pub reach : Flow → ℕ → List ℕ
reach f k = f.raises k ++ f.after k

-- row n is empty and nothing is past it; from the start on, each row solves its equation
pub record Solution (f : Flow) (start : ℕ) (R : ℕ → ℕ) : Type 0 where
  pub last : (k : ℕ) → f.size ≤ k → R k ≡ 0
  pub each : (k : ℕ) → start ≤ k → k < f.size → R k ≡ row_at f R k

-- a solution that is in every other, from the start on
pub record Least (f : Flow) (start : ℕ) (R : ℕ → ℕ) : Type 0 where
  pub solves : Solution f start R
  pub least : (S : ℕ → ℕ) → Solution f start S → (k : ℕ) → start ≤ k → R k ⊑ S k

-- from the start on, nothing before it comes next
abbrev pub Closed : Flow → ℕ → Type 0
Closed f start = (k : ℕ) → start ≤ k → k < f.size → (s : ℕ) → Memᴰ s (reach f k) → start ≤ s
