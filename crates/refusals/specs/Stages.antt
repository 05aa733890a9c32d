-- The tests that follow the first, in document 01's order. Each passes a refusal on. Assumes nothing.
use Rattle.std.specs.Prelude.{ℕ, ◌+◌, ◌*◌, ◌/◌, min, Bool, cond, not, ◌&&◌, List, leb, ltb, get_or, length}
use Rattle.laws.specs.Walk.{first}
use Rattle.refusals.specs.declared.Refusal.TheVariants.{Registers, Try, Short, Position}
use Rattle.refusals.specs.declared.Refusal.{Refusal}
use Rattle.std.specs.declared.result.Result.{Result}
use Rattle.std.specs.declared.result.Result.TheVariants.{Ok, Err}

-- what the tests of a call's input find: how many instructions there are, or the refusal
abbrev pub Checked : Type 0
Checked = Result ℕ Refusal

-- a later test, of n instructions
abbrev pub and_then : Checked → (ℕ → Checked) → Checked
and_then (Err r) test = Err r
and_then (Ok n) test = test n

-- 3: registers above 1,024
abbrev pub registers_of : Checked → ℕ → Checked
registers_of v regs = and_then v (λ n. cond (ltb 1024 regs) (Err (Registers regs)) (Ok n))

-- the pairs, an odd last word counted as one
abbrev pub pairs : List ℕ → ℕ
pairs t = (length t + 1) / 2

-- pair i of the tries is whole, and its s is at most the smaller of h and n
unfoldable pub try_kept : List ℕ → ℕ → ℕ → Bool
try_kept t n i = ltb (2 * i + 1) (length t) && leb (get_or t (2 * i) 0) (min (get_or t (2 * i + 1) 0) n)

-- the first pair that breaks its rule, else how many there are
unfoldable pub first_bad_try : List ℕ → ℕ → ℕ
first_bad_try t n = first (λ i. not (try_kept t n i)) 0 (pairs t)

-- 4: a try breaks its rule
abbrev pub tried_of : Checked → List ℕ → Checked
tried_of v t = and_then v (λ n. cond (ltb (first_bad_try t n) (pairs t)) (Err (Try (first_bad_try t n))) (Ok n))

-- 6: position at n or beyond
abbrev pub inside_of : Checked → ℕ → Checked
inside_of v k = and_then v (λ n. cond (ltb k n) (Ok n) (Err (Position k)))

-- 5: a lent buffer is too short
abbrev pub room_of : Checked → ℕ → ℕ → ℕ → Checked
room_of v b have needed = and_then v (λ n. cond (ltb have needed) (Err (Short b needed)) (Ok n))
