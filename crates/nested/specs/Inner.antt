-- What only the inside of `nested` needs: contracts of inner functions and proofs cite it, no promise does. Assumes nothing.
use Rattle.std.specs.Prelude.{◌≡◌, true, false, ℕ, ◌≤◌, ◌<◌, max}
use mathlib.Core.List.{Memᴰ, List, [], ◌∷◌, ◌++◌}
use Rattle.flow.specs.Set.{bit}
use Rattle.flow.specs.Flow.{Solution, Closed}
use Rattle.nested.specs.Machine.{Frame}
use Rattle.ops.specs.Op.{LoadGlobalR, CallGlobalR, StoreTopR, SetupExcept, GetAttrR, ReturnR}
use Rattle.nested.specs.Bodies.{unmarked}

-- Rows that shelter: they solve the equations of the code, and a level's row has what its call reads, what its handlers want, and what its
-- resume point wants, less the result. Below the start there is no level.
pub record Shelters (c : Frame) (start : ℕ) (R : ℕ → ℕ) : Type 0 where
  pub inside : start ≤ c.flow.size
  pub early : (k : ℕ) → k < start → c.level k ≡ false
  pub closed : Closed c.flow start
  pub solves : Solution c.flow start R
  pub calls : (k r : ℕ) → start ≤ k → k < c.flow.size → c.level k ≡ true → bit (c.args k) r ≤ bit (R k) r
  pub resumes : (k r : ℕ) → start ≤ k → k < c.flow.size → c.level k ≡ true
      → (start ≤ (c.goes k).resume) × (bit (R (c.goes k).resume) r ≤ max (bit (c.goes k).result r) (bit (R k) r))
  pub catches : (k r h : ℕ) → start ≤ k → k < c.flow.size → c.level k ≡ true → Memᴰ h (c.goes k).handlers → (start ≤ h) × (bit (R h) r ≤ bit (R k) r)

-- a mark that is not tidy: 0 CallGlobalR; 1 StoreTopR a0; 2 ReturnR b0 with the dunder mark, a level that resumes at 3; 3 ReturnR b2
abbrev pub untidy : List ℕ
untidy = unmarked CallGlobalR 0 0 0 ++ unmarked StoreTopR 0 0 0 ++ (ReturnR ∷ 2 ∷ 0 ∷ 0 ∷ 0 ∷ 0 ∷ []) ++ unmarked ReturnR 0 2 0

-- a handler wants what its level gives up: 0 LoadGlobalR a1; 1 CallGlobalR; 2 StoreTopR a2; 3 SetupExcept 6; 4 GetAttrR a1 b2; 5 ReturnR b1; 6 ReturnR b1; try
-- (3, 6)
abbrev pub wanted : List ℕ
wanted = unmarked LoadGlobalR 1 7 0 ++ unmarked CallGlobalR 4 0 0 ++ unmarked StoreTopR 2 0 0 ++ unmarked SetupExcept 6 0 0 ++ unmarked GetAttrR 1 2 0
    ++ unmarked ReturnR 0 1 0 ++ unmarked
    ReturnR 0 1 0
