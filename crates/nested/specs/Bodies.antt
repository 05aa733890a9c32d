-- The bodies of the examples, in numbers. Assumes nothing.
use Rattle.std.specs.Prelude.{List, [], ◌∷◌, ◌++◌, ℕ}
use Rattle.ops.specs.Op.{LoadGlobalR, CallR, CallGlobalR, StoreTopR, SetupExcept, Raise, ReturnR}

-- opcode, a, b, x, without marks
abbrev pub unmarked : ℕ → ℕ → ℕ → ℕ → List ℕ
unmarked o a b x = o ∷ 0 ∷ a ∷ b ∷ 0 ∷ x ∷ []

-- the call at 2 overwrites r5, the call at 6 raises, and the handler at 9 reads r5
abbrev pub body : List ℕ
body =
    unmarked LoadGlobalR 5 1 0
    ++ unmarked LoadGlobalR 4 9 0
    ++ unmarked CallR 4 0 1
    ++ unmarked StoreTopR 1 0 0
    ++ unmarked LoadGlobalR 4 9 0
    ++ unmarked SetupExcept 9 0 0
    ++ unmarked CallR 4 1 1
    ++ unmarked StoreTopR 2 0 0
    ++ unmarked ReturnR 0 2 0
    ++ unmarked ReturnR 0 5 0

-- the one try of that body: from 5 on, its handler at 9
abbrev pub tries : List ℕ
tries = 5 ∷ 9 ∷ []

-- Raise, which is no level: 0 LoadGlobalR a5; 1 CallGlobalR a4 x0; 2 StoreTopR a1; 3 SetupExcept 6; 4 Raise; 5 ReturnR b1; 6 ReturnR b5; try (3, 6)
abbrev pub raised : List ℕ
raised = unmarked LoadGlobalR 5 1 0 ++ unmarked CallGlobalR 4 0 0 ++ unmarked StoreTopR 1 0 0 ++ unmarked SetupExcept 6 0 0 ++ unmarked Raise 0 0 0
    ++ unmarked ReturnR 0 1 0 ++ unmarked ReturnR
    0 5 0
