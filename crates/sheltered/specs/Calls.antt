-- The exported calls for frames whose calls raise, and what an answer of theirs says. Assumes nothing.
use Rattle.std.specs.Prelude.{◌≡◌, Bool, true, false, ℕ, ◌+◌, ◌≤◌, ◌<◌}
use mathlib.Core.List.{List, [], ◌∷◌, Memᴰ}
use Rattle.code.specs.Ins.{ins_at, count}
use Rattle.refusals.specs.Answers.{answer_of}
use Rattle.refusals.specs.declared.Answer.{Answer}
use Rattle.flow.specs.Flow.{Least}
use Rattle.flow.specs.Sweep.{row, start_of}
use Rattle.flow.specs.Demand.{Keeps, Lost, Once}
use Rattle.steps.specs.Level.{is_level}
use Rattle.steps.specs.Code.{jumps_back}
use Rattle.rows.specs.Route.{rows_in}
use Rattle.kept.specs.Level.{level_of, kept_at}
use Rattle.answers.specs.Answers.{ExposedTold}
use Rattle.exported.specs.Calls.{Lists, ListsCall, ListsSettles, KeptCall}
use Rattle.exported.specs.Told.{list_left}
use Rattle.nested.specs.Machine.{Sheltered}
use Rattle.nested.specs.Raising.{raising, levels, mays, begins_at, frame}
use Rattle.nested.specs.Bodies.{body, tries, raised}

-- kept_raising on w, with so many registers and these tries, lent b: it answered r and left a
abbrev pub RaisingCall : List ℕ → ℕ → List ℕ → Bool → Lists → Answer → Lists → Type 0
RaisingCall w regs tries all b r a = ListsCall (raising (mays all w) regs w tries) (begins_at regs w) 64 w regs tries b r a

-- one result, refusals and words past a need as of kept
abbrev pub RaisingSettles : List ℕ → ℕ → List ℕ → Bool → Type 0
RaisingSettles w regs tries all = ListsSettles (raising (mays all w) regs w tries) (begins_at regs w) 64 w regs tries

-- what an answer of kept_raising says: its lists are enough in every run of nested frames, with no register to spare and none twice
pub record RaisingHolds (w : List ℕ) (regs : ℕ) (tries : List ℕ) (all : Bool) (r : Answer) (a : Lists) : Type 0 where
  -- in a run in which at every level all registers but those listed and the result are overwritten at will, calls return or raise, and what may
  -- raise goes on in a handler around it, as often as it likes, all that is read is what the undisturbed run reads
  pub shelters : Sheltered (frame (mays all w) regs w tries) (list_left a)
  -- the rows are the least solution of the equations with handlers
  pub least : Least (raising (mays all w) regs w tries) (start_of (raising (mays all w) regs w tries) (begins_at regs w)) (row (rows_in 64 regs w a.rows))
  -- full sweeps are at most the jumps of the code to their own position or back, plus two, and at most one is abandoned
  pub sweeps : (r.second ≤ jumps_back w + 2) × (r.third ≤ 1)
  -- from offset k to offset k + 1 stands the kept list of position k, by the rows in the scratch
  pub stands : (k : ℕ) → k < count w → list_left a k ≡ kept_at regs w tries (rows_in 64 regs w a.rows) k
  -- demand 3 in the machine that raises: enough, none to spare, none twice
  pub keeps : (k : ℕ) → k < count w → is_level (ins_at w k) ≡ true → Keeps (raising (mays all w) regs w tries) (list_left a k) (level_of regs w tries k)
  pub spare : (k : ℕ) → k < count w → is_level (ins_at w k) ≡ true
      → (q : ℕ) → Memᴰ q (list_left a k) → Lost (raising (mays all w) regs w tries) (list_left a k) (level_of regs w tries k) q
  pub once : (k : ℕ) → k < count w → is_level (ins_at w k) ≡ true → Once (list_left a k)
  -- a position that is no level has an empty list
  pub empty : (k : ℕ) → k < count w → is_level (ins_at w k) ≡ false → list_left a k ≡ []

-- kept and kept_raising were both answered on the same code, registers and tries, kept of any width and route
pub record Both (w : List ℕ) (regs : ℕ) (tries : List ℕ) (all : Bool) (plain list : Lists) : Type 0 where
  pub bits : ℕ
  pub wide : Bool
  pub lent : Lists
  pub lent' : Lists
  pub answer : Answer
  pub answer' : Answer
  pub kept : KeptCall bits w regs tries wide lent answer plain
  pub kept_answered : answer.refusal ≡ 0
  pub raising_call : RaisingCall w regs tries all lent' answer' list
  pub raising_answered : answer'.refusal ≡ 0

-- exposed was asked about two lists and told none
pub record NoneExposed (plain list : List ℕ) : Type 0 where
  pub out : List ℕ
  pub out' : List ℕ
  pub answer : Answer
  pub asked : ExposedTold plain list out out' answer
  pub none : answer ≡ answer_of 0 0 0 0

-- ---- the two bodies of the finding

-- kept, on the body whose handler reads r5: the lists that it leaves do not shelter nested frames, though only levels raise
abbrev pub NotEnough : Type 0
NotEnough = (b : Lists) (r : Answer) (a : Lists) → KeptCall 64 body 6 tries false b r a → r.refusal ≡ 0
    → Sheltered (frame (levels body) 6 body tries) (list_left a) → ⊥

-- kept_raising, on the same: r5 is kept at 2 and at 6
abbrev pub Enough : Type 0
Enough = (b : Lists) (r : Answer) (a : Lists) → RaisingCall body 6 tries false b r a → r.refusal ≡ 0 → (list_left a 2 ≡ 5 ∷ []) × (list_left a 6 ≡ 5 ∷ [])

-- kept_raising, on the body with Raise, which is no level: the call at 1 keeps nothing where only levels raise, and r5 where anything may
abbrev pub RaiseKept : Type 0
RaiseKept = (b : Lists) (r : Answer) (a : Lists) → ((RaisingCall raised 6 (3 ∷ 6 ∷ []) false b r a → r.refusal ≡ 0 → list_left a 1 ≡ [])
    × (RaisingCall raised 6 (3 ∷ 6 ∷ []) true b r a → r.refusal ≡ 0 → list_left a 1 ≡ 5 ∷ []))
