-- What the exported calls answer for each case of a call's own answer. Assumes nothing.
use Rattle.std.specs.Prelude.{ℕ, ◌≡◌, Bool, List}
use Rattle.refusals.specs.Answers.{answer_of, refused_of}
use Rattle.refusals.specs.declared.Answer.{Answer}
use Rattle.chunk.specs.declared.Counts.{Counts}
use Rattle.optimizer.specs.Fold.{Buffers}
use Rattle.folding.specs.Answers as folding
use Rattle.flow.specs.Flow.{Flow}
use Rattle.kept.specs.Answers.{ListsLeft, Outcome}
use Rattle.kept.specs.declared.KeptAnswer.{KeptAnswer}
use Rattle.kept.specs.declared.KeptAnswer.TheVariants as kept
use Rattle.saver.specs.Saver.{Made, Saver, ends, enter_of}
use Rattle.leaves.specs.Leaving.{Back, leave_of}
use Rattle.saver.specs.Answers.{saver_told}
use Rattle.day.specs.Day.{Day}
use Rattle.day.specs.Answers.{day_told}
use Rattle.refusals.specs.Stages.{Checked}
use Rattle.std.specs.declared.result.Result.TheVariants.{Ok, Err}
use Rattle.nested.specs.Raising.{raising, mays, begins_at}
use Rattle.exposes.specs.Answers.{ExposedLeft}

-- an answer that is what f gives for a case which P allows
pub record By {A : Type 0} (f : A → Answer) (P : A → Type 0) (r : Answer) : Type 0 where
  pub told : A
  pub allowed : P told
  pub is : r ≡ f told

-- list length, full sweeps, abandoned sweeps
abbrev pub kept_told : KeptAnswer → Answer
kept_told (kept.Is n full abandoned) = answer_of n full abandoned 0
kept_told (kept.No r) = refused_of r

-- by the rows of some equations, from a start on
abbrev pub ListsTold : Flow → ℕ → ℕ → List ℕ → ℕ → List ℕ → (rows offsets list rows' offsets' list' : List ℕ) → Answer → Type 0
ListsTold f start bits w regs tries rows offsets list rows' offsets' list' r =
    By kept_told (λ v. ListsLeft f start bits w regs tries rows offsets list rows' offsets' list' v) r

-- kept, and kept32 by the bits: an answer that the call may give, with what scratch, offsets and list hold before and after it
abbrev pub KeptTold : ℕ → List ℕ → ℕ → List ℕ → Bool → List ℕ → List ℕ → List ℕ → List ℕ → List ℕ → List ℕ → Answer → Type 0
KeptTold bits w regs tries wide rows offsets list rows' offsets' list' r = By kept_told (λ v. Outcome bits w regs tries wide rows offsets list rows' offsets'
    list' v) r

-- fold: an answer that the call gives, with what all that is lent holds before and after it
abbrev pub FoldTold : Bool → Buffers → List ℕ → List ℕ → Counts → Answer → Buffers → List ℕ → List ℕ → Type 0
FoldTold strict b tries landings c r b' tries' landings' = folding.FoldTold strict b tries landings c r b' tries' landings'

-- the saver's calls: the words in use, and every word of head, area and file
abbrev pub MadeTold : ℕ → List ℕ → List ℕ → Answer → Type 0
MadeTold regs head head' r = By saver_told (λ v. Made regs head head' v) r

-- a call entered with the list l and the result register q: the saver s becomes s', and the answer is r
abbrev pub EnterTold : Saver → List ℕ → ℕ → Saver → Answer → Type 0
EnterTold s l q s' r = By saver_told (λ v. enter_of s l q ≡ ends s' v) r

-- a call left by a return or by an exception: the saver s becomes s', and the answer is r
abbrev pub LeaveTold : Saver → Back → Saver → Answer → Type 0
LeaveTold s back s' r = By saver_told (λ v. leave_of s back ≡ ends s' v) r

-- steps, levels met, and the reads of each register
abbrev pub ReplayTold : List ℕ → ℕ → List ℕ → List ℕ → List ℕ → List ℕ → Answer → Type 0
ReplayTold w regs tries t reads reads' r = By day_told (λ v. Day w regs tries t reads reads' v) r

-- a count, or the refusal
abbrev pub count_told : Checked → Answer
count_told (Ok n) = answer_of n 0 0 0
count_told (Err r) = refused_of r

-- lists for frames whose calls raise: as kept answers
abbrev pub RaisingTold : List ℕ → ℕ → List ℕ → Bool → (rows offsets list rows' offsets' list' : List ℕ) → Answer → Type 0
RaisingTold w regs tries all rows offsets list rows' offsets' list' r =
    ListsTold (raising (mays all w) regs w tries) (begins_at regs w) 64 w regs tries rows offsets list rows' offsets' list' r

-- how many registers one list has and another has not
abbrev pub ExposedTold : (plain list out out' : List ℕ) → Answer → Type 0
ExposedTold plain list out out' r = By count_told (λ v. ExposedLeft plain list out out' v) r
