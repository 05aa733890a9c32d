-- A run of lent code whose calls go through the exported frame saver. Assumes nothing.
use Rattle.std.specs.Prelude.{◌≡◌, Bool, true, List, [], ◌∷◌, ◌++◌, ℕ, ◌≤◌, ◌<◌, get_or, replicate}
use Rattle.code.specs.Ins.{ins_at, count}
use Rattle.refusals.specs.declared.Answer.{Answer}
use Rattle.flow.specs.Run.{values_of, file_after, chosen}
use Rattle.flow.specs.Kept.{handlers_of}
use Rattle.steps.specs.Code.{set_of, used_at}
use Rattle.steps.specs.Level.{is_level}
use Rattle.kept.specs.Level.{resume_of, result_at}
use Rattle.saver.specs.Saver.{Saver, regs_of}
use Rattle.leaves.specs.Leaving as saver
use Rattle.frames.specs.Frames.{file_of, Sound}
use Rattle.saved.specs.Calls.{Entered}
use Rattle.answers.specs.Answers.{LeaveTold}
use Rattle.nested.specs.Machine.{Event, step, back, thrown}
use Rattle.nested.specs.Raising.{raising, mays, args_at}

-- x at q
abbrev pub result_in : ℕ → ℕ → List ℕ
result_in q x = replicate q 0 ++ (x ∷ [])

-- From position k and a saver on: what happens, position by position, and what is read. A step of the code leaves its file in the saver. A call is
-- entered with the level's list and result register; anything well bracketed happens, with registers overwritten at will; and it is left by a
-- return, on at the resume point, or by an exception, on in a handler.
pub data Ran (w : List ℕ) (regs : ℕ) (tries : List ℕ) (all : Bool) (lists : ℕ → List ℕ) : ℕ → Saver → List Event → List (ℕ × List ℕ) → Type 0 where
  ends : {k : ℕ} {s : Saver} → Ran w regs tries all lists k s [] []
  past : {k : ℕ} {s : Saver} {e : Event} {es : List Event} → count w ≤ k → Ran w regs tries all lists k s (e ∷ es) []
  steps : {k choice : ℕ} {new : List ℕ} {s : Saver} {es : List Event} {told : List (ℕ × List ℕ)} (s' : Saver) → k < count w → Sound s' → regs_of s' ≡ regs
      → file_of s' ≡ file_after (raising (mays all w) regs w tries) k choice new (file_of s)
      → Ran w regs tries all lists (chosen (raising (mays all w) regs w tries) k choice) s' es told
      → Ran w regs tries all lists k s (step choice new ∷ es) ((k, values_of (raising (mays all w) regs w tries) (set_of regs (used_at w k)) (file_of s)) ∷ told)
  returns : {k : ℕ} {s : Saver} {es : List Event} {told : List (ℕ × List ℕ)} (x : ℕ) (t t' : Saver) (r : Answer) → k < count w → is_level (ins_at w k) ≡ true
      → Entered (lists k) (result_at w k) s t → LeaveTold t (saver.returned x) t' r → Ran w regs tries all lists (resume_of w k) t' es told
      → Ran w regs tries all lists k s (back (file_of t') (result_in (result_at w k) x) ∷ es)
      ((k, values_of (raising (mays all w) regs w tries) (args_at regs w k) (file_of s)) ∷ told)
  raises : {k : ℕ} {s : Saver} {es : List Event} {told : List (ℕ × List ℕ)} (i : ℕ) (t t' : Saver) (r : Answer) → k < count w → is_level (ins_at w k) ≡ true
      → Entered (lists k) (result_at w k) s t → LeaveTold t saver.thrown t' r
      → Ran w regs tries all lists (get_or (handlers_of (count w) k tries) i (count w)) t' es told
      → Ran w regs tries all lists k s (thrown (file_of t') i ∷ es) ((k, values_of (raising (mays all w) regs w tries) (args_at regs w k) (file_of s)) ∷ told)
