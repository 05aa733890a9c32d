-- What a host does with the exported saver: calls that are entered and left, and registers overwritten between them. Assumes nothing.
use Rattle.std.specs.Prelude.{ℕ, ◌≡◌, List, [], ◌∷◌, length}
use Rattle.refusals.specs.declared.Answer.{Answer}
use Rattle.saver.specs.Saver.{Saver, saver}
use Rattle.leaves.specs.Leaving.{Back}
use Rattle.frames.specs.Frames.{CallEvent, enters, writes, leaves, Matched}
use Rattle.answers.specs.Answers.{EnterTold, LeaveTold}

-- From one saver to another by exported calls in order. An entry here is one that is answered; overwriting keeps the file's length; a leaving
-- is whatever the call makes of it.
pub data ByCalls : Saver → List CallEvent → Saver → Type 0 where
  done : {s : Saver} → ByCalls s [] s
  enter : {s m t : Saver} {l : List ℕ} {q : ℕ} {es : List CallEvent} {r : Answer} → EnterTold s l q m r → r.refusal ≡ 0 → ByCalls m es t
      → ByCalls s (enters l q ∷ es) t
  write : {s t : Saver} {new : List ℕ} {es : List CallEvent} → length new ≡ length s.file → ByCalls (saver s.head s.area new) es t
      → ByCalls s (writes new ∷ es) t
  leave : {s m t : Saver} {back : Back} {es : List CallEvent} {r : Answer} → LeaveTold s back m r → ByCalls m es t → ByCalls s (leaves back ∷ es) t

-- a frame was entered with a list and a result register; then exported calls came and went well bracketed, nested to any depth, and registers were
-- overwritten at will: t is the saver that is left
pub record Entered (list : List ℕ) (result : ℕ) (s t : Saver) : Type 0 where
  pub after : Saver
  pub answer : Answer
  pub entry : EnterTold s list result after answer
  pub went : answer.refusal ≡ 0
  pub events : List CallEvent
  pub bracketed : Matched events
  pub calls : ByCalls after events t
