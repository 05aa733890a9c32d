-- What a host does with the calls above the kept-register call: a level that it found, and a frame that it entered. Assumes nothing.
use Rattle.std.specs.Prelude.{◌≡◌, Bool, List, ℕ}
use Rattle.refusals.specs.declared.Answer.{Answer}
use Rattle.levels.specs.Answers.{level_answer}
use Rattle.saver.specs.Saver.{Saver, regs_of}
use Rattle.frames.specs.Frames.{Sound}
pub use Rattle.saved.specs.Calls.{Entered}
use Rattle.exported.specs.Calls.{Lists, KeptCall}

-- the kept call was answered, the level call told v of position k, a level, and the saver was made for as many registers
pub record AtLevel (bits : ℕ) (w : List ℕ) (regs : ℕ) (tries : List ℕ) (a : Lists) (k : ℕ) (v : Answer) (s : Saver) : Type 0 where
  pub wide : Bool
  pub before : Lists
  pub answer : Answer
  pub kept : KeptCall bits w regs tries wide before answer a
  pub answered : answer.refusal ≡ 0
  pub asked : v ≡ level_answer w k
  pub heard : v.refusal ≡ 0
  pub found : v.first ≡ 1
  pub sound : Sound s
  pub same : regs_of s ≡ regs
