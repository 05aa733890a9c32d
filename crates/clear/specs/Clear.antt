-- The clearing call: what it answers, and what every lent buffer holds then. Assumes nothing.
use Rattle.std.specs.Prelude.{ℕ, ◌≡◌, List, length}
use Rattle.refusals.specs.Answers.{asked, answer_of, refused_of}
use Rattle.refusals.specs.Stages.{room_of}
use Rattle.refusals.specs.declared.Answer.{Answer}
use Rattle.refusals.specs.Stages.{Checked}
use Rattle.refusals.specs.declared.Refusal.{Refusal}
use Rattle.chunk.specs.Tables.{constants_kept, table_of}
use Rattle.chunk.specs.Check.{chunk_check_of}
use Rattle.named.specs.Unused.{constant_named, before, pooled, recoded, numbered}

-- how many constants there are then, or the refusal
pub data ClearAnswer : Type 0 where
  Is : ℕ → ClearAnswer
  No : Refusal → ClearAnswer

-- the lent buffers, in the order of the call
pub record PoolBuffers : Type 0 where
  pub code : List ℕ
  pub kinds : List ℕ
  pub words : List ℕ
  pub scratch : List ℕ

-- these four buffers as one record
abbrev pub pool_buffers : (code kinds words scratch : List ℕ) → PoolBuffers
pool_buffers code kinds words scratch = record { code = code; kinds = kinds; words = words; scratch = scratch }

-- an answer with what the buffers hold
pub record ClearOutcome : Type 0 where
  pub answer : ClearAnswer
  pub after : PoolBuffers

-- this answer, with what the buffers hold then
abbrev pub clear_outcome : ClearAnswer → PoolBuffers → ClearOutcome
clear_outcome a b = record { answer = a; after = b }

-- exactly the named of m constants are kept, and answered is how many; each one's new number is left in scratch
unfoldable pub cleared : PoolBuffers → ℕ → ClearOutcome
unfolding pooled recoded numbered
cleared b m =
    let w = b.code in
    clear_outcome (Is (before w m)) (pool_buffers (recoded (before w) m w) (pooled (constant_named w) m b.kinds) (pooled (constant_named w) m b.words)
    (numbered (before w) m b.scratch))

-- 1, 2, then 7 for the constants, then 5 for scratch, the call's buffer 1
unfoldable pub clear_ready_of : PoolBuffers → ℕ → Checked
clear_ready_of b m = room_of (table_of (chunk_check_of b.code) 1 (constants_kept b.kinds b.words m)) 1 (length b.scratch) m

-- a refusal leaves every buffer untouched
unfoldable pub clear_call : PoolBuffers → ℕ → ClearOutcome
unfolding cleared clear_ready_of
clear_call b m = asked (clear_ready_of b m) (λ r. clear_outcome (No r) b) (cleared b m)

-- the new count of constants
abbrev pub clear_told : ClearAnswer → Answer
clear_told (Is m) = answer_of m 0 0 0
clear_told (No r) = refused_of r

-- an answer that tells what the call is defined to be, with all that is lent as it leaves it
pub record ClearTold (b : PoolBuffers) (m : ℕ) (r : Answer) (b' : PoolBuffers) : Type 0 where
  pub told : ClearAnswer
  pub allowed : clear_outcome told b' ≡ clear_call b m
  pub is : r ≡ clear_told told
