-- The statements of the calls that write, each with its buffers as one record, and how far each buffer is needed. Assumes nothing.
use Rattle.std.specs.Prelude.{◌≡◌, ◌⊎◌, Bool, List, ℕ, suc, ◌+◌, length}
use Rattle.laws.specs.Table.{Held}
use Rattle.code.specs.Ins.{count}
use Rattle.refusals.specs.declared.Answer.{Answer}
use Rattle.flow.specs.Flow.{Flow}
use Rattle.flow.specs.Words.{Small}
use Rattle.kept.specs.Answers.{scratch_for}
use Rattle.steps.specs.Code.{flow}
use Rattle.rows.specs.Route.{route_start}
use Rattle.chunk.specs.declared.Counts.{Counts}
use Rattle.clear.specs.Clear as clearing
use Rattle.clear.specs.Clear.{ClearTold}
use Rattle.refold.specs.Lending.{Lending}
use Rattle.surveys.specs.Answers.{Targets}
use Rattle.loops.specs.Answers.{LoopsAround}
use Rattle.unread.specs.Answers.{DeadPhi}
use Rattle.generators.specs.Answers.{GenTold}
use Rattle.needed.specs.Answers.{NeededTold}
use Rattle.answers.specs.Answers.{ListsTold, FoldTold}
use Rattle.exported.specs.Settles.{Refusal}

-- ---- targets and loops_around write n + 1 entries

-- targets on w with these tries, lent b: it answered r and left a
abbrev pub TargetsCall : (w tries : List ℕ) → List ℕ → Answer → List ℕ → Type 0
TargetsCall w tries b r a = Targets w tries b r a

-- loops_around on w, lent b: it answered r and left a
abbrev pub LoopsCall : List ℕ → List ℕ → Answer → List ℕ → Type 0
LoopsCall w b r a = LoopsAround w b r a

-- the buffer keeps its length, and only its first n + 1 entries may change
abbrev pub EntriesBeyond : List ℕ → List ℕ → List ℕ → Type 0
EntriesBeyond w b a = Held (count w + 1) b a

-- ---- dead_phi, gen_pure and needed write n + 1 words of both buffers

-- the two buffers that a search is lent: its marks, and its waiting positions
pub record Marks : Type 0 where
  pub seen : List ℕ
  pub todo : List ℕ

-- dead_phi on w, for register q after k, lent b: it answered r and left a
abbrev pub DeadCall : List ℕ → (k q : ℕ) → Marks → Answer → Marks → Type 0
DeadCall w k q b r a = DeadPhi w k q b.seen b.todo r a.seen a.todo

-- gen_pure on w, lent b: it answered r and left a
abbrev pub GenCall : List ℕ → Marks → Answer → Marks → Type 0
GenCall w b r a = GenTold w b.seen b.todo r a.seen a.todo

-- needed on w with so many registers, for register q at k, lent b: it answered r and left a
abbrev pub NeededCall : List ℕ → (regs k q : ℕ) → Marks → Answer → Marks → Type 0
NeededCall w regs k q b r a = NeededTold w regs k q b.seen b.todo r a.seen a.todo

-- both buffers keep their lengths, and only their first n + 1 entries may change
pub record MarksBeyond (w : List ℕ) (b a : Marks) : Type 0 where
  pub seen : Held (count w + 1) b.seen a.seen
  pub todo : Held (count w + 1) b.todo a.todo

-- ---- kept writes its scratch, n + 1 offsets and as much of the list as it answers

-- the three buffers of kept: the scratch, which holds the rows, the offsets, and the list
pub record Lists : Type 0 where
  pub rows : List ℕ
  pub offsets : List ℕ
  pub list : List ℕ

-- a call by the rows of some equations; the scratch is words of so many bits: 64 of kept, as every lent u64 is, and 32 of kept32
pub record ListsCall (f : Flow) (start bits : ℕ) (w : List ℕ) (regs : ℕ) (tries : List ℕ) (b : Lists) (r : Answer) (a : Lists) : Type 0 where
  pub told : ListsTold f start bits w regs tries b.rows b.offsets b.list a.rows a.offsets a.list r
  pub words : Small bits a.rows

-- kept, or kept32 by the bits, on w with so many registers and these tries, by the route that is asked for, lent b: it answered r and left a
abbrev pub KeptCall : ℕ → List ℕ → ℕ → List ℕ → Bool → Lists → Answer → Lists → Type 0
KeptCall bits w regs tries wide b r a = ListsCall (flow regs w) (route_start bits wide regs w) bits w regs tries b r a

-- like `Settles`, with the one exception: refusal 5 for the list, buffer 3, comes after the rows are found, and the scratch holds them
pub record ListsSettles (f : Flow) (start bits : ℕ) (w : List ℕ) (regs : ℕ) (tries : List ℕ) : Type 0 where
  -- any two results are equal, lent words included
  pub one : (b : Lists) (r r' : Answer) (a a' : Lists) → ListsCall f start bits w regs tries b r a → ListsCall f start bits w regs tries b r' a' → (r ≡ r')
      × (a ≡ a')
  -- a refusal leaves offsets and list as lent, and the scratch too, but for the one
  pub refusal : (b : Lists) (r : Answer) (a : Lists) → ListsCall f start bits w regs tries b r a → Refusal r
      → (a.offsets ≡ b.offsets) × (a.list ≡ b.list) × ((a.rows ≡ b.rows) ⊎ ((r.refusal ≡ 5) × (r.first ≡ 3)))
  -- words past a needed length are never touched
  pub rows_beyond : (b : Lists) (r : Answer) (a : Lists) → ListsCall f start bits w regs tries b r a → Held (scratch_for bits regs w) b.rows a.rows
  pub offsets_beyond : (b : Lists) (r : Answer) (a : Lists) → ListsCall f start bits w regs tries b r a → Held (suc (count w)) b.offsets a.offsets
  pub list_beyond : (b : Lists) (r : Answer) (a : Lists) → ListsCall f start bits w regs tries b r a → r.refusal ≡ 0 → Held r.first b.list a.list

-- one result, refusals and words past a need: what is promised of kept and of kept32
abbrev pub KeptSettles : ℕ → List ℕ → ℕ → List ℕ → Bool → Type 0
KeptSettles bits w regs tries wide = ListsSettles (flow regs w) (route_start bits wide regs w) bits w regs tries

-- ---- fold and clear

-- fold in this mode and with these counts, lent b: it answered r and left a
abbrev pub FoldCall : Bool → Counts → Lending → Answer → Lending → Type 0
FoldCall strict c b r a = FoldTold strict b.buffers b.tries b.landings c r a.buffers a.tries a.landings

-- clear with m constants, lent b: it answered r and left a
abbrev pub ClearCall : ℕ → clearing.PoolBuffers → Answer → clearing.PoolBuffers → Type 0
ClearCall m b r a = ClearTold b m r a

-- constants and scratch as far as there are constants
pub record ClearBeyond (m : ℕ) (b a : clearing.PoolBuffers) : Type 0 where
  pub code : length a.code ≡ length b.code
  pub kinds : Held m b.kinds a.kinds
  pub words : Held m b.words a.words
  pub scratch : Held m b.scratch a.scratch
