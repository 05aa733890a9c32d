-- Demand 3 for one level: what a list of registers must be, to be kept there. Assumes nothing.
use Rattle.std.specs.Prelude.{◌≡◌, ◌⊎◌, ◌≢◌, ℕ, ◌≤◌, ◌<◌, length, get_or}
use mathlib.Core.List.{List, [], ◌∷◌, Memᴰ}
use Rattle.flow.specs.Set.{bit}
use Rattle.flow.specs.Flow.{Flow}
use Rattle.flow.specs.Run.{run, reads}
use Rattle.flow.specs.Kept.{Level}

-- two files agree on the listed registers
abbrev pub Agree : List ℕ → List ℕ → List ℕ → Type 0
Agree l a b = (r : ℕ) → Memᴰ r l → get_or a r 0 ≡ get_or b r 0

-- two files agree on a set of registers
abbrev pub AgreeOn : ℕ → List ℕ → List ℕ → Type 0
AgreeOn s a b = (r : ℕ) → 0 < bit s r → get_or a r 0 ≡ get_or b r 0

-- two files run alike from k, for every list of choices and written values: they visit the same positions and read the same values
abbrev pub Alike : Flow → ℕ → List ℕ → List ℕ → Type 0
Alike f k a b = (choices : List ℕ) (news : List (List ℕ)) → run f choices news k a ≡ run f choices news k b

-- by these choices from k, any two files that differ at r are told apart by a value read, whatever is written
abbrev pub TellsApart : Flow → ℕ → ℕ → List ℕ → Type 0
TellsApart f r k choices = (news : List (List ℕ)) (a b : List ℕ) → get_or a r 0 ≢ get_or b r 0 → reads f choices news k a ≢ reads f choices news k b

-- where a level may go on and want r: at the resume point, unless r is the result register, or in a handler
abbrev pub Entry : Level → ℕ → ℕ → Type 0
Entry v r k = ((k ≡ v.resume) × (bit v.result r ≡ 0)) ⊎ Memᴰ k v.handlers

-- The list l is enough for the level v, and no register stands in it idly.
pub record Keeps (f : Flow) (l : List ℕ) (v : Level) : Type 0 where
  -- kept registers are of the file
  pub below : (r : ℕ) → Memᴰ r l → r < f.regs
  -- files that agree on the kept registers and the result register run alike from the resume point
  pub resumed : (a b : List ℕ) → Agree l a b → AgreeOn v.result a b → Alike f v.resume a b
  -- files that agree on the kept registers alone run alike in every handler around the level
  pub handled : (a b : List ℕ) → Agree l a b → (h : ℕ) → Memᴰ h v.handlers → Alike f h a b
  -- for each kept register there is a resume point or handler and at most n choices by which any two files that differ there are told apart
  pub read : (r : ℕ) → Memᴰ r l → (k : ℕ) × (choices : List ℕ) × Entry v r k × (length choices ≤ f.size) × TellsApart f r k choices

-- Two files that agree on all kept registers but r, and on the result register if they go on at the resume point, and are told apart.
pub record Lost (f : Flow) (l : List ℕ) (v : Level) (r : ℕ) : Type 0 where
  pub a : List ℕ
  pub b : List ℕ
  pub files : (length a ≡ f.regs) × (length b ≡ f.regs)
  pub agree : (q : ℕ) → Memᴰ q l → q ≢ r → get_or a q 0 ≡ get_or b q 0
  pub k : ℕ
  pub entry : ((k ≡ v.resume) × AgreeOn v.result a b) ⊎ Memᴰ k v.handlers
  pub choices : List ℕ
  pub apart : (news : List (List ℕ)) → reads f choices news k a ≢ reads f choices news k b

-- each number stands there once
abbrev pub Once : List ℕ → Type 0
Once [] = Unit {0}
Once (x ∷ l) = (Memᴰ x l → ⊥) × Once l
