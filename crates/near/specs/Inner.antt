-- What only the inside of `near` needs: contracts of inner functions and proofs cite it, no promise does. Assumes nothing.
use Rattle.std.specs.Prelude.{ℕ, suc, ◌+◌, ◌-◌, ◌≤◌, ◌<◌, max, Bool, true, false, cond, ◌||◌, List, [], ◌∷◌, ◌≡◌, ltb}
use Rattle.flow.specs.Flow.{Flow, joined}
use Rattle.steps.specs.Code.{set_of, used_at, given_at, after_at}
use Rattle.steps.specs.Inner.{used_of, given_of, after_of}
use Rattle.steps.specs.declared.Step.{Step}
use Rattle.nested.specs.Raising.{stranded}
use Rattle.std.specs.Int.Bits.{bit_or}
use Rattle.code.specs.Ins.{ins_at, count}
use Rattle.code.specs.declared.Ins.{Ins}
use Rattle.roles.specs.Sets.{only}
use Rattle.flow.specs.Sweep.{row, below}
use Rattle.flow.specs.Inner.{Put}
use Rattle.flow.specs.Kept.{handlers_of}
use Rattle.steps.specs.Level.{is_level}
use Rattle.std.specs.declared.option.Option.{Option}
use Rattle.std.specs.declared.option.Option.TheVariants.{Some, None}
use Rattle.near.specs.declared.Went.{Went}

-- the rows that are joined whole at k, where i stands: the next one if it is stranded, and if it may raise those of its handlers, which are `out` together
unfoldable pub more_of : Bool → ℕ → Ins → List ℕ → ℕ → ℕ
more_of all out i rows k = bit_or (joined (row rows) (only (stranded i) (k + 1))) (cond (all || is_level i) out 0)

-- the row equation of a step by itself, with the registers `more`
abbrev pub more_step : ℕ → ℕ → Step → Flow
more_step more regs s = record {
  size = 0;
  regs = regs;
  used = λ k. bit_or (set_of regs (used_of s)) more;
  given_up = λ k. set_of regs (given_of s);
  after = after_of s;
  raises = λ k. [];
}

-- document 01's equations, with the registers `more`
abbrev pub more_flow : ℕ → ℕ → List ℕ → Flow
more_flow more regs w = record {
  size = count w;
  regs = regs;
  used = λ k. bit_or (set_of regs (used_at w k)) more;
  given_up = λ k. set_of regs (given_at w k);
  after = after_at w;
  raises = λ k. [];
}

-- A step of a sweep at k, which goes to no position before the start: the row is found and stored, and `back` tells whether a jump goes back.
pub record WentAt (all : Bool) (out regs : ℕ) (w : List ℕ) (start k : ℕ) (rows new : List ℕ) (changed back : Bool) : Type 0 where
  pub inside : below start (after_at w k) ≡ false
  pub put : Put (more_flow (more_of all out (ins_at w k) rows k) regs w) rows k new changed
  pub turns : back ≡ below (suc k) (after_at w k)

-- Such steps from `from` down to k: the rows that they leave, whether one changed, and whether a jump goes back.
pub data Down (all : Bool) (out regs : ℕ) (w : List ℕ) (start from : ℕ) (rows : List ℕ) : ℕ → List ℕ → Bool → Bool → Type 0 where
  here : Down all out regs w start from rows from rows false false
  on : {k : ℕ} {old new : List ℕ} {changed back changed' back' : Bool} → Down all out regs w start from rows k old changed back → 0 < k
      → WentAt all out regs w start (k - 1) old new changed' back' → Down all out regs w start from rows (k - 1) new (changed' || changed) (back' || back)

-- Such steps, and then above `low` a jump to before the start.
pub record Strays (all : Bool) (out regs : ℕ) (w : List ℕ) (start from low : ℕ) (rows : List ℕ) : Type 0 where
  pub k : ℕ
  pub old : List ℕ
  pub changed : Bool
  pub back : Bool
  pub down : Down all out regs w start from rows k old changed back
  pub above : low < k
  pub met : below start (after_at w (k - 1)) ≡ true

-- What a sweep does from `from` down to `low`: it meets a jump to before the start, or comes through.
pub record Stretch (all : Bool) (out regs : ℕ) (w : List ℕ) (start from low : ℕ) (rows new : List ℕ) (went : Option Went) : Type 0 where
  pub strays : went ≡ None → Strays all out regs w start from low rows
  pub through : (p : Went) → went ≡ Some p → Down all out regs w start from rows low new p.changed p.back

-- from where on, up to k, a try (s, h) is around a position if it is around k
abbrev pub edge_of : ℕ → ℕ → ℕ → ℕ
edge_of k s h = cond (ltb k h) (cond (ltb s k) (s + 1) 0) h

-- the same for all tries
unfoldable pub lowest_of : ℕ → List ℕ → ℕ
lowest_of k [] = 0
lowest_of k (s ∷ []) = 0
lowest_of k (s ∷ (h ∷ tries)) = max (edge_of k s h) (lowest_of k tries)

-- From `low` to k positions have the handlers of k, whose rows are `out` together.
pub record Covered (n : ℕ) (tries rows : List ℕ) (out low k : ℕ) : Type 0 where
  pub le : low ≤ k
  pub same : (j : ℕ) → low ≤ j → j ≤ k → handlers_of n j tries ≡ handlers_of n k tries
  pub is : out ≡ joined (row rows) (handlers_of n k tries)
