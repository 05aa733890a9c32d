-- Demand 3 at the real code, from what the call answers and leaves. Assumes nothing.
use mathlib.Core.Path.{◌≡◌, refl, sym, ap, ap₂, ◌∙◌, subst}
use mathlib.Core.Bool.{Bool, true, false, cond, ◌||◌, false≢true}
use mathlib.Core.List.{List, [], Memᴰ}
use Prim.Native.Nat.{ℕ, zero, suc, ◌+◌, ◌≤◌, ◌<◌, zero-le}
use native.Mathlib.Decide.{ℕ_discrete}
use native.Mathlib.Omega.{arith}
use lib.Dec.{ltb}
use lib.ListN.{length}
use Rattle.laws.specs.Walk.{first}
use Rattle.code.specs.Ins.{ins_at, count}
use Rattle.code.specs.Inner.{Valid}
use Rattle.flow.specs.Flow.{Flow}
use Rattle.flow.specs.Sweep.{row}
use Rattle.flow.specs.Kept.{kept}
use Rattle.flow.specs.Demand.{Keeps, Lost, Once}
use Rattle.flow.proofs.Answer.{level_keeps}
use Rattle.flow.proofs.Demand.{none_spare}
use Rattle.flow.proofs.Kept.{kept_once}
use Rattle.steps.specs.Level.{is_level, first_level}
use Rattle.steps.specs.Code.{flow}
use Rattle.rows.specs.Route.{route_start, rows_in}
use Rattle.rows.proofs.Sweeps.{level_le}
use Rattle.kept.specs.Level.{resume_of, result_of, level_of, kept_at}
use Rattle.kept.specs.Lists.{lists_to, offsets_to, over, part_at}
use Rattle.kept.specs.Answers.{RowsLeft, ListsLeft, Outcome, refused, short, told}
use Rattle.kept.specs.declared.KeptAnswer.{KeptAnswer}
use Rattle.kept.specs.declared.KeptAnswer.TheVariants.{Is}
use Rattle.steps.proofs.Resume.{resume_in}
use Rattle.kept.proofs.Parts.{part_is}
use Rattle.kept.proofs.Tests.{accepted_valid}

-- the first that passes a test comes no later than any other
first_le : (f : ℕ → Bool) (m k j : ℕ) → k ≤ j → j < k + m → f j ≡ true → first f k m ≤ j
unfolding first
first_le f zero k j lo hi e = absurd (omega arith)
first_le f (suc m) k j lo hi e = go (f k) refl (λ l. first_le f m (suc k) j l (omega arith) e)
  where
    go : (t : Bool) → f k ≡ t → (suc k ≤ j → first f (suc k) m ≤ j) → cond t k (first f (suc k) m) ≤ j
    go true q rec = lo
    go false q rec = at (ℕ_discrete k j)
      where
        at : Dec (k ≡ j) → first f (suc k) m ≤ j
        at (yes p) = absurd (false≢true (sym q ∙ ap f p ∙ e))
        at (no n) = rec (omega arith)

-- sweeps begin no later than any level
module _ (bits : ℕ) (wide : Bool) (regs : ℕ) (w : List ℕ) where
  pub inside : route_start bits wide regs w ≤ count w
  unfolding route_start
  inside = go (wide || ltb bits regs)
    where
      go : (t : Bool) → cond t 0 (first_level w) ≤ count w
      go true = zero-le
      go false = level_le w

  pub before : (k : ℕ) → k < count w → is_level (ins_at w k) ≡ true → route_start bits wide regs w ≤ k
  unfolding route_start first_level
  before k l e = go (wide || ltb bits regs)
    where
      go : (t : Bool) → cond t 0 (first_level w) ≤ k
      go true = zero-le
      go false = first_le (λ j. is_level (ins_at w j)) (count w) 0 k zero-le (omega arith) e

-- by any equations
module _ (f : Flow) (start bits : ℕ) (w : List ℕ) (regs : ℕ) (tries rows offsets list : List ℕ) where
  -- what an answer leaves
  pub record LeftBy (a b c : List ℕ) (t full abandoned : ℕ) : Type 0 where
    pub valid : Valid w
    pub scratch : RowsLeft f start bits regs w rows a full abandoned
    pub begins : b ≡ over (offsets_to regs w tries (rows_in bits regs w a) (suc (count w))) offsets
    pub lists : c ≡ over (lists_to regs w tries (rows_in bits regs w a) (count w)) list
    pub total : t ≡ length (lists_to regs w tries (rows_in bits regs w a) (count w))

  pub left_by : {a b c : List ℕ} {r : KeptAnswer} → ListsLeft f start bits w regs tries rows offsets list a b c r → (t x y : ℕ) → r ≡ Is t x y
      → LeftBy a b c t x y
  left_by (refused p) t x y e = let z : ◌≡◌ {A = ℕ} 0 1 = cc in absurd (omega arith)
  left_by (short p q l) t x y e = let z : ◌≡◌ {A = ℕ} 0 1 = cc in absurd (omega arith)
  left_by {a = a} (told {full = full} {abandoned = lost} p q l) t x y e =
      let h : full ≡ x = cc in
      let k : lost ≡ y = cc in
      let m : length (lists_to regs w tries (rows_in bits regs w a) (count w)) ≡ t = cc in
      record {
        valid = accepted_valid bits w regs tries (length rows) (length offsets) (count w) p;
        scratch = rw (← h, ← k) q;
        begins = refl;
        lists = refl;
        total = sym m;
      }

  module _ (new o l : List ℕ) (total full abandoned : ℕ) (out : ListsLeft f start bits w regs tries rows offsets list new o l (Is total full abandoned)) (k : ℕ)
      (in_code : k < count w) where
    answer_by : LeftBy new o l total full abandoned
    answer_by = left_by out total full abandoned refl

    -- offsets[k]..offsets[k + 1] of the lent list is the kept list of position k, by the rows in the scratch
    pub stands_by : part_at o l k ≡ kept_at regs w tries (rows_in bits regs w new) k
    stands_by = ap₂ (λ (x y : List ℕ). part_at x y k) answer_by.begins answer_by.lists ∙ part_is regs w tries (rows_in bits regs w new) (count w) k offsets
        list in_code

    -- which is empty where k is no level
    pub empty_by : is_level (ins_at w k) ≡ false → part_at o l k ≡ []
    unfolding kept_at
    empty_by e = stands_by ∙ ap (λ (t : Bool). cond t (kept regs (row (rows_in bits regs w new)) (level_of regs w tries k)) []) e

    -- and the level's own where it is one
    pub list_by : is_level (ins_at w k) ≡ true → part_at o l k ≡ kept regs (row (rows_in bits regs w new)) (level_of regs w tries k)
    unfolding kept_at
    list_by e = stands_by ∙ ap (λ (t : Bool). cond t (kept regs (row (rows_in bits regs w new)) (level_of regs w tries k)) []) e

-- by document 01's
module _ (bits : ℕ) (w : List ℕ) (regs : ℕ) (tries : List ℕ) (wide : Bool) (rows offsets list : List ℕ) where
  abbrev pub Left : (a b c : List ℕ) (t full abandoned : ℕ) → Type 0
  Left a b c t full abandoned = LeftBy (flow regs w) (route_start bits wide regs w) bits w regs tries rows offsets list a b c t full abandoned

  pub left : {a b c : List ℕ} {r : KeptAnswer} → Outcome bits w regs tries wide rows offsets list a b c r → (t f g : ℕ) → r ≡ Is t f g → Left a b c t f g
  left out t f g e = left_by (flow regs w) (route_start bits wide regs w) bits w regs tries rows offsets list out t f g e

module _ (bits : ℕ) (w : List ℕ) (regs : ℕ) (tries : List ℕ) (wide : Bool) (rows offsets list : List ℕ) (new o l : List ℕ) (total full abandoned : ℕ)
    (out : Outcome bits w regs tries wide rows offsets list new o l (Is total full abandoned)) (k : ℕ) (in_code : k < count w) where
  answer : Left bits w regs tries wide rows offsets list new o l total full abandoned
  answer = left bits w regs tries wide rows offsets list out total full abandoned refl

  pub stands : part_at o l k ≡ kept_at regs w tries (rows_in bits regs w new) k
  stands = stands_by (flow regs w) (route_start bits wide regs w) bits w regs tries rows offsets list new o l total full abandoned out k in_code

  pub no_level : is_level (ins_at w k) ≡ false → part_at o l k ≡ []
  no_level = empty_by (flow regs w) (route_start bits wide regs w) bits w regs tries rows offsets list new o l total full abandoned out k in_code

  module _ (level : is_level (ins_at w k) ≡ true) where
    pub level_list : part_at o l k ≡ kept regs (row (rows_in bits regs w new)) (level_of regs w tries k)
    level_list = list_by (flow regs w) (route_start bits wide regs w) bits w regs tries rows offsets list new o l total full abandoned out k in_code level

    -- demand 3: what stands in the lent list is enough for the level, and no register of it is idle
    pub demand_3 : Keeps (flow regs w) (part_at o l k) (level_of regs w tries k)
    demand_3 = subst (λ (x : List ℕ). Keeps (flow regs w) x (level_of regs w tries k)) (sym level_list) (level_keeps (flow regs w) (route_start bits wide regs w)
        (inside bits wide regs w) (rows_in bits regs w new) full abandoned answer.scratch.found k (resume_of w k) (result_of regs w k) tries
        (before bits wide regs w k in_code level) in_code (resume_in w k answer.valid in_code).0)

    -- drop any register from any kept list: two files agree on what is left and are told apart
    pub none_to_spare : (r : ℕ) → Memᴰ r (part_at o l k) → Lost (flow regs w) (part_at o l k) (level_of regs w tries k) r
    none_to_spare = none_spare (flow regs w) (part_at o l k) (level_of regs w tries k) demand_3

    -- no register is kept twice
    pub kept_each_once : Once (part_at o l k)
    kept_each_once = subst Once (sym level_list) (kept_once regs (row (rows_in bits regs w new)) (level_of regs w tries k))
