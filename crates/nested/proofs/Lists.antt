-- What a call by the rows with handlers leaves in the lent list shelters nested frames, and no register of it is idle. Assumes nothing.
use mathlib.Core.Path.{◌≡◌, refl, sym, subst}
use mathlib.Core.Bool.{Bool, true, false}
use mathlib.Core.List.{List, []}
use Prim.Native.Nat.{ℕ, ◌<◌}
use Rattle.code.specs.Ins.{ins_at, count}
use Rattle.flow.specs.Flow.{Flow}
use Rattle.flow.specs.Sweep.{row}
use Rattle.flow.specs.Kept.{kept}
use Rattle.flow.specs.Demand.{Keeps, Lost, Once}
use Rattle.flow.proofs.Demand.{none_spare}
use Rattle.flow.proofs.Rows.{In}
use Rattle.steps.specs.Code.{flow}
use Rattle.steps.specs.Level.{is_level}
use Rattle.rows.specs.Route.{route_start, rows_in}
use Rattle.kept.specs.Level.{level_of}
use Rattle.kept.specs.Lists.{part_at}
use Rattle.kept.specs.Answers.{ListsLeft, Outcome}
use Rattle.kept.specs.declared.KeptAnswer.TheVariants.{Is}
use Rattle.kept.proofs.Demand.{LeftBy, left_by, list_by, left, level_list}
use Rattle.nested.specs.Machine.{Sheltered}
use Rattle.nested.specs.Raising.{raising, levels, mays, frame, Tidy}
use Rattle.nested.specs.Exposed.{exposed, ToldApart}
use Rattle.nested.proofs.Frames.{nested_frames, raising_keeps, each_once, no_less, exposed_told}
use Rattle.nested.proofs.Plain.{no_try}

covers : (all : Bool) (w : List ℕ) (k : ℕ) → is_level (ins_at w k) ≡ true → mays all w k ≡ true
covers true w k e = refl
covers false w k e = e

module _ (bits : ℕ) (wide : Bool) (w : List ℕ) (regs : ℕ) (tries : List ℕ) (all : Bool) (rows offsets list new o l : List ℕ) (total full lost : ℕ)
    (out : ListsLeft (raising (mays all w) regs w tries) (route_start bits wide regs w) bits w regs tries rows offsets list new o l (Is total full lost)) where
  abbrev f : Flow
  f = raising (mays all w) regs w tries

  answer : LeftBy (raising (mays all w) regs w tries) (route_start bits wide regs w) bits w regs tries rows offsets list new o l total full lost
  answer = left_by f (route_start bits wide regs w) bits w regs tries rows offsets list out total full lost refl

  -- the level's list, where it stands
  module _ (k : ℕ) (in_code : k < count w) (level : is_level (ins_at w k) ≡ true) where
    moved : (P : List ℕ → Type 0) → P (kept regs (row (rows_in bits regs w new)) (level_of regs w tries k)) → P (part_at o l k)
    moved P x = subst P (sym (list_by f (route_start bits wide regs w) bits w regs tries rows offsets list new o l total full lost out k in_code level)) x

    -- demand 3 in the machine that raises: enough, none to spare, each once
    pub call_keeps : Keeps (raising (mays all w) regs w tries) (part_at o l k) (level_of regs w tries k)
    call_keeps = moved (λ (x : List ℕ). Keeps f x (level_of regs w tries k))
        (raising_keeps (mays all w) bits wide regs w tries (covers all w) answer.valid (rows_in bits regs w new) full lost
        answer.scratch.found k in_code level)

    pub call_spare : (r : ℕ) → In r (part_at o l k) → Lost (raising (mays all w) regs w tries) (part_at o l k) (level_of regs w tries k) r
    call_spare = none_spare f (part_at o l k) (level_of regs w tries k) call_keeps

    pub call_once : Once (part_at o l k)
    call_once = moved Once (each_once (mays all w) bits wide regs w tries (covers all w) answer.valid (rows_in bits regs w new) full lost
        answer.scratch.found k in_code level)

    -- a register that another list lacks is exposed in truth
    pub call_exposed : (plain : ℕ → List ℕ) (r : ℕ) → In r (exposed (plain k) (part_at o l k)) → ToldApart (frame (mays all w) regs w tries) plain k r
    call_exposed plain r = moved (λ (x : List ℕ). In r (exposed (plain k) x) → ToldApart (frame (mays all w) regs w tries) plain k r)
        (exposed_told (mays all w) bits wide regs w tries (covers all w) answer.valid (rows_in bits regs w new) full lost
        answer.scratch.found k in_code level plain r)

    -- what document 01's call lists is listed
    module _ (bits' : ℕ) (wide' : Bool) (rows' offsets' list' new' o' l' : List ℕ) (total' full' lost' : ℕ)
        (other : Outcome bits' w regs tries wide' rows' offsets' list' new' o' l' (Is total' full' lost')) where
      pub call_more : (r : ℕ) → In r (part_at o' l' k) → In r (part_at o l k)
      call_more r m = moved (λ (x : List ℕ). In r x)
          (no_less (mays all w) bits wide regs w tries (covers all w) answer.valid (rows_in bits regs w new) full lost answer.scratch.found k in_code level
          bits' wide' (rows_in bits' regs w new') full' lost' (left bits' w regs tries wide' rows' offsets' list' other total' full' lost' refl).scratch.found
          r
          (subst (λ (x : List ℕ). In r x) (level_list bits' w regs tries wide' rows' offsets' list' new' o' l' total' full' lost' other k in_code level) m))

  -- nested frames, for what stands in the lent list
  pub call_shelters : Sheltered (frame (mays all w) regs w tries) (part_at o l)
  call_shelters spared sp = nested_frames (mays all w) bits wide regs w tries (covers all w) answer.valid (rows_in bits regs w new) full lost
      answer.scratch.found spared
      (λ k r in_code e m. sp k r in_code e (moved k in_code e (λ (x : List ℕ). In r x) m))

-- document 01's own lists, where no try is lent and no mark stands amiss
module _ (bits : ℕ) (wide : Bool) (w : List ℕ) (regs : ℕ) (rows offsets list new o l : List ℕ) (total full lost : ℕ)
    (out : Outcome bits w regs [] wide rows offsets list new o l (Is total full lost)) (tidy : Tidy w) where
  pub plain_shelters : Sheltered (frame (levels w) regs w []) (part_at o l)
  plain_shelters spared sp = no_try regs w tidy bits wide said.valid (rows_in bits regs w new) full lost said.scratch.found spared
      (λ k r in_code e m. sp k r in_code e (subst (λ (x : List ℕ). In r x)
      (sym (level_list bits w regs [] wide rows offsets list new o l total full lost out k in_code e)) m))
    where
      said : LeftBy (flow regs w) (route_start bits wide regs w) bits w regs [] rows offsets list new o l total full lost
      said = left bits w regs [] wide rows offsets list out total full lost refl
