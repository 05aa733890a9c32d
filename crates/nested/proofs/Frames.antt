-- From the rows that the sweeps find: nested frames, no register idle, and what is exposed. Assumes nothing.
use mathlib.Core.Path.{◌≡◌, refl}
use mathlib.Core.Bool.{Bool, true, false}
use mathlib.Core.List.{List}
use Prim.Native.Nat.{ℕ, ◌≤◌, ◌<◌}
use native.Mathlib.Omega.{arith}
use Rattle.code.specs.Ins.{ins_at, count}
use Rattle.code.specs.Inner.{Valid}
use Rattle.flow.specs.Sweep.{row, start_of, Found}
use Rattle.flow.specs.Kept.{kept}
use Rattle.flow.specs.Demand.{Keeps, Once}
use Rattle.flow.proofs.Answer.{found_least, start_closed, start_le, level_keeps}
use Rattle.flow.proofs.Kept.{kept_once}
use Rattle.flow.proofs.Rows.{In}
use Rattle.flow.proofs.Tries.{handlers_past}
use Rattle.steps.specs.Code.{flow}
use Rattle.steps.specs.Level.{is_level}
use Rattle.rows.specs.Route.{route_start}
use Rattle.kept.specs.Level.{resume_of, result_of, level_of}
use Rattle.steps.proofs.Resume.{resume_in}
use Rattle.kept.proofs.Demand.{inside, before}
use Rattle.nested.specs.Machine.{Sheltered}
use Rattle.nested.specs.Raising.{raising, frame}
use Rattle.nested.specs.Exposed.{exposed, ToldApart}
use Rattle.nested.proofs.Machine.{sheltered}
use Rattle.nested.proofs.More.{more_kept}
use Rattle.nested.proofs.Raising.{shelters}
use Rattle.nested.proofs.Exposed.{exposed_only, told}

module _ (may : ℕ → Bool) (bits : ℕ) (wide : Bool) (regs : ℕ) (w tries : List ℕ) (covers : (k : ℕ) → is_level (ins_at w k) ≡ true
    → may k ≡ true) (valid : Valid w)
    (rows : List ℕ) (full lost : ℕ) (found : Found (raising may regs w tries) (route_start bits wide regs w) rows full lost) where
  -- the list of each position
  abbrev pub list_at : ℕ → List ℕ
  list_at k = kept regs (row rows) (level_of regs w tries k)

  -- nested frames: at every level all that is not kept may be overwritten, and any level inside a try may raise, for ever
  pub nested_frames : Sheltered (frame may regs w tries) list_at
  nested_frames = sheltered (frame may regs w tries) start (row rows)
      (shelters may regs w tries covers valid start (row rows) (start_closed (raising may regs w tries) (route_start bits wide regs w))
      (found_least (raising may regs w tries) (route_start bits wide regs w) (inside bits wide regs w) rows full lost found).solves low
      (λ k l. none k l (is_level (ins_at w k)) refl))
    where
      start : ℕ
      start = start_of (raising may regs w tries) (route_start bits wide regs w)

      low : start ≤ count w
      low = omega (arith, start_le (raising may regs w tries) (route_start bits wide regs w), inside bits wide regs w)

      none : (k : ℕ) → k < start → (t : Bool) → is_level (ins_at w k) ≡ t → t ≡ false
      none k l true e = absurd (omega (
        arith,
        start_le (raising may regs w tries) (route_start bits wide regs w),
        before bits wide regs w k (omega (arith, low))
            e,
      ))
      none k l false e = refl

  module _ (k : ℕ) (in_code : k < count w) (level : is_level (ins_at w k) ≡ true) where
    -- demand 3 in the machine that raises: enough, and no register idle
    pub raising_keeps : Keeps (raising may regs w tries) (list_at k) (level_of regs w tries k)
    raising_keeps = level_keeps (raising may regs w tries) (route_start bits wide regs w) (inside bits wide regs w) rows full lost found k (resume_of w k)
        (result_of regs w k) tries
        (before bits wide regs w k in_code level) in_code (resume_in w k valid in_code).0

    pub each_once : Once (list_at k)
    each_once = kept_once regs (row rows) (level_of regs w tries k)

    -- what document 01's list keeps is kept, whatever its route and width
    pub no_less : (bits' : ℕ) (wide' : Bool) (plain : List ℕ) (full' lost' : ℕ) → Found (flow regs w) (route_start bits' wide' regs w) plain full' lost'
        → (r : ℕ) → In r (kept regs (row plain) (level_of regs w tries k)) → In r (list_at k)
    no_less bits' wide' plain full' lost' p r m =
        let b = before bits wide regs w k in_code level in
        let b' = before bits' wide' regs w k in_code level in
        more_kept may regs w tries (route_start bits' wide' regs w) (route_start bits wide regs w) (inside bits' wide' regs w)
        (inside bits wide regs w) plain rows full' lost' full lost
        p found (level_of regs w tries k) (omega (arith, b', (resume_in w k valid in_code).0)) (omega (arith, b, (resume_in w k valid in_code).0))
        (λ h i. (omega (arith, b', (handlers_past (count w) k in_code tries h i).0), omega (arith, b, (handlers_past (count w) k in_code tries h i).0))) r m

    -- each register by which it is longer is exposed in truth: some callee that overwrites it alone, here alone, changes a value read
    pub exposed_told : (plain : ℕ → List ℕ) (r : ℕ) → In r (exposed (plain k) (list_at k)) → ToldApart (frame may regs w tries) plain k r
    exposed_told plain r m =
        let (i, lacks) = exposed_only (plain k) (list_at k) r m in
        let (s, choices, entry, few, tells) = raising_keeps.read r i in
        told (frame may regs w tries) plain k r in_code level (raising_keeps.below r i) lacks s choices entry tells
