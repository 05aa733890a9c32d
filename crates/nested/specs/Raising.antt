-- The row equations of lent code in which what stands inside a try may raise and go on in its handler. Assumes nothing.
use Rattle.std.specs.Prelude.{ℕ, ◌+◌, ◌<◌, ◌≡◌, Bool, false, cond, ◌&&◌, ◌||◌, List, [], ◌++◌, eqb}
use Rattle.std.specs.Int.Bits.{bit_or}
use Rattle.ops.specs.Op.{ReturnR, Jump, UnpackR, WithEnter, WithExit}
use Rattle.code.specs.Ins.{ins_at, count, wide, dunder}
use Rattle.code.specs.declared.Ins.{Ins}
use Rattle.roles.specs.Sets.{only}
use Rattle.flow.specs.Flow.{Flow}
use Rattle.flow.specs.Kept.{handlers_of}
use Rattle.steps.specs.Code.{set_of, used_at, given_at, after_at}
use Rattle.steps.specs.Level.{is_level}
use Rattle.rows.specs.Route.{route_start}
use Rattle.kept.specs.Level.{level_of}
use Rattle.nested.specs.Machine.{Frame}

-- A dunder mark on an opcode whose own row does not lead on to k + 1, or gives up more than a. Document 01 lets the call there go on at k + 1.
abbrev pub stranded : Ins → Bool
stranded i = let o = i.op in dunder i && (eqb o ReturnR || eqb o Jump || eqb o UnpackR || eqb o WithEnter || eqb o WithExit)

-- Where k may go on before it gives up a register: k + 1, if it is stranded; and the handlers of the tries around it, if it may raise.
abbrev pub leaving : Bool → Bool → ℕ → ℕ → List ℕ → List ℕ
leaving may past n k tries = only past (k + 1) ++ cond may (handlers_of n k tries) []

-- where position k of lent code may go on before it gives up a register; `may` says which positions raise
unfoldable pub raises_at : (ℕ → Bool) → List ℕ → List ℕ → ℕ → List ℕ
raises_at may w tries k = leaving (may k) (stranded (ins_at w k)) (count w) k tries

-- document 01's equations, and the rows of these positions too, whole: an exception leaves before a register is given up
abbrev pub raising : (ℕ → Bool) → ℕ → List ℕ → List ℕ → Flow
raising may regs w tries = record {
  size = count w;
  regs = regs;
  used = λ k. set_of regs (used_at w k);
  given_up = λ k. set_of regs (given_at w k);
  after = after_at w;
  raises = raises_at may w tries;
}

-- only levels raise
abbrev pub levels : List ℕ → ℕ → Bool
levels w k = is_level (ins_at w k)

-- levels raise; and if asked, anything does: a name that is not bound, Raise itself
abbrev pub mays : Bool → List ℕ → ℕ → Bool
mays all w k = all || levels w k

-- where sweeps with handlers begin: where document 01's do, at the first level on the word route and at 0 on the wide one
abbrev pub begins_at : ℕ → List ℕ → ℕ
begins_at regs w = route_start 64 false regs w

-- what a call at k reads as it begins: what k uses, and the rest of the arguments if it is wide
unfoldable pub args_at : ℕ → List ℕ → ℕ → ℕ
args_at regs w k = bit_or (set_of regs (used_at w k)) (cond (wide (ins_at w k)) (set_of regs (used_at w (k + 1))) 0)

-- lent code as the machine of nested frames takes it
abbrev pub frame : (ℕ → Bool) → ℕ → List ℕ → List ℕ → Frame
frame may regs w tries = record { flow = raising may regs w tries; level = levels w; goes = level_of regs w tries; args = args_at regs w }

-- no dunder mark stands on ReturnR, Jump, UnpackR, WithEnter or WithExit
abbrev pub Tidy : List ℕ → Type 0
Tidy w = (k : ℕ) → k < count w → stranded (ins_at w k) ≡ false
