-- The shape of a body: block.rs, `flat`, `guarded`. An instruction past the end has opcode 0. Assumes nothing.
use Rattle.std.specs.Prelude.{ℕ, ◌+◌, Bool, not, ◌&&◌, ◌||◌, List, eqb}
use Rattle.laws.specs.All.{every}
use Rattle.laws.specs.Some.{some}
use Rattle.ops.specs.Op.{PushRegs, Jump, SetupExcept, Raise, WithEnter, SetupFinally}
use Rattle.code.specs.Ins.{ins_at, count, register}
use Rattle.code.specs.declared.Ins.{Ins}
use Rattle.sections.specs.There.{there}

-- nothing of its own stays on the stack but the value that a PushRegs hands the Raise right after it
unfoldable pub flat_here : Ins → Ins → Bool
flat_here i next =
    eqb i.op PushRegs && eqb next.op Raise
    || not (eqb i.op PushRegs) && (eqb i.op Jump || eqb i.op Raise || register i)

-- the same at k
unfoldable pub flat_at : List ℕ → ℕ → Bool
flat_at w k = flat_here (ins_at w k) (ins_at w (k + 1))

-- `flat`: so at every instruction
unfoldable pub flat : List ℕ → Bool
flat w = every (flat_at w) (count w)

-- i begins a `try` or a `with`
unfoldable pub guards : Ins → Bool
guards i = eqb i.op SetupExcept || eqb i.op SetupFinally || eqb i.op WithEnter

-- `guarded`: some instruction does
unfoldable pub guarded : List ℕ → Bool
guarded w = some (there guards w) (count w)
