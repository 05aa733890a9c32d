-- A value that is returned right after its push: block.rs, `returns`. An instruction past the end has opcode 0. Assumes nothing.
use Rattle.std.specs.Prelude.{ℕ, ◌+◌, Bool, ◌&&◌, ◌||◌, List, eqb}
use Rattle.ops.specs.Op.{ReturnValue, PushRegs, Jump}
use Rattle.code.specs.Ins.{ins_at}
use Rattle.code.specs.declared.Ins.{Ins}

-- i pushes the value that a ReturnValue returns, right after it or past a Jump, at t
unfoldable pub returns_here : Ins → Ins → Ins → Bool
returns_here i next t = eqb i.op PushRegs && eqb i.x 1 && (eqb next.op ReturnValue || eqb next.op Jump && eqb t.op ReturnValue)

-- `returns`: so at k
unfoldable pub returns_at : List ℕ → ℕ → Bool
returns_at w k = returns_here (ins_at w k) (ins_at w (k + 1)) (ins_at w (ins_at w (k + 1)).a)
