-- The record rules, in document 01's order. Assumes nothing.
use Rattle.std.specs.Prelude.{ℕ, ◌+◌, Bool, not, ◌&&◌, ◌||◌, List, leb, eqb}
use Rattle.ops.specs.Op.{last, PushRegs, UnpackR, ArgsR, WithEnter, WithExit}
use Rattle.code.specs.Ins.{ins_at, is_call, wide}
use Rattle.code.specs.declared.Ins.{Ins}

-- opcode known
abbrev pub op_known : Ins → Bool
op_known i = leb i.op last

-- marks: three bits, wide only on the four calls
abbrev pub marks_fit : Ins → Bool
marks_fit i = leb i.marks 7 && (not (wide i) || is_call i.op)

-- x at most 255
abbrev pub x_fits : Ins → Bool
x_fits i = leb i.x 255

-- PushRegs x at most 3
abbrev pub push_fits : Ins → Bool
push_fits i = not (eqb i.op PushRegs) || leb i.x 3

-- UnpackR x at least 1
abbrev pub unpack_fits : Ins → Bool
unpack_fits i = not (eqb i.op UnpackR) || leb 1 i.x

-- ArgsR not at 0
abbrev pub args_fit : Ins → ℕ → Bool
args_fit i k = not (eqb i.op ArgsR) || not (eqb k 0)

-- a wide call directly followed by ArgsR
abbrev pub followed : Ins → ℕ → Bool
followed i next = not (wide i) || eqb next ArgsR

-- WithEnter with x not 0 has b at most 65,533
abbrev pub enter_fits : Ins → Bool
enter_fits i = not (eqb i.op WithEnter) || eqb i.x 0 || leb i.b 65533

-- WithExit with x not 0 has b at most 65,530
abbrev pub exit_fits : Ins → Bool
exit_fits i = not (eqb i.op WithExit) || eqb i.x 0 || leb i.b 65530

-- all of them for i at k, before an instruction with opcode next
unfoldable pub rules : Ins → ℕ → ℕ → Bool
rules i k next =
    op_known i && marks_fit i && x_fits i && push_fits i && unpack_fits i && args_fit i k && followed i next && enter_fits i && exit_fits i

-- the instruction at k keeps every rule
abbrev pub rule_at : List ℕ → ℕ → Bool
rule_at w k = rules (ins_at w k) k (ins_at w (k + 1)).op
