-- An instruction of lent code: document 01, 'What is lent'. Assumes nothing.
use Rattle.std.specs.Prelude.{ℕ, ◌+◌, ◌*◌, ◌%◌, ◌/◌, Bool, ◌||◌, List, eqb, get_or, length}
use Rattle.ops.specs.Op.{CallGlobalR, CallR, CallMethodR, CallSpreadR}
use Rattle.code.specs.declared.Ins.{Ins}

-- six words an instruction: opcode, marks, a, b, c, x; past the end, zeros
abbrev pub ins_at : List ℕ → ℕ → Ins
ins_at w k =
    record {
      op = get_or w (6 * k) 0;
      marks = get_or w (6 * k + 1) 0;
      a = get_or w (6 * k + 2) 0;
      b = get_or w (6 * k + 3) 0;
      c = get_or w (6 * k + 4) 0;
      x = get_or w (6 * k + 5) 0;
    }

-- n, how many there are
abbrev pub count : List ℕ → ℕ
count w = length w / 6

-- the four calls
abbrev pub is_call : ℕ → Bool
is_call o = eqb o CallGlobalR || eqb o CallR || eqb o CallMethodR || eqb o CallSpreadR

-- mark bit 0, `lower::wide`
abbrev pub wide : Ins → Bool
wide i = eqb (i.marks % 2) 1

-- mark bit 1, `lower::dunder_op`
abbrev pub dunder : Ins → Bool
dunder i = eqb (i.marks / 2 % 2) 1

-- mark bit 2, `is_register`
abbrev pub register : Ins → Bool
register i = eqb (i.marks / 4 % 2) 1
