-- The registers of an instruction by itself: used and given up as in document 01's row equations, written as `writes` has it. Assumes nothing.
use Rattle.std.specs.Prelude.{ℕ, zero, suc, Bool, cond, ◌&&◌, List, [], ◌∷◌, ◌++◌, eqb, take}
use Rattle.laws.specs.Page.{Row, ◌↝◌, among, look}
use Rattle.ops.specs.Op.{StoreTopR, UnpackR, WithEnter, WithExit, WithJudge, ForIterR}
use Rattle.code.specs.declared.Ins.{Ins}
use Rattle.roles.specs.Kinds.{dest, a, b, c, has, has_role, kinds_of}
use Rattle.roles.specs.declared.Case.{Case}
use Rattle.roles.specs.declared.Case.TheVariants.{Store, Unpack, Enter, Exit, Judge, Step, Plain}

-- the opcodes that have a case of their own
unfoldable pub cases : List (Row Case)
cases =
    ((StoreTopR ∷ []) ↝ Store)
    ∷ ((UnpackR ∷ []) ↝ Unpack)
    ∷ ((WithEnter ∷ []) ↝ Enter)
    ∷ ((WithExit ∷ []) ↝ Exit)
    ∷ ((WithJudge ∷ []) ↝ Judge)
    ∷ ((ForIterR ∷ []) ↝ Step)
    ∷ []

-- how an opcode's registers are told
unfoldable pub case_of : ℕ → Case
unfolding cases
case_of o = look Plain o cases

-- a register, if
abbrev pub only : Bool → ℕ → List ℕ
only t r = cond t (r ∷ []) []

-- by `role`: the fields read, and a if it is written; no role, nothing
abbrev pub read_by : Ins → List ℕ
read_by i =
    only (has_role i && has a (kinds_of i)) i.a ++ only (has_role i && has b (kinds_of i)) i.b ++ only (has_role i && has c (kinds_of i)) i.c

-- a if `role` says that it is written, else nothing
abbrev pub dest_by : Ins → List ℕ
dest_by i = only (has_role i && has dest (kinds_of i)) i.a

-- UnpackR: the first min(x, 3) of a, b, c
abbrev pub unpacked : Ins → List ℕ
unpacked i = take i.x (i.a ∷ i.b ∷ i.c ∷ [])

-- m registers from r on
abbrev pub from : ℕ → ℕ → List ℕ
from r zero = []
from r (suc m) = r ∷ from (suc r) m

-- m registers from r on if x is not 0, else nothing: WithEnter's b, b + 1 and WithExit's b to b + 4
abbrev pub in_a_row : ℕ → ℕ → ℕ → List ℕ
in_a_row x r m = cond (eqb x 0) [] (from r m)

-- used: WithEnter with x = 2 uses c, WithJudge with x = 1 uses a, ForIterR with x = 0 uses b
abbrev pub used : Case → Ins → List ℕ
used Store i = []
used Unpack i = []
used Enter i = only (eqb i.x 2) i.c
used Exit i = []
used Judge i = only (eqb i.x 1) i.a
used Step i = only (eqb i.x 0) i.b
used Plain i = read_by i

-- given up: StoreTopR gives up a, any x; ForIterR gives up nothing
abbrev pub given : Case → Ins → List ℕ
given Store i = i.a ∷ []
given Unpack i = unpacked i
given Enter i = in_a_row i.x i.b 2
given Exit i = in_a_row i.x i.b 5
given Judge i = []
given Step i = []
given Plain i = dest_by i

-- written: StoreTopR writes a only with x = 0; ForIterR with x = 0 writes b
abbrev pub written : Case → Ins → List ℕ
written Store i = only (eqb i.x 0) i.a
written Unpack i = unpacked i
written Enter i = in_a_row i.x i.b 2
written Exit i = in_a_row i.x i.b 5
written Judge i = []
written Step i = only (eqb i.x 0) i.b
written Plain i = dest_by i

-- the registers that an instruction by itself uses
unfoldable pub used_by : Ins → List ℕ
used_by i = used (case_of i.op) i

-- the registers that an instruction by itself gives up
unfoldable pub given_by : Ins → List ℕ
given_by i = given (case_of i.op) i

-- `writes`: r is among the registers written
unfoldable pub writes : Ins → ℕ → Bool
writes i r = among r (written (case_of i.op) i)
