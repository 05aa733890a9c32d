-- The callee of a call on the stack, by the values that each instruction pops and pushes (block.rs: `stack_callee`). Assumes nothing.
use Rattle.std.specs.Prelude.{ℕ, zero, suc, ◌+◌, ◌-◌, cond, List, [], ◌∷◌, eqb, ltb, leb}
use Rattle.laws.specs.Page.{Row, ◌↝◌, look}
use Rattle.ops.specs.Op.{PushRegs, StoreTopR, PopTop, Dup, BuildSlice, BuildList, BuildTuple, BuildSet, GetItem, Add, Sub, Mul, Div, FloorDiv, Mod, Pow, BitAnd}
use Rattle.ops.specs.Op.{BitOr, BitXor, Shl, Shr, Eq, NotEq, Lt, LtEq, Gt, GtEq, In, NotIn, Is, IsNot, Minus, Not, LoadAttr, Call}
use Rattle.code.specs.Ins.{ins_at}
use Rattle.code.specs.declared.Ins.{Ins}
use Rattle.roles.specs.Kinds.{has_role, field_of}
use Rattle.stack.specs.declared.Work.{Work}
use Rattle.stack.specs.declared.Work.TheVariants.{Push, Store, Plain, Build, Calls, Role}
use Rattle.stack.specs.declared.Effect.{Effect}
use Rattle.std.specs.declared.option.Option.{Option}
use Rattle.std.specs.declared.option.Option.TheVariants.{Some, None}
use Rattle.stack.specs.declared.Turn.{Turn}
use Rattle.stack.specs.declared.Turn.TheVariants.{Ends, Needs}

-- a push and one of its registers, if there is one
abbrev pub Source : Type 0
Source = Option (ℕ × ℕ)

-- so many values popped and so many then pushed
abbrev pub moves : ℕ → ℕ → Option Effect
moves pops pushes = Some (record { pops = pops; pushes = pushes })

-- the work of each opcode on the stack, in the order of the Rust's match
unfoldable pub works : List (Row Work)
works =
    ((PushRegs ∷ []) ↝ Push)
    ∷ ((StoreTopR ∷ []) ↝ Store)
    ∷ ((PopTop ∷ []) ↝ Plain 1 0)
    ∷ ((Dup ∷ []) ↝ Plain 1 2)
    ∷ ((BuildSlice ∷ BuildList ∷ BuildTuple ∷ BuildSet ∷ []) ↝ Build)
    ∷ ((GetItem ∷ Add ∷ Sub ∷ Mul ∷ Div ∷ FloorDiv ∷ Mod ∷ Pow ∷ BitAnd ∷ BitOr ∷ BitXor ∷ Shl ∷ Shr ∷ Eq ∷ NotEq ∷ Lt ∷ LtEq ∷ Gt ∷ GtEq ∷ In ∷ NotIn ∷ Is
    ∷ IsNot ∷ []) ↝ Plain 2 1)
    ∷ ((Minus ∷ Not ∷ LoadAttr ∷ []) ↝ Plain 1 1)
    ∷ ((Call ∷ []) ↝ Calls)
    ∷ []

-- the work of an opcode; one that the page does not name works by its role
unfoldable pub work_of : ℕ → Work
unfolding works
work_of o = look Role o works

-- how many values are popped and then pushed, with fields a and x and a role or none
abbrev pub effect_by : Work → Ins → Option Effect
effect_by Push i = moves 0 i.x
effect_by Store i = cond (eqb i.x 0) (moves 1 0) None
effect_by (Plain pops pushes) i = moves pops pushes
effect_by Build i = moves i.a 1
effect_by Calls i = cond (ltb i.a 256) (moves (i.a + 1) 1) None
effect_by Role i = cond (has_role i) (moves 0 0) None

-- the plain stack effect of an instruction, if it has one
unfoldable pub effect_of : Ins → Option Effect
effect_of i = effect_by (work_of i.op) i

-- the push i at k and its register f; a value that another instruction made is lost
unfoldable pub source_of : Ins → ℕ → ℕ → Source
source_of i k f = cond (eqb i.op PushRegs) (Some (k, field_of i f)) None

-- the value that lies `need` deep after i: i pushed it, or it lay so much deeper before i
abbrev pub turn_by : Option Effect → Ins → ℕ → ℕ → Turn
turn_by None i k need = Ends None
turn_by (Some e) i k need = cond (leb need e.pushes) (Ends (source_of i k (e.pushes - need))) (Needs (need - e.pushes + e.pops))

-- the value that lies `need` deep after the instruction i at k: pushed there, lost, or so deep before it
unfoldable pub turn_of : Ins → ℕ → ℕ → Turn
turn_of i k need = turn_by (effect_of i) i k need

-- the walk ends, or goes on with another depth
abbrev pub walked : Turn → (ℕ → Source) → Source
walked (Ends s) on = s
walked (Needs m) on = on m

-- where the value that lies `need` deep before k was pushed
unfoldable pub pushed_at : List ℕ → ℕ → ℕ → Source
pushed_at w zero need = None
pushed_at w (suc k) need = walked (turn_of (ins_at w k) k need) (pushed_at w k)

-- the function of a call of n positionals at j lies right under them
unfoldable pub stack_callee : List ℕ → ℕ → ℕ → Source
stack_callee w j n = pushed_at w j (n + 1)
