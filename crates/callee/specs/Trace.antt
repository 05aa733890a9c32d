-- The callee of a call, traced back to what last wrote its register (block.rs: `global_of`). Assumes nothing.
use Rattle.std.specs.Prelude.{ℕ, zero, suc, Bool, not, cond, ◌&&◌, ◌||◌, List, eqb, leb}
use Rattle.ops.specs.Op.{StoreTopR, CallR, CallGlobalR, LoadGlobalR, ForIterR, CallSectionR, SectionR, MakeFunction, CallIsInstance}
use Rattle.code.specs.Ins.{ins_at}
use Rattle.code.specs.declared.Ins.{Ins}
use Rattle.roles.specs.Kinds.{has_role}
use Rattle.roles.specs.Sets.{writes}
use Rattle.pushes.specs.Pushes.{Place, pushed_back}
use Rattle.callee.specs.declared.Step.{Step}
use Rattle.callee.specs.declared.Step.TheVariants.{Pass, Back, Tell}
use Rattle.std.specs.declared.option.Option.{Option}
use Rattle.std.specs.declared.option.Option.TheVariants.{Some, None}

-- a module binding, if it is known
abbrev pub Callee : Type 0
Callee = Option ℕ

-- the instruction writes register a; a ForIterR is passed by, though it writes its b
unfoldable pub sets_it : Ins → ℕ → Bool
sets_it i a = writes i a && not (eqb i.op ForIterR)

-- the instruction writes no register but what its role names, or what the store after it names, or none
unfoldable pub passes_by : Ins → Bool
passes_by i = has_role i || eqb i.op CallSectionR || eqb i.op SectionR || eqb i.op MakeFunction || eqb i.op CallIsInstance

-- a store that takes a value back sends the trace to its push
abbrev pub sent_back : Place → Step
sent_back (Some p) = Back p
sent_back None = Tell None

-- what the instruction at d says of register a
unfoldable pub says_at : List ℕ → ℕ → ℕ → Step
says_at w d a =
    cond (sets_it (ins_at w d) a)
    (cond (eqb (ins_at w d).op StoreTopR) (sent_back (pushed_back w d a))
    (cond (eqb (ins_at w d).op LoadGlobalR) (Tell (Some (ins_at w d).b)) (Tell None)))
    (cond (passes_by (ins_at w d)) Pass (Tell None))

-- what is found at d: it tells, or the trace goes on before d, or before the push
abbrev pub heard : Step → ℕ → (ℕ → Callee) → Callee
heard (Tell v) d on = v
heard Pass d on = on d
heard (Back p) d on = on p

-- what register a holds before position p, traced over the instructions before d; those from p on are left out
unfoldable pub traced_by : List ℕ → ℕ → ℕ → ℕ → Callee
traced_by w a zero p = None
traced_by w a (suc d) p =
    let earlier = traced_by w a d p in
    let here = heard (says_at w d a) d (traced_by w a d) in
    cond (leb p d) earlier here

-- what register a holds before j
unfoldable pub traced : List ℕ → ℕ → ℕ → Callee
traced w a j = traced_by w a j j

-- the binding that the call at j calls: its own operand, or what its register holds
unfoldable pub global_of : List ℕ → ℕ → Callee
global_of w j =
    cond (eqb (ins_at w j).op CallGlobalR) (Some (ins_at w j).a)
    (cond (eqb (ins_at w j).op CallR) (traced w (ins_at w j).a j) None)
