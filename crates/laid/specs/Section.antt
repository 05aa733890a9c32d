-- Whether code may be laid as a section: block.rs, `pure`, `laid`. An instruction past the end has opcode 0. Assumes nothing.
use Rattle.std.specs.Prelude.{ℕ, ◌+◌, ◌-◌, Bool, true, cond, not, ◌&&◌, ◌||◌, List, [], ◌∷◌, eqb, ltb, leb}
use mir.Val.{bool_byte}
use Rattle.laws.specs.Page.{among}
use Rattle.laws.specs.All.{every}
use Rattle.ops.specs.Op.{Dup, CallMethod, CallMethodArgs, StoreName, CallAll, Call, CallAny, PopTop, CallBin, ReturnValue, CallOct, BuildString, CallHex}
use Rattle.ops.specs.Op.{CallPrint, CallDivmod, CallLen, CallPow, FormatValue, CallRepr, CallAbs, CallReversed, Minus, PopIter, CallStr, DelItem, CallInt}
use Rattle.ops.specs.Op.{DelAttr, CallRange, DictUpdate, Phi, SetUpdate, CallChr, ListExtend, CallType, MatchSeq, MakeFunction, InPlaceAdd, Add, InPlaceSub}
use Rattle.ops.specs.Op.{Sub, LoadYieldFrom, Mul, BeginArgs, Div, WithJudge, Eq, Swap, CallFloat, MatchClass, CallBool, MatchMap, CallRound, CallSpread}
use Rattle.ops.specs.Op.{CallMin, CallMax, PushRegs, CallSum, CallEnumerate, CallZip, CallList, CallTuple, CallDict, CallIsInstance, CallSet, CallInput}
use Rattle.ops.specs.Op.{CallOrd, BuildDict, BuildList, NotEq, Lt, Gt, LtEq, GtEq, Not, Jump, GetIter, GetItem, Mod, Pow, FloorDiv, LoadTrue, LoadFalse}
use Rattle.ops.specs.Op.{LoadNone, LoadAttr, StoreAttr, BuildSlice, SetupExcept, PopExcept, Raise, BitAnd, BitOr, BitXor, BitNot, Shl, Shr, In, StoreTopR}
use Rattle.ops.specs.Op.{NotIn, ForIterR, Is, IsNot, UnpackSequence, BuildTuple, WithEnter, WithExit, Yield, SetupFinally, BeginFinally, ArgsR, EndFinally}
use Rattle.ops.specs.Op.{Assert, UnpackArgs, ListAppend, SetAdd, MapAdd, BuildSet, LoadEllipsis, MakeCoroutine, StoreItem, Dup2}
use Rattle.code.specs.Ins.{ins_at, count, is_call, wide}
use Rattle.code.specs.declared.Ins.{Ins}
use Rattle.roles.specs.Kinds.{has_role, is_jump}

-- `stack_work`: the stack opcodes that may run inside a section, in the Rust's order
unfoldable pub stack_ops : List ℕ
stack_ops =
    SetupExcept ∷ SetupFinally ∷ PopExcept ∷ BeginFinally ∷ EndFinally ∷ Dup ∷ Dup2 ∷ CallIsInstance ∷ PopTop ∷ Raise ∷ StoreTopR ∷ PushRegs ∷ ReturnValue
    ∷ Call ∷ CallPrint ∷ CallStr ∷ CallInt ∷ CallFloat ∷ CallBool ∷ CallAbs ∷ CallChr ∷ CallOrd ∷ CallLen ∷ CallRepr ∷ CallType ∷ CallMin ∷ CallMax ∷ CallSum
    ∷ CallRound ∷ CallList ∷ CallTuple ∷ CallDict ∷ CallSet ∷ CallBin ∷ CallOct ∷ CallHex ∷ CallDivmod ∷ CallPow ∷ CallAll ∷ CallAny ∷ BuildString ∷ FormatValue
    ∷ BuildTuple ∷ BuildList ∷ BuildDict ∷ BuildSet ∷ BuildSlice ∷ GetItem ∷ StoreItem ∷ DelItem ∷ Add ∷ Sub ∷ Mul ∷ Div ∷ Mod ∷ Pow ∷ FloorDiv ∷ Eq ∷ NotEq
    ∷ Lt ∷ Gt ∷ LtEq ∷ GtEq ∷ In ∷ NotIn ∷ Is ∷ IsNot ∷ BitAnd ∷ BitOr ∷ BitXor ∷ BitNot ∷ Shl ∷ Shr ∷ Minus ∷ Not ∷ LoadTrue ∷ LoadFalse ∷ LoadNone
    ∷ LoadEllipsis ∷ LoadAttr ∷ StoreAttr ∷ DelAttr ∷ CallMethod ∷ CallMethodArgs ∷ UnpackSequence ∷ WithEnter ∷ WithExit ∷ WithJudge ∷ Assert ∷ GetIter
    ∷ PopIter ∷ CallRange ∷ CallEnumerate ∷ CallZip ∷ CallReversed ∷ CallInput ∷ Phi ∷ ListAppend ∷ SetAdd ∷ MapAdd ∷ InPlaceAdd ∷ InPlaceSub ∷ MakeFunction
    ∷ MakeCoroutine ∷ StoreName ∷ MatchSeq ∷ MatchMap ∷ MatchClass ∷ Swap ∷ DictUpdate ∷ SetUpdate ∷ ListExtend ∷ []

-- o is one of them
unfoldable pub stack_work : ℕ → Bool
stack_work o = among o stack_ops

-- a jump at k to t, at i's a: it lands after k and not past n; or it is a loop's back-edge; or a test that goes back to the step of a `for` it lies in
unfoldable pub jump_fits : Ins → Ins → ℕ → ℕ → Bool
jump_fits i t k n =
    ltb k i.a && leb i.a n
    || eqb i.op Jump && eqb i.x 0 && leb i.a k
    || not (eqb i.op Jump) && eqb t.op ForIterR && eqb t.x 0 && ltb k t.a

-- another instruction with a role: a call has its result stored at s, ArgsR stands right after a wide call
unfoldable pub plain_fits : Ins → Ins → Ins → Bool
plain_fits i prev s =
    cond (is_call i.op) (eqb s.op StoreTopR && eqb s.x 0)
    (cond (eqb i.op ArgsR) (is_call prev.op && wide prev)
    true)

-- what only a generator's body holds: a `yield` that takes no value back, calls that spread, a `yield from` whose value goes unused
unfoldable pub yield_fits : Ins → Ins → Bool
yield_fits i next =
    eqb i.op Yield && (eqb i.x 1 || eqb next.op PopTop)
    || (eqb i.op BeginArgs || eqb i.op UnpackArgs || eqb i.op CallSpread)
    || eqb i.op LoadYieldFrom && eqb next.op PopTop

-- the rule of an instruction i at k of n, by what stands before it, after it, where its result is stored and where it jumps
unfoldable pub fits : Ins → Ins → Ins → Ins → Ins → ℕ → ℕ → Bool → Bool
fits i prev next s t k n yields =
    cond (is_jump i) (jump_fits i t k n)
    (cond (has_role i) (plain_fits i prev s)
    (stack_work i.op || yields && yield_fits i next))

-- a call's result is stored right after it, past the ArgsR of a wide one
abbrev pub store_follows : List ℕ → ℕ → ℕ
store_follows w k = k + 1 + bool_byte (wide (ins_at w k))

-- the rule, kept at k
unfoldable pub laid_at : List ℕ → Bool → ℕ → Bool
laid_at w yields k = fits (ins_at w k) (ins_at w (k - 1)) (ins_at w (k + 1)) (ins_at w (store_follows w k)) (ins_at w (ins_at w k).a) k (count w) yields

-- `laid`: every instruction keeps its rule; without yields, `pure`
unfoldable pub laid : List ℕ → Bool → Bool
laid w yields = every (laid_at w yields) (count w)
