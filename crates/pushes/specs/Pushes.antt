-- The push whose value a store takes back past a call (block.rs: `pushed_back`). Assumes nothing.
use Rattle.std.specs.Prelude.{ℕ, zero, suc, ◌+◌, ◌-◌, Bool, cond, ◌&&◌, ◌||◌, List, eqb, ltb}
use mir.Val.{bool_byte}
use Rattle.laws.specs.All.{every}
use Rattle.laws.specs.Page.{among}
use Rattle.ops.specs.Op.{StoreTopR, ArgsR, CallR, CallGlobalR, CallMethodR, PushRegs}
use Rattle.code.specs.Ins.{ins_at}
use Rattle.code.specs.declared.Ins.{Ins}
use Rattle.roles.specs.Kinds.{field_of}
use Rattle.roles.specs.Sets.{unpacked}
use Rattle.std.specs.declared.option.Option.{Option}
use Rattle.std.specs.declared.option.Option.TheVariants.{Some, None}

-- a position, if there is one
abbrev pub Place : Type 0
Place = Option ℕ

-- where the stores right before d begin; d, if there is none
unfoldable pub stores_from : List ℕ → ℕ → ℕ
stores_from w zero = zero
stores_from w (suc k) = let r = stores_from w k in cond (eqb (ins_at w k).op StoreTopR) r (suc k)

-- the call before the stores from s on, past an ArgsR
unfoldable pub call_before : List ℕ → ℕ → ℕ
call_before w s = s - 1 - bool_byte (eqb (ins_at w (s - 1)).op ArgsR)

-- c is a call that does not spread, and p pushes n registers, the first of a, b, c; r is one of them
unfoldable pub pending : Ins → Ins → ℕ → ℕ → Bool
pending c p n r =
    (eqb c.op CallR || eqb c.op CallGlobalR || eqb c.op CallMethodR)
    && (eqb p.op PushRegs && eqb p.x n)
    && among r (unpacked p)

-- the instruction at k + i stores into the register that p pushed last but i
unfoldable pub taken_at : List ℕ → ℕ → Ins → ℕ → Bool
taken_at w k p i = eqb (ins_at w (k + i)).op StoreTopR && eqb (ins_at w (k + i)).a (field_of p (p.x - 1 - i))

-- the stores from k on take back each value in the place it was pushed, the last pushed first
unfoldable pub takes_back : List ℕ → ℕ → Ins → Bool
takes_back w k p = every (taken_at w k p) p.x

-- of the stores from s to d the first is the call's own, and the others take back what was pushed right before the call at c
unfoldable pub gives_back : List ℕ → ℕ → ℕ → ℕ → ℕ → Bool
gives_back w c s d r = pending (ins_at w c) (ins_at w (c - 1)) (d - s) r && takes_back w (s + 1) (ins_at w (c - 1))

-- the push before the call at c, if there is one
unfoldable pub push_under : List ℕ → ℕ → ℕ → ℕ → ℕ → Place
push_under w c s d r = cond (ltb 0 c && gives_back w c s d r) (Some (c - 1)) None

-- for the store at d that takes r back past a call: the push before that call
unfoldable pub pushed_back : List ℕ → ℕ → ℕ → Place
pushed_back w d r = push_under w (call_before w (stores_from w d)) (stores_from w d) d r
