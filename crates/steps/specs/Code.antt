-- The row equations of lent code: what each position uses, gives up and has after it. Assumes nothing.
use Rattle.std.specs.Prelude.{ℕ, ◌+◌, ◌-◌, min, Bool, cond, ◌&&◌, ◌||◌, List, [], ◌∷◌, eqb, leb, ltb}
use Rattle.laws.specs.All.{many}
use Rattle.ops.specs.Op.{Jump, ReturnR, PushRegs, StoreTopR, PopTop}
use Rattle.code.specs.Ins.{ins_at, count, is_call, wide}
use Rattle.roles.specs.Kinds.{is_jump}
use Rattle.roles.specs.Sets.{used_by, given_by}
use Rattle.flow.specs.Set.{alone}
use Rattle.flow.specs.Flow.{Flow, joined}

-- a call's store: right after it, past ArgsR if wide
unfoldable pub store_of : List ℕ → ℕ → ℕ
store_of w c = cond (wide (ins_at w c)) (c + 2) (c + 1)

-- a call is "over a pending value" if the instruction before it is PushRegs with x = 1
unfoldable pub over_pending : List ℕ → ℕ → Bool
over_pending w c = ltb 0 c && is_call (ins_at w c).op && eqb (ins_at w (c - 1)).op PushRegs && eqb (ins_at w (c - 1)).x 1

-- k is right after the store of such a call at c
unfoldable pub past_store : List ℕ → ℕ → ℕ → Bool
past_store w c k = over_pending w c && eqb (store_of w c + 1) k

-- a StoreTopR or PopTop there: the call is two before it, or three if wide
unfoldable pub restores : List ℕ → ℕ → Bool
restores w k = (eqb (ins_at w k).op StoreTopR || eqb (ins_at w k).op PopTop) && (past_store w (k - 2) k || past_store w (k - 3) k)

-- that push, and a StoreTopR or PopTop right after the call's store, use and give up nothing
unfoldable pub idle : List ℕ → ℕ → Bool
idle w k = over_pending w (k + 1) || restores w k

-- the registers that position k uses: none where it is idle
unfoldable pub used_at : List ℕ → ℕ → List ℕ
used_at w k = cond (idle w k) [] (used_by (ins_at w k))

-- the registers that position k gives up: none where it is idle
unfoldable pub given_at : List ℕ → ℕ → List ℕ
given_at w k = cond (idle w k) [] (given_by (ins_at w k))

-- after: ReturnR empty; Jump row min(a, n); another jump, row k + 1 with row min(a, n); else row k + 1
unfoldable pub after_at : List ℕ → ℕ → List ℕ
after_at w k =
    let i = ins_at w k in
    let t = min i.a (count w) in
    cond (eqb i.op ReturnR) [] (cond (eqb i.op Jump) (t ∷ []) (cond (is_jump i) ((k + 1) ∷ t ∷ []) ((k + 1) ∷ [])))

-- the jumps to their own position or back
abbrev pub jumps_back : List ℕ → ℕ
jumps_back w = many (λ k. is_jump (ins_at w k) && leb (ins_at w k).a k) (count w)

-- the set of some registers; those not below the register count never appear
abbrev pub set_of : ℕ → List ℕ → ℕ
set_of regs rs = joined (alone regs) rs

-- the row equations of lent code with so many registers; nothing leaves for a handler in them
abbrev pub flow : ℕ → List ℕ → Flow
flow regs w = record {
  size = count w;
  regs = regs;
  used = λ k. set_of regs (used_at w k);
  given_up = λ k. set_of regs (given_at w k);
  after = after_at w;
  raises = λ k. [];
}
