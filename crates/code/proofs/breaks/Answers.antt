-- `code::breaks` meets its contract: an opcode that no rule names keeps those rules. Assumes nothing.
use mathlib.Core.Path.{◌≡◌, refl}
use mathlib.Core.Bool.{Bool, true, false, not, ◌&&◌, ◌||◌}
use mathlib.Core.List.{List}
use Prim.Native.Nat.{ℕ, ◌+◌, ◌%◌}
use lib.Dec.{leb, eqb}
use Rattle.laws.proofs.Branch.{or_false}
use Rattle.ops.specs.Op.{last, PushRegs, UnpackR, ArgsR, WithEnter, WithExit}
use Rattle.code.specs.Ins.{ins_at, is_call, wide}
use Rattle.code.specs.Rules.{rules, rule_at}
use Rattle.code.specs.Inner.{has_rule}
use Rattle.code.specs.declared.Ins.{Ins}
use Rattle.code.proofs.breaks.Goals as goal

joined : (w : List ℕ) (k : ℕ) (i next : Ins) (t : Bool) → i ≡ ins_at w k → next ≡ ins_at w (k + 1) → t ≡ rules i k next.op → not t ≡ not (rule_at w k)
joined w k i next t p q e = cc

-- the rules that are left, where an instruction is known, has few marks, is wide, has a small x, and another follows
left : (o m w x n : Bool) → o && m && not w && x ≡ o && (m && (not w || false)) && x && true && true && true && (not w || n) && true && true
left false m w x n = refl
left true false w x n = refl
left true true true x n = refl
left true true false false n = refl
left true true false true n = refl

unnamed : (i : Ins) (k next : ℕ) → has_rule i.op ≡ false → leb i.op last && leb i.marks 7 && not (wide i) && leb i.x 255 ≡ rules i k next
unfolding rules
unnamed i k next h =
    let exit = or_false _ (eqb i.op WithExit) h in
    let enter = or_false _ (eqb i.op WithEnter) exit.0 in
    let args = or_false _ (eqb i.op ArgsR) enter.0 in
    let unpack = or_false _ (eqb i.op UnpackR) args.0 in
    let push = or_false (is_call i.op) (eqb i.op PushRegs) unpack.0 in
    rw (exit.1, enter.1, args.1, unpack.1, push.1, push.0) (left (leb i.op last) (leb i.marks 7) (wide i) (leb i.x 255) (eqb next ArgsR))

alone : (w : List ℕ) (k : ℕ) (i : Ins) (t : Bool) → i ≡ ins_at w k → t ≡ has_rule i.op → t ≡ false
    → not (leb i.op last && leb i.marks 7 && not (eqb (i.marks % 2) 1) && leb i.x 255) ≡ not (rule_at w k)
alone w k i t p e h =
    let q : has_rule i.op ≡ false = cc in
    let r = unnamed i k (ins_at w (k + 1)).op q in
    cc

pub returns-then-has_rule : goal.returns-then-has_rule
returns-then-has_rule c = search joined

pub returns : goal.returns
returns c = search alone
