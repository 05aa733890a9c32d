-- Document 01's P13, whose end the plain mode does not keep; and a run, computed. Assumes nothing.
use Prim.Native.Nat.{ℕ}
use native.Mathlib.Omega.{arith}
use mathlib.Core.Path.{◌≡◌, refl}
use mathlib.Core.List.{[], ◌∷◌}
use lib.IntN.{pos}
use Rattle.ops.specs.Op as op
use Rattle.values.specs.Folds.{fold_binop, ints, in_range}
use Rattle.values.specs.declared.Val.TheVariants.{Int}
use Rattle.values.specs.declared.Op.TheVariants.{Add}
use Rattle.pool.specs.Pool.{to_val}
use Rattle.fold.specs.declared.Kind.TheVariants.{Binop}
use Rattle.fold.specs.Plan.{operator_page, kind_of}
use Rattle.runs.specs.Machine.{Known, None, Stack, is_true, Ins, End, Left, Short, At, Stop, binop_v, answer, apply, test, act, Run, ends, stops, goes}
use Rattle.runs.specs.Machine.{push_of, plain, read, ins}
use Rattle.runs.specs.Kept.{RunEnds, Same}

-- P13: LoadConst 0; LoadConst 1; Add; Jump 2, with room for a constant more. At the second Add the stack is short.
pub p13 : RunEnds (op.LoadConst ∷ 2 ∷ 0 ∷ 0 ∷ op.LoadConst ∷ 2 ∷ 1 ∷ 0 ∷ op.Add ∷ 0 ∷ 0 ∷ 0 ∷ op.Jump ∷ 1 ∷ 2 ∷ 0 ∷ []) (1 ∷ 1 ∷ 9 ∷ []) (2 ∷ 3 ∷ 9 ∷ []) 4
    (Short (Binop Add) (Known (Int (pos 5)) ∷ []))
unfolding act apply answer binop_v fold_binop ints in_range ins read plain push_of kind_of operator_page to_val
p13 =
    goes {k = 0} {j = 1} {t = Known (Int (pos 2)) ∷ []} (omega arith) refl
    (goes {k = 1} {j = 2} {t = Known (Int (pos 3)) ∷ Known (Int (pos 2)) ∷ []} (omega arith) refl
    (goes {k = 2} {j = 3} {t = Known (Int (pos 5)) ∷ []} (omega arith) refl
    (goes {k = 3} {j = 2} {t = Known (Int (pos 5)) ∷ []} (omega arith) refl (stops {k = 2} (omega arith) refl))))

-- the plain mode leaves LoadConst 2; Jump 1, which never ends
abbrev plainly : ℕ → Ins
plainly = ins (op.LoadConst ∷ 2 ∷ 2 ∷ 0 ∷ op.Jump ∷ 1 ∷ 1 ∷ 0 ∷ 0 ∷ 0 ∷ 0 ∷ 0 ∷ 0 ∷ 0 ∷ 0 ∷ 0 ∷ []) (1 ∷ 1 ∷ 1 ∷ []) (2 ∷ 3 ∷ 5 ∷ [])

pub endless : {k : ℕ} {s : Stack} {e : End} → Run plainly 2 k s e → k ≡ 1 → ⊥
unfolding act ins read plain kind_of operator_page
endless (ends h) k = omega arith
endless (stops {k = k} {s = s} {e = e} h q) w = let b : At 1 s ≡ Stop e = rw w at q in let z : ◌≡◌ {A = ℕ} 0 1 = cc in omega arith
endless (goes {k = k} {j = j} {s = s} {t = t} h q run) w = let b : At 1 s ≡ At j t = rw w at q in endless run (let y : j ≡ 1 = cc in y)

-- so the run of P13, which ends, does not end after the plain fold
pub plain_loses : {e : End} → Run plainly 2 0 [] e → ⊥
unfolding act ins read plain push_of to_val in_range kind_of operator_page
plain_loses (ends h) = omega arith
plain_loses (stops {e = e} h q) = let b : At 1 (Known (Int (pos 5)) ∷ []) ≡ Stop e = q in let z : ◌≡◌ {A = ℕ} 0 1 = cc in omega arith
plain_loses (goes {j = j} {t = t} h q run) = let b : At 1 (Known (Int (pos 5)) ∷ []) ≡ At j t = q in endless run (let y : j ≡ 1 = cc in y)

-- the plain mode does not keep what `keeps_runs` says of the strict one
pub plain_breaks : Same (op.LoadConst ∷ 2 ∷ 0 ∷ 0 ∷ op.LoadConst ∷ 2 ∷ 1 ∷ 0 ∷ op.Add ∷ 0 ∷ 0 ∷ 0 ∷ op.Jump ∷ 1 ∷ 2 ∷ 0 ∷ []) (1 ∷ 1 ∷ 9 ∷ [])
    (2 ∷ 3 ∷ 9 ∷ []) 4
    (op.LoadConst ∷ 2 ∷ 2 ∷ 0 ∷ op.Jump ∷ 1 ∷ 1 ∷ 0 ∷ 0 ∷ 0 ∷ 0 ∷ 0 ∷ 0 ∷ 0 ∷ 0 ∷ 0 ∷ []) (1 ∷ 1 ∷ 1 ∷ []) (2 ∷ 3 ∷ 5 ∷ []) 2 → ⊥
plain_breaks same = plain_loses (same.ends _ p13)

-- none is false: LoadNone; JumpIfFalse 3; LoadTrue leaves nothing
pub none_false : RunEnds (op.LoadNone ∷ 0 ∷ 0 ∷ 0 ∷ op.JumpIfFalse ∷ 1 ∷ 3 ∷ 1 ∷ op.LoadTrue ∷ 0 ∷ 0 ∷ 2 ∷ []) [] [] 3 (Left [])
unfolding act test is_true ins read plain kind_of operator_page
none_false = goes {k = 0} {j = 1} {t = None ∷ []} (omega arith) refl (goes {k = 1} {j = 3} {t = []} (omega arith) refl (ends {k = 3} (omega arith)))
