-- The parts of an attempt: the nearest live instruction, an operand, a jump's landing. Assumes nothing.
use Prim.Native.Nat.{ℕ, zero, suc, ◌-◌, ◌≤◌, ◌<◌}
use native.Mathlib.Omega.{arith}
use mathlib.Core.Path.{◌≡◌, refl, sym, ◌∙◌}
use mathlib.Core.Bool.{Bool, true, false, cond}
use mathlib.Core.List.{List}
use lib.Dec.{eqb, ltb}
use lib.ListN.{get_or}
use borrow.Author.Tests.{eq-eqb, ne_eqb, eqb-true}
use Rattle.ops.specs.Op.{LoadConst}
use Rattle.chunk.specs.Chunk.{op_at, operand_at}
use Rattle.values.specs.Inner.{SoundInt}
use Rattle.values.specs.declared.Val.{Val}
use Rattle.std.specs.declared.option.Option.{Option}
use Rattle.std.specs.declared.option.Option.TheVariants.{Some, None}
use Rattle.pool.specs.Pool.{to_val, const_to_val}
use Rattle.pool.proofs.Store.{val_sound}
use Rattle.operands.specs.Operands.{prev_live, operand_of}

-- ---- the nearest live instruction

pub live_here : (dead : List ℕ) (i : ℕ) (r : Option ℕ) → 0 < i → get_or dead (i - 1) 0 ≡ 0 → prev_live dead i ≡ r → Some (i - 1) ≡ r
unfolding prev_live
live_here dead zero r h e f = absurd (omega arith)
live_here dead (suc i) r h e f =
    let p : suc i - 1 ≡ i = omega arith in
    let d : get_or dead i 0 ≡ 0 = rw p at e in
    rw p (rw (eq-eqb _ _ d) at f)

pub dead_here : (dead : List ℕ) (i : ℕ) (r : Option ℕ) → 0 < i → (get_or dead (i - 1) 0 ≡ 0 → ⊥) → prev_live dead i ≡ r → prev_live dead (i - 1) ≡ r
unfolding prev_live
dead_here dead zero r h n f = absurd (omega arith)
dead_here dead (suc i) r h n f =
    let p : suc i - 1 ≡ i = omega arith in
    let d : get_or dead i 0 ≡ 0 → ⊥ = rw p at n in
    rw p (rw (ne_eqb _ _ d) at f)

pub none_left : (dead : List ℕ) (i : ℕ) (r : Option ℕ) → i ≤ 0 → prev_live dead i ≡ r → None ≡ r
unfolding prev_live
none_left dead i r h e = let z : i ≡ 0 = omega arith in rw z at e

nowhere_at : {X : Type 0} {p : ℕ} → None ≡ Some p → X
nowhere_at e = absurd (let z : ◌≡◌ {A = ℕ} 0 1 = cc in omega arith)

-- it stands before
pub before : (dead : List ℕ) (i p : ℕ) → prev_live dead i ≡ Some p → p < i
unfolding prev_live
before dead zero p e = nowhere_at e
before dead (suc i) p e = go (eqb (get_or dead i 0) 0) e (before dead i p)
  where
    go : (t : Bool) → cond t (Some i) (prev_live dead i) ≡ Some p → (prev_live dead i ≡ Some p → p < i) → p < suc i
    go true e ih = let s : i ≡ p = cc in omega arith
    go false e ih = omega (arith, ih e)

-- ---- an operand

pub operand_load : (code kinds words : List ℕ) (n p : ℕ) (v : Val) → operand_of code kinds words n p ≡ Some v → op_at code p ≡ LoadConst
unfolding operand_of
operand_load code kinds words n p v e = go (eqb (op_at code p) LoadConst) refl e
  where
    go : (t : Bool) → eqb (op_at code p) LoadConst ≡ t → cond t (const_to_val kinds words n (operand_at code p)) None ≡ Some v → op_at code p ≡ LoadConst
    go true h e = eqb-true (op_at code p) LoadConst h
    go false h e = absurd (let z : ◌≡◌ {A = ℕ} 0 1 = cc in omega arith)

-- its int is in range
pub operand_sound : {r : Option Val} {v : Val} (code kinds words : List ℕ) (n p : ℕ) → r ≡ operand_of code kinds words n p → r ≡ Some v → SoundInt v
unfolding operand_of const_to_val
operand_sound {r} {v} code kinds words n p e f = go (eqb (op_at code p) LoadConst) (ltb (operand_at code p) n) (sym e ∙ f)
  where
    no : None ≡ Some v → SoundInt v
    no e = absurd (let z : ◌≡◌ {A = ℕ} 0 1 = cc in omega arith)

    go : (a b : Bool) → cond a (cond b (to_val (get_or kinds (operand_at code p) 0) (get_or words (operand_at code p) 0)) None) None ≡ Some v → SoundInt v
    go true true e = val_sound _ _ v e
    go true false e = no e
    go false b e = no e
