-- A table of landings stays true after every fold, and the folds that it allows are those of the scan. Assumes nothing.
use Prim.Native.Nat.{ℕ, zero, suc, ◌≤◌, ◌<◌}
use native.Mathlib.Omega.{arith}
use mathlib.Core.Path.{◌≡◌, refl, sym, ap, fun_ext, ◌∙◌}
use mathlib.Core.Bool.{Bool, true, false, cond}
use mathlib.Core.List.{List}
use lib.Dec.{eqb}
use lib.ListN.{get_or}
use mir.Val.{bool_byte}
use borrow.Author.Tests.{eqb-true, eqb-false}
use Rattle.ops.specs.Op.{LoadConst}
use Rattle.chunk.specs.Chunk.{chunk_count, op_at, marks_jump}
use Rattle.landings.specs.Landings.{landings_of, Unmarked}
use Rattle.landings.specs.Latest.{latest, is_landing}
use Rattle.landings.proofs.Asked.{same_test}
use Rattle.landings.proofs.Kept.{SameJumps, landings_same, same_refl, same_twice}
use Rattle.values.specs.declared.Val.{Val}
use Rattle.fold.specs.Plan.{Chunk, after, plan_at}
use Rattle.fold.specs.Pass.{Loading, const_load, put, landed, applied, try_fold, Bars, by_scan, by_table, folded, fold_all}
use Rattle.fold.proofs.Planned.{Planned, planned}
use Rattle.fold.proofs.Put.{put_long, put_other, operand_other, jump_other, jump_here}
use Rattle.std.specs.declared.option.Option.{Option}
use Rattle.std.specs.declared.option.Option.TheVariants.{Some, None}
use Rattle.fold.specs.declared.Plan.{Plan}
use Rattle.fold.specs.declared.Load.{Load}
use Rattle.fold.specs.Plan.{to_put}

-- ---- a load that is put

module _ (w : List ℕ) (p o x : ℕ) where
  module _ (h : p < chunk_count w) (u : Unmarked w) (l : op_at w p ≡ LoadConst) where
    put_jumps : SameJumps w (put w p o x)
    put_jumps = record { long = put_long w p o x; mark = mark; goal = λ k j. operand_other w p o x k (λ e. apart k e j) }
      where
        mark : (k : ℕ) → marks_jump (put w p o x) k ≡ marks_jump w k
        mark k = go (eqb k p) refl
          where
            go : (b : Bool) → eqb k p ≡ b → marks_jump (put w p o x) k ≡ marks_jump w k
            go true e = let q = eqb-true k p e in rw q (jump_here w p o x h ∙ sym (u p l))
            go false e = jump_other w p o x k (eqb-false k p e)

        apart : (k : ℕ) → k ≡ p → marks_jump w k ≡ true → ⊥
        apart k e j =
            let f : marks_jump w k ≡ false = rw e (u p l) in
            let z : ◌≡◌ {A = ℕ} 0 1 = ap bool_byte (sym f ∙ j) in
            omega arith

    put_unmarked : Unmarked (put w p o x)
    put_unmarked k e = go (eqb k p) refl
      where
        go : (b : Bool) → eqb k p ≡ b → marks_jump (put w p o x) k ≡ false
        go true q = let s = eqb-true k p q in rw s (jump_here w p o x h)
        go false q = let n = eqb-false k p q in jump_other w p o x k n ∙ u k (sym (put_other w p o x k n) ∙ e)

-- ---- one attempt

pub record Calm (w w' : List ℕ) : Type 0 where
  pub jumps : SameJumps w w'
  pub marks : Unmarked w'

module _ (i : ℕ) (s : Chunk) (h : i < chunk_count s.code) (u : Unmarked s.code) where
  calm : Calm s.code s.code
  calm = record { jumps = same_refl s.code; marks = u }

  put_calm : (p q : ℕ) (v : Val) → Planned s i p q → Calm s.code (applied (to_put p q v) i s).code
  unfolding applied landed
  put_calm p q v y = go (const_load v s.kinds s.words s.constants)
    where
      by : (a : Option Load) (ks ws : List ℕ) → Calm s.code (landed a ks ws p q i s).code
      by (Some l) ks ws =
          let f : p < chunk_count s.code = omega (arith, y.first) in
          record { jumps = put_jumps s.code p l.opcode l.operand f u y.load; marks = put_unmarked s.code p l.opcode l.operand f u y.load }
      by None ks ws = calm

      go : (l : Loading) → Calm s.code (landed l.load l.kinds l.words p q i s).code
      go l = by l.load l.kinds l.words

  pub try_calm : (bars : ℕ → Bool) → Calm s.code (try_fold bars i s).code
  unfolding try_fold applied
  try_calm bars = go (eqb (get_or s.dead i 0) 0)
    where
      by : (plan : Option Plan) → plan_at bars i s ≡ plan → Calm s.code (applied plan i s).code
      by None e = calm
      by (Some f) e = put_calm f.at f.dies f.value (planned bars i s e)

      go : (t : Bool) → Calm s.code (cond t (applied (plan_at bars i s) i s) s).code
      go true = by (plan_at bars i s) refl
      go false = calm

-- ---- the pass

module _ (s : Chunk) (u : Unmarked s.code) where
  pub pass_calm : (bars : Bars) (k : ℕ) → k ≤ chunk_count s.code → Calm s.code (folded bars k s).code
  unfolding folded
  pass_calm bars zero h = record { jumps = same_refl s.code; marks = u }
  pass_calm bars (suc k) h =
      let c = pass_calm bars k (omega arith) in
      let d = try_calm k (folded bars k s) (omega (arith, c.jumps.long)) c.marks (bars (folded bars k s).code k) in
      record { jumps = same_twice c.jumps d.jumps; marks = d.marks }

  -- the table is true after every fold
  pub still_true : (bars : Bars) (tries : List ℕ) (k : ℕ) → k ≤ chunk_count s.code → landings_of (folded bars k s).code tries ≡ landings_of s.code tries
  still_true bars tries k h = landings_same s.code (folded bars k s).code tries (pass_calm bars k h).jumps

  -- and strict mode by the table makes the folds of strict mode by the scan
  module _ (strict : Bool) (tries : List ℕ) where
    abbrev table : Bars
    table = by_table strict (landings_of s.code tries)

    abbrev scan : Bars
    scan = by_scan strict tries

    same_so_far : (k : ℕ) → k ≤ chunk_count s.code → folded table k s ≡ folded scan k s
    unfolding folded
    same_so_far zero h = refl
    same_so_far (suc k) h =
        let e = same_so_far k (omega arith) in
        let l = (pass_calm scan k (omega arith)).jumps.long in
        let f : table (folded scan k s).code k ≡ scan (folded scan k s).code k =
        fun_ext (λ p.
        ap (λ (t : List ℕ). after (latest (is_landing strict t) (suc k)) p) (sym (still_true scan tries k (omega arith)))
        ∙ same_test (folded scan k s).code tries p k (omega arith) strict) in
        ap (λ (x : Chunk). try_fold (table x.code k) k x) e ∙ ap (λ (b : ℕ → Bool). try_fold b k (folded scan k s)) f

    pub same_folds : fold_all table s ≡ fold_all scan s
    unfolding fold_all
    same_folds = same_so_far (chunk_count s.code) (omega arith)
