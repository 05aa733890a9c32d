-- The words of an instruction where a load is put, and of every other. Assumes nothing.
use Prim.Native.Nat.{ℕ, ◌+◌, ◌*◌, ◌%◌, ◌<◌}
use native.Mathlib.Omega.{arith}
use mathlib.Core.Path.{◌≡◌, refl, sym, ap, ◌∙◌}
use mathlib.Core.Bool.{Bool, true, false, cond}
use mathlib.Core.List.{List}
use lib.Dec.{eqb}
use lib.ListN.{length, get_or, set, length-set}
use lib.Seq.{get_or-set_same, get_or-set_other}
use Rattle.ops.specs.Op.{LoadConst}
use Rattle.chunk.specs.Chunk.{stride, chunk_count, op_at, mark_at, operand_at, origin_at, marks_jump}
use Rattle.fold.specs.Pass.{mark_of, put}

module _ (w : List ℕ) (p o x : ℕ) where
  pub put_long : length (put w p o x) ≡ length w
  unfolding put
  put_long = simp length-set

  -- no instruction's origin changes, that of the one at p neither
  pub put_origin : (k : ℕ) → origin_at (put w p o x) k ≡ origin_at w k
  unfolding put
  put_origin k =
      get_or-set_other (set (set w (stride * p) o) (stride * p + 1) (mark_of o)) (stride * p + 2) (stride * k + 3) x 0 (λ e. omega arith)
      ∙ get_or-set_other (set w (stride * p) o) (stride * p + 1) (stride * k + 3) (mark_of o) 0 (λ e. omega arith)
      ∙ get_or-set_other w (stride * p) (stride * k + 3) o 0 (λ e. omega arith)

  module _ (k : ℕ) (h : k ≡ p → ⊥) where
    word_other : (j : ℕ) → j < stride → get_or (put w p o x) (stride * k + j) 0 ≡ get_or w (stride * k + j) 0
    unfolding put
    word_other j l =
        get_or-set_other (set (set w (stride * p) o) (stride * p + 1) (mark_of o)) (stride * p + 2) (stride * k + j) x 0 (λ e. h (omega arith))
        ∙ get_or-set_other (set w (stride * p) o) (stride * p + 1) (stride * k + j) (mark_of o) 0 (λ e. h (omega arith))
        ∙ get_or-set_other w (stride * p) (stride * k + j) o 0 (λ e. h (omega arith))

    pub put_other : op_at (put w p o x) k ≡ op_at w k
    put_other =
        let e : stride * k ≡ stride * k + 0 = omega arith in
        ap (λ (i : ℕ). get_or (put w p o x) i 0) e ∙ word_other 0 (omega arith) ∙ ap (λ (i : ℕ). get_or w i 0) (sym e)

    pub mark_other : mark_at (put w p o x) k ≡ mark_at w k
    mark_other = word_other 1 (omega arith)

    pub operand_other : operand_at (put w p o x) k ≡ operand_at w k
    operand_other = word_other 2 (omega arith)

    pub jump_other : marks_jump (put w p o x) k ≡ marks_jump w k
    jump_other = ap (λ (m : ℕ). eqb (m % 2) 1) mark_other

  module _ (h : p < chunk_count w) where
    pub put_here : op_at (put w p o x) p ≡ o
    unfolding put
    put_here =
        get_or-set_other (set (set w (stride * p) o) (stride * p + 1) (mark_of o)) (stride * p + 2) (stride * p) x 0 (λ e. omega arith)
        ∙ get_or-set_other (set w (stride * p) o) (stride * p + 1) (stride * p) (mark_of o) 0 (λ e. omega arith)
        ∙ get_or-set_same w (stride * p) o 0 (omega arith)

    pub mark_here : mark_at (put w p o x) p ≡ mark_of o
    unfolding put
    mark_here =
        get_or-set_other (set (set w (stride * p) o) (stride * p + 1) (mark_of o)) (stride * p + 2) (stride * p + 1) x 0 (λ e. omega arith)
        ∙ get_or-set_same (set w (stride * p) o) (stride * p + 1) (mark_of o) 0 (rw (length-set w (stride * p) o) (omega arith))

    pub operand_here : operand_at (put w p o x) p ≡ x
    unfolding put
    operand_here =
        get_or-set_same (set (set w (stride * p) o) (stride * p + 1) (mark_of o)) (stride * p + 2) x 0
        (rw (length-set (set w (stride * p) o) (stride * p + 1) (mark_of o), length-set w (stride * p) o) (omega arith))

    -- a load that is put has no jump mark
    pub jump_here : marks_jump (put w p o x) p ≡ false
    unfolding mark_of
    jump_here = ap (λ (m : ℕ). eqb (m % 2) 1) mark_here ∙ go (eqb o LoadConst)
      where
        go : (b : Bool) → eqb (cond b 2 0 % 2) 1 ≡ false
        go true = refl
        go false = refl
