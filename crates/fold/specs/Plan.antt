-- What an operator at i may fold to: document 01, 'Folding'.
use Rattle.std.specs.Prelude.{ℕ, Bool, true, false, cond, List, [], ◌∷◌}
use Rattle.laws.specs.Page.{Row, ◌↝◌, look}
use Rattle.ops.specs.Op as op
use Rattle.chunk.specs.Chunk.{op_at}
use Rattle.values.specs.Folds.{fold_binop, fold_not, fold_neg}
use Rattle.values.specs.declared.Val.{Val}
use Rattle.std.specs.declared.option.Option.{Option}
use Rattle.std.specs.declared.option.Option.TheVariants.{Some, None}
use Rattle.values.specs.declared.Op.{Op}
use Rattle.values.specs.declared.Op.TheVariants.{Add, Sub, Mul, Div, Mod, FloorDiv, Eq, NotEq, Lt, Gt, LtEq, GtEq, BitAnd, BitOr, BitXor, Shl, Shr}
unfoldable pub use Rattle.operands.specs.Operands.{prev_live, operand_of, skips_into, blocked}
pub use Rattle.operands.specs.Operands.{after}
use Rattle.fold.specs.declared.Kind.{Kind}
use Rattle.fold.specs.declared.Kind.TheVariants.{Binop, Not, Minus, Other}
use Rattle.fold.specs.declared.Plan.{Plan}

-- a chunk while it is folded: its code, its dead marks, its constants and their count
pub record Chunk : Type 0 where
  pub code : List ℕ
  pub dead : List ℕ
  pub kinds : List ℕ
  pub words : List ℕ
  pub constants : ℕ

-- a chunk with this code, these dead marks, and so many of these constants
abbrev pub chunk : (code dead kinds words : List ℕ) → ℕ → Chunk
chunk code dead kinds words constants = record { code = code; dead = dead; kinds = kinds; words = words; constants = constants }

-- the operators
unfoldable pub operator_page : List (Row Kind)
operator_page =
    ((op.Add ∷ []) ↝ Binop Add)
    ∷ ((op.Sub ∷ []) ↝ Binop Sub)
    ∷ ((op.Mul ∷ []) ↝ Binop Mul)
    ∷ ((op.Div ∷ []) ↝ Binop Div)
    ∷ ((op.Mod ∷ []) ↝ Binop Mod)
    ∷ ((op.FloorDiv ∷ []) ↝ Binop FloorDiv)
    ∷ ((op.Eq ∷ []) ↝ Binop Eq)
    ∷ ((op.NotEq ∷ []) ↝ Binop NotEq)
    ∷ ((op.Lt ∷ []) ↝ Binop Lt)
    ∷ ((op.Gt ∷ []) ↝ Binop Gt)
    ∷ ((op.LtEq ∷ []) ↝ Binop LtEq)
    ∷ ((op.GtEq ∷ []) ↝ Binop GtEq)
    ∷ ((op.BitAnd ∷ []) ↝ Binop BitAnd)
    ∷ ((op.BitOr ∷ []) ↝ Binop BitOr)
    ∷ ((op.BitXor ∷ []) ↝ Binop BitXor)
    ∷ ((op.Shl ∷ []) ↝ Binop Shl)
    ∷ ((op.Shr ∷ []) ↝ Binop Shr)
    ∷ ((op.Not ∷ []) ↝ Not)
    ∷ ((op.Minus ∷ []) ↝ Minus)
    ∷ []

-- what an opcode folds as; one that the page does not name is no operator
unfoldable pub kind_of : ℕ → Kind
unfolding operator_page
kind_of o = look Other o operator_page

-- the fold that puts v at p, where what is at q dies with the operator
abbrev pub to_put : ℕ → ℕ → Val → Option Plan
to_put p q v = Some (record { at = p; dies = q; value = v })

-- what is missing, be it an operand's place, an operand or the result, ends the attempt
abbrev pub with_some : {A : Type 0} → Option A → (A → Option Plan) → Option Plan
with_some (Some a) f = f a
with_some None f = None

-- an operator of two operands, the nearest live instructions before it: no fold if one is no operand, there is no result, or it is blocked
unfoldable pub try_fold_binop : (ℕ → Bool) → Op → ℕ → Chunk → Option Plan
unfolding prev_live operand_of blocked
try_fold_binop bars o i s =
    with_some (prev_live s.dead i) (λ q.
    with_some (prev_live s.dead q) (λ p.
    with_some (operand_of s.code s.kinds s.words s.constants p) (λ a.
    with_some (operand_of s.code s.kinds s.words s.constants q) (λ b.
    with_some (fold_binop o a b) (λ v. cond (blocked bars s.code p i) None (to_put p q v))))))

-- Minus, or Not
unfoldable pub fold_unary : Bool → Val → Option Val
fold_unary true v = fold_neg v
fold_unary false v = fold_not v

-- Minus or Not of the nearest live instruction before it: no fold if that is no operand, there is no result, or it is blocked
unfoldable pub try_fold_unary : (ℕ → Bool) → Bool → ℕ → Chunk → Option Plan
unfolding prev_live operand_of blocked fold_unary
try_fold_unary bars minus i s =
    with_some (prev_live s.dead i) (λ p.
    with_some (operand_of s.code s.kinds s.words s.constants p) (λ a.
    with_some (fold_unary minus a) (λ v. cond (blocked bars s.code p i) None (to_put p i v))))

-- the attempt that the kind of the instruction at i asks for; none where it is no operator
unfoldable pub plan_for : Kind → (ℕ → Bool) → ℕ → Chunk → Option Plan
unfolding try_fold_binop try_fold_unary
plan_for (Binop o) bars i s = try_fold_binop bars o i s
plan_for Not bars i s = try_fold_unary bars false i s
plan_for Minus bars i s = try_fold_unary bars true i s
plan_for Other bars i s = None

-- the fold of the instruction at i, if it is an operator and there is one
unfoldable pub plan_at : (ℕ → Bool) → ℕ → Chunk → Option Plan
unfolding plan_for kind_of
plan_at bars i s = plan_for (kind_of (op_at s.code i)) bars i s
