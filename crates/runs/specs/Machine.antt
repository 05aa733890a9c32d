-- The stack machine of a chunk: document 02, wish 14. Assumes nothing.
use Rattle.std.specs.Prelude.{ℕ, suc, ◌≤◌, ◌<◌, ◌≡◌, Bool, true, false, not, cond, ◌||◌, List, [], ◌∷◌, eqb, pos, get_or}
use Rattle.ops.specs.Op as op
use Rattle.chunk.specs.Chunk.{op_at, operand_at, marks_jump}
use Rattle.values.specs.Python.{eq_z}
use Rattle.values.specs.Folds.{fold_binop, fold_neg, is_zero}
use Rattle.values.specs.declared.Val.{Val}
use Rattle.values.specs.declared.Val.TheVariants.{Int, Float as Real, Bool as Truth}
use Rattle.std.specs.declared.option.Option.{Option}
use Rattle.std.specs.declared.option.Option.TheVariants.{Some, None as Nothing}
use Rattle.values.specs.declared.Op.{Op}
use Rattle.pool.specs.Pool.{to_val}
use Rattle.fold.specs.declared.Kind.{Kind}
use Rattle.fold.specs.declared.Kind.TheVariants.{Binop, Not, Minus, Other}
use Rattle.fold.specs.Plan.{kind_of}

-- what folds compute with, and none
pub data Value : Type 0 where
  Known : Val → Value
  None : Value

-- the values that a run has at hand, the last pushed first
abbrev pub Stack : Type 0
Stack = List Value

-- zero of either sign, false and none are false, every other value is true
unfoldable pub is_true : Value → Bool
is_true (Known (Int z)) = not (eq_z z (pos 0))
is_true (Known (Real x)) = not (is_zero x)
is_true (Known (Truth b)) = b
is_true None = false

-- An instruction, read. `Unread`: a constant that is no operand, by kind and word. `Apply Other`: an opcode that the machine has not.
-- `Pass` does nothing: it stands for a dead instruction, of which a chunk has none.
pub data Ins : Type 0 where
  Push : Value → Ins
  Unread : ℕ → ℕ → Ins
  Apply : Kind → Ins
  Jump JumpIfFalse : ℕ → Ins
  Pass : Ins

-- How a run ends: at n or past it with a stack, or stopped, by name and with the operands. Names carry no position.
pub data End : Type 0 where
  Left : Stack → End
  NoOperand : ℕ → ℕ → End
  NoResult Short : Kind → Stack → End
  ShortTest Strange : End

-- one step: to a position with a stack, or stopped
pub data Onto : Type 0 where
  At : ℕ → Stack → Onto
  Stop : End → Onto

-- an operator works by the fold rules; none is no operand
unfoldable pub binop_v : Op → Value → Value → Option Val
binop_v o (Known a) (Known b) = fold_binop o a b
binop_v o (Known a) None = Nothing
binop_v o None b = Nothing

-- Minus works by the fold rules too, and none is no operand of it
unfoldable pub neg_v : Value → Option Val
neg_v (Known a) = fold_neg a
neg_v None = Nothing

-- after an operator at k: a result is pushed and the run goes on; without one it stops, with the operator and its operands
unfoldable pub answer : Kind → Stack → Option Val → Stack → ℕ → Onto
answer kind operands (Some v) s k = At (suc k) (Known v ∷ s)
answer kind operands Nothing s k = Stop (NoResult kind operands)

-- an operator on a stack, its top first; Not answers the opposite of the truth
unfoldable pub apply : Kind → Stack → ℕ → Onto
unfolding answer binop_v neg_v is_true
apply (Binop o) [] k = Stop (Short (Binop o) [])
apply (Binop o) (b ∷ []) k = Stop (Short (Binop o) (b ∷ []))
apply (Binop o) (b ∷ a ∷ s) k = answer (Binop o) (a ∷ b ∷ []) (binop_v o a b) s k
apply Not [] k = Stop (Short Not [])
apply Not (v ∷ s) k = At (suc k) (Known (Truth (not (is_true v))) ∷ s)
apply Minus [] k = Stop (Short Minus [])
apply Minus (v ∷ s) k = answer Minus (v ∷ []) (neg_v v) s k
apply Other s k = Stop Strange

-- JumpIfFalse pops and goes on by truth
unfoldable pub test : ℕ → Stack → ℕ → Onto
unfolding is_true
test t [] k = Stop ShortTest
test t (v ∷ s) k = At (cond (is_true v) (suc k) t) s

-- what an instruction at k does with the stack s: the run goes on somewhere, or it stops
unfoldable pub act : Ins → Stack → ℕ → Onto
unfolding apply test
act (Push v) s k = At (suc k) (v ∷ s)
act (Unread kind w) s k = Stop (NoOperand kind w)
act (Apply kind) s k = apply kind s k
act (Jump t) s k = At t s
act (JumpIfFalse t) s k = test t s k
act Pass s k = At (suc k) s

-- a run from position k with the stack s that ends so; a jump to n or past it ends the run
pub data Run (code : ℕ → Ins) (n : ℕ) : ℕ → Stack → End → Type 0 where
  ends : {k : ℕ} {s : Stack} → n ≤ k → Run code n k s (Left s)
  stops : {k : ℕ} {s : Stack} {e : End} → k < n → act (code k) s k ≡ Stop e → Run code n k s e
  goes : {k j : ℕ} {s t : Stack} {e : End} → k < n → act (code k) s k ≡ At j t → Run code n j t e → Run code n k s e

-- ---- a chunk's instructions

-- a load of a constant; `to_val` makes every NaN one
unfoldable pub push_of : Option Val → ℕ → ℕ → Ins
push_of (Some v) kind w = Push (Known v)
push_of Nothing kind w = Unread kind w

-- an instruction that is no operator: a jump, a load, or an opcode that the machine has not
unfoldable pub plain : ℕ → ℕ → List ℕ → List ℕ → Ins
unfolding push_of
plain o x kinds words =
    cond (eqb o op.Jump) (Jump x)
    (cond (eqb o op.JumpIfFalse) (JumpIfFalse x)
    (cond (eqb o op.LoadConst) (push_of (to_val (get_or kinds x 0) (get_or words x 0)) (get_or kinds x 0) (get_or words x 0))
    (cond (eqb o op.LoadTrue) (Push (Known (Truth true)))
    (cond (eqb o op.LoadFalse) (Push (Known (Truth false)))
    (cond (eqb o op.LoadNone) (Push None) (Apply Other))))))

-- an instruction by what its opcode folds as, its opcode and its operand
unfoldable pub read : Kind → ℕ → ℕ → List ℕ → List ℕ → Ins
unfolding plain
read (Binop b) o x kinds words = Apply (Binop b)
read Not o x kinds words = Apply Not
read Minus o x kinds words = Apply Minus
read Other o x kinds words = plain o x kinds words

-- instruction k of a chunk with these constants
unfoldable pub ins : List ℕ → List ℕ → List ℕ → ℕ → Ins
unfolding read
ins code kinds words k = read (kind_of (op_at code k)) (op_at code k) (operand_at code k) kinds words

-- the jump mark is on just Jump and JumpIfFalse, and a LoadConst names a constant that is there
pub record Plain (code : List ℕ) (constants k : ℕ) : Type 0 where
  pub marks : marks_jump code k ≡ eqb (op_at code k) op.Jump || eqb (op_at code k) op.JumpIfFalse
  pub there : op_at code k ≡ op.LoadConst → operand_at code k < constants
