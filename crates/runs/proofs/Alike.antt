-- Two instructions of one opcode read the same where their operands do. Assumes nothing.
use Prim.Native.Nat.{ℕ}
use mathlib.Core.Path.{◌≡◌, refl, ap}
use mathlib.Core.Bool.{Bool, true, false, cond, ◌||◌}
use mathlib.Core.List.{List}
use lib.Dec.{eqb}
use lib.ListN.{get_or}
use borrow.Author.Tests.{eqb-true}
use Rattle.ops.specs.Op as op
use Rattle.pool.specs.Pool.{to_val}
use Rattle.fold.specs.declared.Kind.{Kind}
use Rattle.fold.specs.declared.Kind.TheVariants.{Binop, Not, Minus, Other}
use Rattle.runs.specs.Machine.{Ins, Jump, JumpIfFalse, push_of, plain, read}

-- the entry at x' of one pool is the entry at x of the other
pub record SameEntry (kinds words : List ℕ) (x : ℕ) (kinds' words' : List ℕ) (x' : ℕ) : Type 0 where
  pub kind : get_or kinds' x' 0 ≡ get_or kinds x 0
  pub word : get_or words' x' 0 ≡ get_or words x 0

module _ (o x x' : ℕ) (kinds words kinds' words' : List ℕ) (goal : eqb o op.Jump || eqb o op.JumpIfFalse ≡ true → x' ≡ x)
    (entry : o ≡ op.LoadConst → SameEntry kinds words x kinds' words' x') where
  plain_both : plain o x' kinds' words' ≡ plain o x kinds words
  unfolding plain
  plain_both = go (eqb o op.Jump) (eqb o op.JumpIfFalse) (eqb o op.LoadConst) refl goal _
    where
      go : (a b c : Bool) → eqb o op.LoadConst ≡ c → (a || b ≡ true → x' ≡ x) → (l : Ins)
          → cond a (Jump x')
          (cond b (JumpIfFalse x') (cond c (push_of (to_val (get_or kinds' x' 0) (get_or words' x' 0)) (get_or kinds' x' 0) (get_or words' x' 0)) l))
          ≡ cond a (Jump x)
          (cond b (JumpIfFalse x) (cond c (push_of (to_val (get_or kinds x 0) (get_or words x 0)) (get_or kinds x 0) (get_or words x 0)) l))
      go true b c e h l = ap Jump (h refl)
      go false true c e h l = ap JumpIfFalse (h refl)
      go false false true e h l = let s = entry (eqb-true o op.LoadConst e) in rw (s.kind, s.word) refl
      go false false false e h l = refl

  pub read_both : (kind : Kind) → read kind o x' kinds' words' ≡ read kind o x kinds words
  unfolding read
  read_both (Binop b) = refl
  read_both Not = refl
  read_both Minus = refl
  read_both Other = plain_both
