-- `kinds` and `field` of block.rs: a page of rules by opcode. Assumes nothing.
use Rattle.std.specs.Prelude.{ℕ, ◌+◌, ◌/◌, ◌%◌, Bool, cond, not, ◌&&◌, List, [], ◌∷◌, eqb, take}
use Rattle.ops.specs.Op.{Jump, JumpIfFalseR, JumpUnlessLt, JumpUnlessLtEq, JumpUnlessGt, JumpUnlessGtEq, JumpUnlessEq, JumpUnlessNotEq, ReturnR, PopTop}
use Rattle.ops.specs.Op.{PushRegs, StoreTopR, LoadGlobalR, LoadGlobalAtR, UnbindR, UnpackR, SuperR, WrapCellR, CallValueR, Move, MinusR, NotR, AddR}
use Rattle.ops.specs.Op.{InPlaceAddR, SubR, InPlaceSubR, MulR, DivR, ModR, FloorDivR, BitAndR, BitOrR, BitXorR, ShlR, ShrR, LtR, LtEqR, GtR, GtEqR, EqR, NotEqR}
use Rattle.ops.specs.Op.{IsR, IsNotR, PowR, InR, NotInR, GetItemR, LenR, GetAttrR, LoadCellR, StoreCellR, StoreItemR, SetAttrR, StoreGlobalR, StoreGlobalAtR}
use Rattle.ops.specs.Op.{CallGlobalR, CallR, CallMethodR, CallSpreadR, ArgsR, Raise, AppendR, OwnResetR, ListAppendR, SetAddR, MapAddR, ListPushR, ForIterR}
use Rattle.ops.specs.Op.{ForIter, JumpIfFalse, JumpIfFalseOrPop, JumpIfTrueOrPop, Del}
use Rattle.laws.specs.Page.{Row, ◌↝◌, look}
use Rattle.code.specs.declared.Ins.{Ins}

-- the bits: a written, a, b, c read, a jump to a, no role
abbrev pub dest : ℕ
dest = 1

-- the bit that says 'a is read'
abbrev pub a : ℕ
a = 2

-- the bit that says 'b is read'
abbrev pub b : ℕ
b = 4

-- the bit that says 'c is read'
abbrev pub c : ℕ
c = 8

-- the bit that says 'a is where a jump goes'
abbrev pub jumps : ℕ
jumps = 16

-- the bit that says 'no role'
abbrev pub none : ℕ
none = 32

-- a, b and c in order, as bits
abbrev pub abc : List ℕ
abc = a ∷ b ∷ c ∷ []

-- b and c in order, as bits
abbrev pub bc : List ℕ
bc = b ∷ c ∷ []

-- some bits as one number
abbrev pub total : List ℕ → ℕ
total [] = 0
total (x ∷ xs) = x + total xs

-- the first n of the fields
abbrev pub first_of : List ℕ → ℕ → ℕ
first_of fields n = total (take n fields)

-- what an opcode's rule says: these bits; the first where x is 0, else the second; the first x + k of a, b, c, or of b, c; no bits where a and x are 0, else no
-- role
pub data Rule : Type 0 where
  Bits : ℕ → Rule
  ByX : ℕ → ℕ → Rule
  FirstAbc : ℕ → Rule
  FirstBc : ℕ → Rule
  Bare : Rule

-- a rule at x and a
abbrev pub says : Rule → ℕ → ℕ → ℕ
says (Bits k) x f = k
says (ByX k l) x f = cond (eqb x 0) k l
says (FirstAbc k) x f = first_of abc (x + k)
says (FirstBc k) x f = first_of bc (x + k)
says Bare x f = cond (eqb f 0 && eqb x 0) 0 none

-- the rules, in the order of the Rust's match
unfoldable pub page : List (Row Rule)
page =
    ((Jump ∷ ForIter ∷ JumpIfFalse ∷ JumpIfFalseOrPop ∷ JumpIfTrueOrPop ∷ []) ↝ Bits jumps)
    ∷ ((JumpIfFalseR ∷ []) ↝ Bits (b + jumps))
    ∷ ((JumpUnlessLt ∷ JumpUnlessLtEq ∷ JumpUnlessGt ∷ JumpUnlessGtEq ∷ JumpUnlessEq ∷ JumpUnlessNotEq ∷ []) ↝ Bits (b + c + jumps))
    ∷ ((ReturnR ∷ StoreGlobalR ∷ StoreGlobalAtR ∷ []) ↝ Bits b)
    ∷ ((PopTop ∷ CallValueR ∷ []) ↝ Bits 0)
    ∷ ((PushRegs ∷ []) ↝ FirstAbc 0)
    ∷ ((StoreTopR ∷ []) ↝ ByX dest none)
    ∷ ((LoadGlobalR ∷ LoadGlobalAtR ∷ UnbindR ∷ UnpackR ∷ []) ↝ Bits dest)
    ∷ ((WrapCellR ∷ []) ↝ Bits (dest + a))
    ∷ ((Move ∷ MinusR ∷ NotR ∷ LenR ∷ GetAttrR ∷ LoadCellR ∷ []) ↝ Bits (dest + b))
    ∷ ((AddR ∷ InPlaceAddR ∷ SubR ∷ InPlaceSubR ∷ MulR ∷ DivR ∷ ModR ∷ FloorDivR ∷ BitAndR ∷ BitOrR ∷ BitXorR ∷ ShlR ∷ ShrR ∷ LtR ∷ LtEqR ∷ GtR ∷ GtEqR ∷ EqR
    ∷ NotEqR ∷ IsR ∷ IsNotR ∷ PowR ∷ InR ∷ NotInR ∷ GetItemR ∷ SuperR ∷ []) ↝ Bits (dest + b + c))
    ∷ ((StoreCellR ∷ SetAttrR ∷ CallSpreadR ∷ ListPushR ∷ []) ↝ Bits (a + b))
    ∷ ((StoreItemR ∷ ArgsR ∷ []) ↝ Bits (a + b + c))
    ∷ ((CallGlobalR ∷ []) ↝ FirstBc 0)
    ∷ ((CallR ∷ []) ↝ FirstAbc 1)
    ∷ ((CallMethodR ∷ []) ↝ FirstBc 1)
    ∷ ((Raise ∷ []) ↝ Bare)
    ∷ ((AppendR ∷ []) ↝ Bits (dest + a + b))
    ∷ ((OwnResetR ∷ []) ↝ Bits a)
    ∷ ((ListAppendR ∷ SetAddR ∷ MapAddR ∷ []) ↝ Bits (b + c))
    ∷ ((ForIterR ∷ []) ↝ ByX (b + jumps) none)
    ∷ ((Del ∷ []) ↝ ByX dest 0)
    ∷ []

-- the rule of an opcode; an opcode that the page does not name has no role
unfoldable pub rule_of : ℕ → Rule
unfolding page
rule_of o = look (Bits none) o page

-- `kinds` of an instruction
unfoldable pub kinds_of : Ins → ℕ
kinds_of i = says (rule_of i.op) i.x i.a

-- bit m of `kinds`
abbrev pub has : ℕ → ℕ → Bool
has m k = eqb (k / m % 2) 1

-- the instruction has a role
unfoldable pub has_role : Ins → Bool
has_role i = not (has none (kinds_of i))

-- it has one, and a is a jump's target
unfoldable pub is_jump : Ins → Bool
is_jump i = eqb (kinds_of i / 16 % 4) 1

-- `field`: a, b, and for any higher f c
abbrev pub field_of : Ins → ℕ → ℕ
field_of i f = cond (eqb f 0) i.a (cond (eqb f 1) i.b i.c)
