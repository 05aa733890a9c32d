-- An instruction of a lent chunk, and its record rules: document 01, 'What is lent'. Assumes nothing.
use Rattle.std.specs.Prelude.{ℕ, ◌+◌, ◌*◌, ◌%◌, ◌/◌, Bool, not, ◌&&◌, ◌||◌, List, eqb, ltb, leb, get_or, length}
use Rattle.ops.specs.Op.{last, LoadConst, Phi, Add, Sub, Mul, Div, Mod, FloorDiv, Eq, NotEq, Lt, Gt, LtEq, GtEq, BitAnd, BitOr, BitXor, Shl, Shr, Not, Minus}

-- four words an instruction: opcode, marks, operand, origin
abbrev pub stride : ℕ
stride = 4

-- n, how many there are
abbrev pub chunk_count : List ℕ → ℕ
chunk_count w = length w / stride

-- the opcode of instruction k
abbrev pub op_at : List ℕ → ℕ → ℕ
op_at w k = get_or w (stride * k) 0

-- the marks of instruction k
abbrev pub mark_at : List ℕ → ℕ → ℕ
mark_at w k = get_or w (stride * k + 1) 0

-- the operand of instruction k
abbrev pub operand_at : List ℕ → ℕ → ℕ
operand_at w k = get_or w (stride * k + 2) 0

-- the position in the script as it was first compiled: the host sets it, nothing reads it
abbrev pub origin_at : List ℕ → ℕ → ℕ
origin_at w k = get_or w (stride * k + 3) 0

-- mark bit 0, `is_jump`
abbrev pub marks_jump : List ℕ → ℕ → Bool
marks_jump w k = eqb (mark_at w k % 2) 1

-- a jump at k into (p, i]
unfoldable pub lands : List ℕ → ℕ → ℕ → ℕ → Bool
lands w p i k = marks_jump w k && (ltb p (operand_at w k) && leb (operand_at w k) i)

-- mark bit 1, 'names a constant'
abbrev pub names : List ℕ → ℕ → Bool
names w k = eqb (mark_at w k / 2 % 2) 1

-- instruction k is a Phi
abbrev pub is_phi : List ℕ → ℕ → Bool
is_phi w k = eqb (op_at w k) Phi

-- the folding operators
unfoldable pub folds : ℕ → Bool
folds o =
    eqb o Add || eqb o Sub || eqb o Mul || eqb o Div || eqb o Mod || eqb o FloorDiv || eqb o Eq || eqb o NotEq || eqb o Lt || eqb o Gt || eqb o LtEq
    || eqb o GtEq
    || eqb o BitAnd
    || eqb o BitOr
    || eqb o BitXor
    || eqb o Shl
    || eqb o Shr
    || eqb o Not
    || eqb o Minus

-- the jump mark is not on LoadConst, Phi or a folding operator
abbrev pub jump_kept : ℕ → Bool → Bool
jump_kept o jump = not jump || not (eqb o LoadConst || eqb o Phi || folds o)

-- 'names a constant' is not missing on LoadConst, nor set on a jump, a Phi or a folding operator
abbrev pub names_kept : ℕ → Bool → Bool → Bool
names_kept o jump named = (not (eqb o LoadConst) || named) && (not named || not (jump || eqb o Phi || folds o))

-- opcode known, marks only bits 0 and 1, and each of the two marks as above
unfoldable pub chunk_rules : ℕ → ℕ → Bool
chunk_rules o marks = leb o last && leb marks 3 && jump_kept o (eqb (marks % 2) 1) && names_kept o (eqb (marks % 2) 1) (eqb (marks / 2 % 2) 1)

-- instruction k breaks a record rule
abbrev pub breaks_at : List ℕ → ℕ → Bool
breaks_at w k = not (chunk_rules (op_at w k) (mark_at w k))
