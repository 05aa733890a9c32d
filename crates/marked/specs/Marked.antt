-- Document 01's marked examples: P1 to P13 as one table, over the definitions that the contracts cite. Assumes nothing.
use Rattle.std.specs.Prelude.{ℕ, suc, ◌+◌, ◌-◌, ◌^◌, ◌≡◌, Bool, true, false, List, [], ◌∷◌, ◌++◌, length, replicate}
use Rattle.ops.specs.Op as op
use Rattle.code.specs.Ins.{count}
use Rattle.refusals.specs.Answers.{answer_of}
use Rattle.refusals.specs.declared.Refusal.TheVariants.{Try}
use Rattle.kept.specs.Answers as call
use Rattle.kept.specs.declared.KeptAnswer.TheVariants as kept
use Rattle.callee.specs.Answers.{global_answer}
use Rattle.chunk.specs.Chunk as chunk
use Rattle.optimizer.specs.Fold.{buffers, FoldOutcome, fold_outcome, fold_call, FoldAnswer}
use Rattle.std.specs.declared.result.Result.TheVariants.{Ok}

-- an instruction without marks: opcode, a, b, c, x
abbrev pub plain_ins : ℕ → ℕ → ℕ → ℕ → ℕ → List ℕ
plain_ins o a b c x = o ∷ 0 ∷ a ∷ b ∷ c ∷ x ∷ []

-- code K
abbrev pub K : List ℕ
K = plain_ins op.LoadGlobalR 0 7 0 0 ++ plain_ins op.LoadGlobalR 1 9 0 0 ++ plain_ins op.CallR 1 0 0 0 ++ plain_ins op.StoreTopR 2 0 0 0 ++ plain_ins op.AddR 3 0 2 0
    ++ plain_ins op.ReturnR 0 3 0 0

-- the rows of K, from 0 to n
abbrev pub rows_k : List ℕ
rows_k = 0 ∷ 0 ∷ 3 ∷ 1 ∷ 5 ∷ 8 ∷ 0 ∷ []

-- the codes of P4, P5 and P6
abbrev pub code4 : List ℕ
code4 = plain_ins op.JumpIfFalseR 2 0 0 0 ++ plain_ins op.ReturnR 0 1 0 0 ++ plain_ins op.ReturnR 0 2 0 0

-- the code of P5: a loop whose jump goes back to before its first level
abbrev pub code5 : List ℕ
code5 = plain_ins op.Move 1 0 0 0 ++ plain_ins op.LenR 2 1 0 0 ++ plain_ins op.JumpIfFalseR 4 1 0 0 ++ plain_ins op.Jump 0 0 0 0 ++ plain_ins op.ReturnR 0 2 0 0

-- the code of P6: a call over a pending value, which the second store takes back
abbrev pub code6 : List ℕ
code6 = plain_ins op.PushRegs 5 0 0 1 ++ plain_ins op.CallGlobalR 3 0 0 0 ++ plain_ins op.StoreTopR 1 0 0 0 ++ plain_ins op.StoreTopR 5 0 0 0
    ++ plain_ins op.ReturnR 0 5 0 0

-- a buffer as it is lent: so many words, all 9
abbrev pub room : ℕ → List ℕ
room m = replicate m 9

-- the kept-register call leaves these rows, keeps this list at k, which is the only level, and tells these counts of full and of abandoned sweeps
abbrev pub CallKeeps : ℕ → List ℕ → List ℕ → List ℕ → ℕ → List ℕ → ℕ → ℕ → Type 0
CallKeeps regs w tries rows k list full abandoned =
    call.Outcome 64 w regs tries false (room (length rows)) (room (suc (count w))) (room (length list))
    rows (replicate (suc k) 0 ++ replicate (count w - k) (length list)) list (kept.Is (length list) full abandoned)

-- it refuses the first try, whatever is lent, and leaves all buffers untouched
abbrev pub RefusesTry : ℕ → List ℕ → List ℕ → Type 0
RefusesTry regs w tries = (rows offsets list : List ℕ) → call.Outcome 64 w regs tries false rows offsets list rows offsets list (kept.No (Try 0))

-- an instruction of a chunk: a LoadConst, which names a constant, an operator without a mark, and a jump
abbrev pub load : ℕ → List ℕ
load x = op.LoadConst ∷ 2 ∷ x ∷ 0 ∷ []

-- an operator, without a mark
abbrev pub operator : ℕ → List ℕ
operator o = o ∷ 0 ∷ 0 ∷ 0 ∷ []

-- a Jump to x, with the jump mark
abbrev pub jump : ℕ → List ℕ
jump x = op.Jump ∷ 1 ∷ x ∷ 0 ∷ []

-- the folding call over this code and these constants, so many of them; no Phi, no position pair, no try
abbrev pub folded_call : Bool → List ℕ → List ℕ → List ℕ → ℕ → FoldOutcome FoldAnswer
folded_call strict code kinds words constants =
    (fold_call strict (buffers code kinds words (room (chunk.chunk_count code)) [] [] [] (room (chunk.chunk_count code)) (room (chunk.chunk_count code + 1))) []
    (room (chunk.chunk_count code + 1))
    (record { constants = constants; map = 0; sources = 0; stmts = 0; calls = 0 })).result

-- it leaves so many instructions and constants, and the buffers so
abbrev pub leaves_so : ℕ → ℕ → (code kinds words map dead remap : List ℕ) → FoldOutcome FoldAnswer
leaves_so instructions constants code kinds words map dead remap =
    fold_outcome (Ok (record { instructions = instructions; constants = constants; map = 0; sources = 0 }))
    (buffers code kinds words map [] [] [] dead remap)

-- a constant: its kind and its word
abbrev pub Constant : Type 0
Constant = ℕ × ℕ

-- an int from 0 up, the int −n, and a float by its bits
abbrev pub int : ℕ → Constant
int n = (1, n)

-- the int −n, its word in two's complement
abbrev pub negative : ℕ → Constant
negative n = (1, 2 ^ 64 - n)

-- the float with these bits
abbrev pub float : ℕ → Constant
float bits = (2, bits)

-- two constants and an operator over them, in a chunk with room for a third
abbrev pub binary : ℕ → List ℕ
binary o = load 0 ++ load 1 ++ operator o

-- an operator over these two constants, folded in plain mode
abbrev pub folding : ℕ → Constant → Constant → FoldOutcome FoldAnswer
folding o a b = folded_call false (binary o) (a.0 ∷ b.0 ∷ 9 ∷ []) (a.1 ∷ b.1 ∷ 9 ∷ []) 2

-- it becomes one LoadConst of a third constant
abbrev pub Becomes : ℕ → Constant → Constant → Constant → Type 0
Becomes o a b r = folding o a b ≡ leaves_so 1 3 (load 2 ++ replicate 8 0) (a.0 ∷ b.0 ∷ r.0 ∷ []) (a.1 ∷ b.1 ∷ r.1 ∷ []) (replicate 3 0) (0 ∷ 1 ∷ 1 ∷ [])
    (0 ∷ 1 ∷ 1 ∷ 1 ∷ [])

-- it becomes one LoadConst of its first operand, which the result equals
abbrev pub BecomesFirst : ℕ → Constant → Constant → Type 0
BecomesFirst o a b = folding o a b ≡ leaves_so 1 2 (load 0 ++ replicate 8 0) (a.0 ∷ b.0 ∷ 9 ∷ []) (a.1 ∷ b.1 ∷ 9 ∷ []) (replicate 3 0) (0 ∷ 1 ∷ 1 ∷ [])
    (0 ∷ 1 ∷ 1 ∷ 1 ∷ [])

-- it stays: all as lent, and no mark of death
abbrev pub Stays : ℕ → Constant → Constant → Type 0
Stays o a b = folding o a b ≡ leaves_so 3 2 (binary o) (a.0 ∷ b.0 ∷ 9 ∷ []) (a.1 ∷ b.1 ∷ 9 ∷ []) (room 3) (replicate 3 0) (room 4)

-- Minus over one constant, in a chunk with room for a second
abbrev pub negation : List ℕ
negation = load 0 ++ operator op.Minus

-- the code of P13
abbrev pub code13 : List ℕ
code13 = load 0 ++ load 1 ++ operator op.Add ++ jump 2

-- P1 to P13, and P2 once more with a handler that reads the result register, each computed from the definitions
pub record Marked : Type 0 where
  -- rows of K: 0, 0, 3, 1, 5, 8, 0; kept at 2: [0]; callee binding 9; one sweep
  pub p1 : CallKeeps 4 K [] rows_k 2 (0 ∷ []) 1 0 × (global_answer K 2 ≡ answer_of 1 9 0 0)
  -- K with try (1, 5): [0, 3]
  pub p2 : CallKeeps 4 K (1 ∷ 5 ∷ []) rows_k 2 (0 ∷ 3 ∷ []) 1 0
  -- K with try (1, 4), whose handler reads the result register: [0, 2]
  pub p2' : CallKeeps 4 K (1 ∷ 4 ∷ []) rows_k 2 (0 ∷ 2 ∷ []) 1 0
  -- with (2, 5): [0]. (3, 2) is refused, (6, 9) is not
  pub p3 : CallKeeps 4 K (2 ∷ 5 ∷ []) rows_k 2 (0 ∷ []) 1 0 × RefusesTry 4 K (3 ∷ 2 ∷ []) × CallKeeps 4 K (6 ∷ 9 ∷ []) rows_k 2 (0 ∷ []) 1 0
  -- [0, 1, 2] at 64 and 65
  pub p4 : CallKeeps 64 code4 [] (7 ∷ 2 ∷ 4 ∷ 0 ∷ []) 0 (0 ∷ 1 ∷ 2 ∷ []) 1 0 × CallKeeps 65 code4 [] (7 ∷ 0 ∷ 2 ∷ 0 ∷ 4 ∷ 0 ∷ 0 ∷ 0 ∷ []) 0 (0 ∷ 1 ∷ 2 ∷ []) 1 0
  -- rows 1, 3, 7, 1, 4, 0; three full sweeps, one abandoned
  pub p5 : CallKeeps 3 code5 [] (1 ∷ 3 ∷ 7 ∷ 1 ∷ 4 ∷ 0 ∷ []) 2 (0 ∷ 1 ∷ 2 ∷ []) 3 1
  -- kept at 1 is [5]
  pub p6 : CallKeeps 6 code6 [] (0 ∷ 32 ∷ 32 ∷ 32 ∷ 32 ∷ 0 ∷ []) 1 (5 ∷ []) 1 0
  -- −7 FloorDiv 2 is −4, Mod 1; 7 Mod −2 is −1
  pub p7 : Becomes op.FloorDiv (negative 7) (int 2) (negative 4) × Becomes op.Mod (negative 7) (int 2) (int 1) × Becomes op.Mod (int 7) (negative 2)
      (negative 1)
  -- −1 Shl 47 folds, 1 Shl 47 doesn't
  pub p8 : Becomes op.Shl (negative 1) (int 47) (negative 140_737_488_355_328) × Stays op.Shl (int 1) (int 47)
  -- 0 Shl 62 folds, 63 doesn't
  pub p9 : BecomesFirst op.Shl (int 0) (int 62) × Stays op.Shl (int 0) (int 63)
  -- Minus on the least int doesn't
  pub p10 : folded_call false negation (1 ∷ 9 ∷ []) ((negative 140_737_488_355_328).1 ∷ 9 ∷ []) 1
      ≡ leaves_so 2 1 negation (1 ∷ 9 ∷ []) ((negative 140_737_488_355_328).1 ∷ 9 ∷ []) (room 2) (replicate 2 0) (room 3)
  -- 7 Div 2 stays; 7 Div 2.0 is 3.5
  pub p11 : Stays op.Div (int 7) (int 2) × Becomes op.Div (int 7) (float 0x4000_0000_0000_0000) (float 0x400c_0000_0000_0000)
  -- Minus on 0.0 pushes a second constant
  pub p12 : folded_call false negation (2 ∷ 9 ∷ []) (0 ∷ 9 ∷ []) 1
      ≡ leaves_so 1 2 (load 1 ++ replicate 4 0) (2 ∷ 2 ∷ []) (0 ∷ 0x8000_0000_0000_0000 ∷ []) (0 ∷ 0 ∷ []) (0 ∷ 1 ∷ []) (0 ∷ 1 ∷ 1 ∷ [])
  -- pool 2 and 3: becomes LoadConst 2; jump 1. In strict mode nothing folds
  pub p13 : (folded_call false code13 (1 ∷ 1 ∷ 9 ∷ []) (2 ∷ 3 ∷ 9 ∷ []) 2
      ≡ leaves_so 2 3 (load 2 ++ jump 1 ++ replicate 8 0) (1 ∷ 1 ∷ 1 ∷ []) (2 ∷ 3 ∷ 5 ∷ []) (replicate 4 0) (0 ∷ 1 ∷ 1 ∷ 0 ∷ []) (0 ∷ 1 ∷ 1 ∷ 1 ∷ 2 ∷ []))
      × (folded_call true code13 (1 ∷ 1 ∷ 9 ∷ []) (2 ∷ 3 ∷ 9 ∷ []) 2
      ≡ leaves_so 4 2 code13 (1 ∷ 1 ∷ 9 ∷ []) (2 ∷ 3 ∷ 9 ∷ []) (room 4) (replicate 4 0) (room 5))
