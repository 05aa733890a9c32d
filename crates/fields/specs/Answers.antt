-- What the calls answer that ask of the instruction at a position: refusals 1, 2, 6, else the value. Assumes nothing.
use Rattle.std.specs.Prelude.{ℕ, ◌/◌, ◌%◌, cond, List}
use mir.Val.{bool_byte}
use Rattle.code.specs.Ins.{ins_at}
use Rattle.code.specs.Check.{check_of}
use Rattle.refusals.specs.Stages.{inside_of}
use Rattle.refusals.specs.Answers.{asked, answer_of, refused_of}
use Rattle.refusals.specs.declared.Answer.{Answer}
use Rattle.roles.specs.Kinds.{dest, jumps, none, has, kinds_of, field_of}
use Rattle.roles.specs.Sets.{writes}
use Rattle.touch.specs.Touch.{touch_of}
use Rattle.touch.specs.declared.Touch.{Touch}

-- `kinds` at a position: the bits
unfoldable pub kinds_answer : List ℕ → ℕ → Answer
kinds_answer w k = asked (inside_of (check_of w) k) refused_of (answer_of (kinds_of (ins_at w k)) 0 0 0)

-- `role` by `kinds`: 1, whether a is written, which fields are read (bit 0 a, 1 b, 2 c), whether a is a jump's target; without a role 0
abbrev pub role_told : ℕ → Answer
role_told k = cond (has none k) (answer_of 0 0 0 0) (answer_of 1 (bool_byte (has dest k)) (k / 2 % 8) (bool_byte (has jumps k)))

-- `role` at a position
unfoldable pub role_answer : List ℕ → ℕ → Answer
role_answer w k = asked (inside_of (check_of w) k) refused_of (role_told (kinds_of (ins_at w k)))

-- `field` at a position: the word
unfoldable pub field_answer : List ℕ → ℕ → ℕ → Answer
field_answer w k f = asked (inside_of (check_of w) k) refused_of (answer_of (field_of (ins_at w k) f) 0 0 0)

-- `writes` at a position: 1 if r is written, else 0
unfoldable pub writes_answer : List ℕ → ℕ → ℕ → Answer
writes_answer w k r = asked (inside_of (check_of w) k) refused_of (answer_of (bool_byte (writes (ins_at w k) r)) 0 0 0)

-- the fields used, given up and written (bit 0 a, 1 b, 2 c), and how many registers from b on are given up and written besides
abbrev pub touch_told : Touch → Answer
touch_told t = answer_of (t.used / 2) (t.given / 2) (t.written / 2) t.run

-- `touched` at a position
unfoldable pub touch_answer : List ℕ → ℕ → Answer
touch_answer w k = asked (inside_of (check_of w) k) refused_of (touch_told (touch_of (ins_at w k)))
