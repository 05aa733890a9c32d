-- What an instruction by itself touches, as masks over its fields: one answer for rows, `writes` and `params_written`. Assumes nothing.
use Rattle.std.specs.Prelude.{ℕ, ◌*◌, ◌/◌, ◌%◌, cond, not, List, ◌++◌, eqb}
use Rattle.code.specs.declared.Ins.{Ins}
use Rattle.roles.specs.Kinds.{a, b, c, none, has, abc, first_of, kinds_of}
use Rattle.roles.specs.Sets.{only, case_of, written}
use Rattle.roles.specs.declared.Case.{Case}
use Rattle.roles.specs.declared.Case.TheVariants.{Store, Unpack, Enter, Exit, Judge, Step, Plain}
use Rattle.touch.specs.declared.Touch.{Touch}

-- those of three fields that a mask names
abbrev pub named : ℕ → ℕ → ℕ → ℕ → List ℕ
named mask p q r = only (has a mask) p ++ only (has b mask) q ++ only (has c mask) r

-- the fields used, given up and written, and how many registers from b on are given up and written besides
abbrev pub touch : ℕ → ℕ → ℕ → ℕ → Touch
touch used given written run = record { used = used; given = given; written = written; run = run }

-- what `kinds` tells: the fields read, and a if it is written; no role, nothing
unfoldable pub plain_of : ℕ → Touch
plain_of kind = cond (has none kind) (touch 0 0 0 0) (touch (kind / 2 % 8 * 2) (kind % 2 * 2) (kind % 2 * 2) 0)

-- case by case
abbrev pub touch_by : Case → Ins → Touch
touch_by Store i = touch 0 a (cond (eqb i.x 0) a 0) 0
touch_by Unpack i = touch 0 (first_of abc i.x) (first_of abc i.x) 0
touch_by Enter i = touch (cond (eqb i.x 2) c 0) 0 0 (cond (not (eqb i.x 0)) 2 0)
touch_by Exit i = touch 0 0 0 (cond (not (eqb i.x 0)) 5 0)
touch_by Judge i = touch (cond (eqb i.x 1) a 0) 0 0 0
touch_by Step i = touch (cond (eqb i.x 0) b 0) 0 (cond (eqb i.x 0) b 0) 0
touch_by Plain i = plain_of (kinds_of i)

-- what an instruction by itself uses, gives up and writes, as masks over its fields
unfoldable pub touch_of : Ins → Touch
touch_of i = touch_by (case_of i.op) i

-- written, as `writes` has it
unfoldable pub written_by : Ins → List ℕ
written_by i = written (case_of i.op) i
