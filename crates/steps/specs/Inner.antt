-- What only the inside of `steps` needs: contracts of inner functions and proofs cite it, no promise does. Assumes nothing.
use Rattle.std.specs.Prelude.{ℕ, ◌+◌, ◌≤◌, ◌*◌, ◌/◌, ◌%◌, min, ◌≡◌, Bool, ◌&&◌, true, false, cond, not, ◌||◌, List, [], ◌++◌, ltb, eqb}
use Rattle.code.specs.Ins.{ins_at, count}
use Rattle.roles.specs.Sets.{only, from, case_of}
use Rattle.touch.specs.declared.Touch.{Touch}
use Rattle.touch.specs.Touch.{named}
use Rattle.flow.specs.Flow.{Flow}
use Rattle.steps.specs.Code.{set_of, used_at, given_at, after_at}
use Rattle.steps.specs.declared.Step.{Step}
use Rattle.ops.specs.Op.{Jump, ReturnR, PushRegs, StoreTopR, PopTop}
use Rattle.code.specs.declared.Ins.{Ins}
use Rattle.roles.specs.Kinds.{none, jumps, has, Rule, Bits, ByX, FirstAbc, FirstBc, Bare, rule_of, says}
use Rattle.roles.specs.declared.Case.{Case}
use Rattle.roles.specs.declared.Case.TheVariants.{Store, Unpack, Enter, Exit, Judge, Step as For, Plain}
use Rattle.steps.specs.Resume.{resume_of, result_at}

-- what is touched at k of the code is what a row uses and gives up there
pub record TouchesAt (w : List ℕ) (k : ℕ) (t : Touch) : Type 0 where
  pub used : named t.used (ins_at w k).a (ins_at w k).b (ins_at w k).c ≡ used_at w k
  pub given : named t.given (ins_at w k).a (ins_at w k).b (ins_at w k).c ++ from (ins_at w k).b t.run ≡ given_at w k

-- the registers that a step uses
abbrev pub used_of : Step → List ℕ
used_of s = named s.used s.a s.b s.c

-- the registers that a step gives up
abbrev pub given_of : Step → List ℕ
given_of s = named s.given s.a s.b s.c ++ from s.b s.run

-- the positions that come after a step at k: the next if it goes on, and where it jumps if it does
abbrev pub after_of : Step → ℕ → List ℕ
after_of s k = only s.on (k + 1) ++ only s.to s.target

-- the step jumps to before p
abbrev pub goes_before : Step → ℕ → Bool
goes_before s p = s.to && ltb s.target p

-- the step says what the code has at k
pub record StepAt (w : List ℕ) (k : ℕ) (s : Step) : Type 0 where
  pub used : used_of s ≡ used_at w k
  pub given : given_of s ≡ given_at w k
  pub after : after_of s k ≡ after_at w k
  pub inside : s.target ≤ count w

-- the row equation of a step by itself
abbrev pub step_flow : ℕ → Step → Flow
step_flow regs s = record {
  size = 0;
  regs = regs;
  used = λ k. set_of regs (used_of s);
  given_up = λ k. set_of regs (given_of s);
  after = after_of s;
  raises = λ k. [];
}

-- the bits of a rule that asks for nothing else, else 64
abbrev pub bits_of : Rule → ℕ
bits_of (Bits k) = k
bits_of (ByX k l) = 64
bits_of (FirstAbc k) = 64
bits_of (FirstBc k) = 64
bits_of Bare = 64

-- the case in which `role` alone tells the registers
abbrev pub is_plain : Case → Bool
is_plain Store = false
is_plain Unpack = false
is_plain Enter = false
is_plain Exit = false
is_plain Judge = false
is_plain For = false
is_plain Plain = true

-- by `role` alone, by the opcode alone, and never idle
abbrev pub tells : ℕ → Bool
tells o = is_plain (case_of o) && not (eqb o PushRegs) && not (eqb o StoreTopR || eqb o PopTop) && ltb (bits_of (rule_of o)) 64

-- the row after it is not read
abbrev pub row_unread : ℕ → Bool
row_unread o = eqb o ReturnR || eqb o Jump

-- the bits of `kinds`, none for no role, and 32 more for what stops
abbrev pub told : ℕ → Bool → ℕ
told kind stop = cond (has none kind) 0 kind + cond stop 32 0

-- what an opcode alone tells of its step, in the bits of `told`; 64 where it does not tell all
unfoldable pub calm_of : ℕ → ℕ
calm_of o = cond (tells o) (told (bits_of (rule_of o)) (row_unread o)) 64

-- the step of an instruction whose opcode tells the bits m, where it just goes on to the next
abbrev pub calm_step : Ins → ℕ → Step
calm_step i m =
    record { a = i.a; b = i.b; c = i.c; used = m / 2 % 8 * 2; given = m % 2 * 2; run = 0; on = true; to = false; target = 0 }

-- the step of an instruction whose opcode tells the bits m, in code of n instructions: it may stop or jump
abbrev pub turn_step : Ins → ℕ → ℕ → Step
turn_step i m n =
    record {
      a = i.a;
      b = i.b;
      c = i.c;
      used = m / 2 % 8 * 2;
      given = m % 2 * 2;
      run = 0;
      on = not (has 32 m);
      to = has jumps m;
      target = min i.a n;
    }

-- what a rule says where a is 0, at x of 0, 1, 2, 3 and 4 or more: a byte for each, from the lowest on
unfoldable pub packed : Rule → ℕ
packed r = says r 0 0 + 256 * (says r 1 0 + 256 * (says r 2 0 + 256 * (says r 3 0 + 256 * says r 4 0)))

-- what an opcode's rule says where a is 0, a byte for each x
unfoldable pub word_of : ℕ → ℕ
word_of o = packed (rule_of o)

-- where the level at k goes on, and its result register
pub record Goes (w : List ℕ) (k at result : ℕ) : Type 0 where
  pub resumes : at ≡ resume_of w k
  pub results : result ≡ result_at w k
