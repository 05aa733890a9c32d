-- The call's parts put together, by the laws of the kept-register call. Assumes nothing.
use mathlib.Core.Path.{◌≡◌, refl, sym, ap, ◌∙◌, subst}
use mathlib.Core.Bool.{Bool, false, cond}
use mathlib.Core.List.{List, ◌++◌}
use Prim.Native.Nat.{ℕ, suc, ◌+◌, ◌*◌, ◌^◌, ◌≤◌, ◌<◌}
use native.Mathlib.Nat.{le_refl, mul-one}
use native.Mathlib.Omega.{arith}
use borrow.Author.Tests.{lt-ltb, le-ltb}
use mir.Syntax.{w64}
use mir.Val.{Fits}
use lib.Dec.{ltb}
use lib.ListN.{length, take, drop}
use lib.Seq.{take_all}
use Rattle.code.specs.Ins.{count}
use Rattle.code.specs.Inner.{Valid}
use Rattle.refusals.specs.Stages.{Checked}
use Rattle.std.specs.declared.result.Result.TheVariants.{Ok, Err}
use Rattle.refusals.specs.declared.Refusal.{Refusal}
use Rattle.refusals.specs.declared.Refusal.TheVariants.{Short}
use Rattle.flow.specs.Flow.{Flow}
use Rattle.flow.specs.Sweep.{row, Found}
use Rattle.flow.specs.Words.{rows_of, Small}
use Rattle.flow.proofs.Answer.{found_regs}
use Rattle.flow.proofs.Buffer.{rows_one}
use Rattle.steps.specs.Level.{first_level}
use Rattle.steps.specs.Code.{used_at}
use Rattle.rows.specs.Route.{words_for, route_start, rows_in}
use Rattle.rows.proofs.Routes.{words_few}
use Rattle.sets.proofs.Sets.{set_lt}
use Rattle.kept.specs.Lists.{lists_to}
use Rattle.kept.specs.Inner.{Width, LevelsRoom, Filled}
use Rattle.kept.specs.Answers.{stages_of}
use Rattle.kept.specs.declared.KeptAnswer.TheVariants.{Is, No}
use Rattle.kept.proofs.Calls as kept
use Rattle.kept.proofs.Demand.{inside}
use Rattle.kept.proofs.Tests.{accepted_few, accepted_valid}
use Rattle.nested.specs.Raising.{raising, mays, begins_at}
use Rattle.raises.specs.Inner.{RaisingOutcome}

width : Width 64 16
width = record { some = omega arith; more = omega arith; few = omega arith; span = refl }

-- ---- which route is taken

module _ (regs : ℕ) (l : regs ≤ 64) where
  small : ltb 64 regs ≡ false
  small = le-ltb 64 regs l

  one_word : words_for 64 regs ≡ 1
  one_word = omega (arith, words_few 64 regs (words_for 64 regs) refl 1 (omega arith) (omega arith) (omega arith))

  pub near_room : (k len : ℕ) → len ≡ k * words_for 64 regs → len ≡ k
  near_room k len h = h ∙ ap (λ (x : ℕ). k * x) one_word ∙ mul-one k

  pub by_near : (f : Flow) (w rows rows₀ : List ℕ) (full lost : ℕ) → length rows ≡ length rows₀ → length rows₀ ≡ suc (count w) * words_for 64 regs
      → Found f (first_level w) rows full lost → Found f (begins_at regs w) (rows_in 64 regs w rows) full lost
  unfolding route_start
  by_near f w rows rows₀ full lost h h₀ p =
      subst (λ (x : List ℕ). Found f (cond (ltb 64 regs) 0 (first_level w)) x full lost) same
      (subst (λ (x : ℕ). Found f x rows full lost) (sym (ap (λ (t : Bool). cond t 0 (first_level w)) small)) p)
    where
      long : length rows ≡ suc (count w)
      long = near_room (suc (count w)) (length rows) (h ∙ h₀)

      same : rows ≡ rows_in 64 regs w rows
      same = sym (ap (λ (x : ℕ). rows_of 64 x (suc (count w)) rows) one_word ∙ rows_one 64 (suc (count w)) rows (omega (arith, long))
          ∙ take_all (suc (count w)) rows (omega (arith, long)))

pub by_far : (regs m : ℕ) (f : Flow) (w rows : List ℕ) (full : ℕ) → 64 < regs → m ≡ words_for 64 regs → Found f 0 (rows_of 64 m (suc (count w)) rows) full 0
    → Found f (begins_at regs w) (rows_in 64 regs w rows) full 0
unfolding route_start
by_far regs m f w rows full l e p =
    subst (λ (x : ℕ). Found f x (rows_in 64 regs w rows) full 0) (sym (ap (λ (t : Bool). cond t 0 (first_level w)) (lt-ltb 64 regs l)))
    (subst (λ (x : ℕ). Found f 0 (rows_of 64 x (suc (count w)) rows) full 0) e p)

-- no register at or above the count appears
bound : (all : Bool) (regs : ℕ) (w tries buf : List ℕ) (full lost : ℕ)
    → Found (raising (mays all w) regs w tries) (begins_at regs w) (rows_in 64 regs w buf) full lost
    → (k : ℕ) → row (rows_in 64 regs w buf) k < 2 ^ regs
bound all regs w tries buf full lost f =
    found_regs (raising (mays all w) regs w tries) (begins_at regs w) (inside 64 false regs w) (rows_in 64 regs w buf) full lost f
    (λ j. set_lt regs regs (used_at w j) (le_refl regs))

module _ (regs : ℕ) (w tries rows offsets : List ℕ) (n : ℕ) (h : stages_of 64 w regs tries (length rows) (length offsets) ≡ Ok n) (m : ℕ) (e : m
    ≡ words_for 64 regs) where
  pub part_mul : Fits w64 ((count w + 1) * m)
  part_mul = kept.part_mul 64 16 width regs w tries rows offsets n h m e

  pub part_fits : (count w + 1) * m ≤ length rows
  part_fits = kept.part_fits 64 16 width regs w tries rows offsets n h m e

  pub part_long : length (take ((count w + 1) * m) rows) ≡ (count w + 1) * m
  part_long = kept.part_long 64 16 width regs w tries rows offsets n h m e

  pub part_needs : Valid w × (regs ≤ 1024) × (length (take ((count w + 1) * m) rows) ≡ suc (count w) * words_for 64 regs)
  part_needs = (
    accepted_valid 64 w regs tries (length rows) (length offsets) n h,
    accepted_few 64 w regs tries (length rows) (length offsets) n h,
    kept.part_whole 64 16 width regs w tries rows offsets n h m e,
  )

  module _ (all : Bool) (part : List ℕ) (full lost : ℕ) (f : Found (raising (mays all w) regs w tries) (begins_at regs w) (rows_in 64 regs w part) full lost)
      (l : length part ≡ length (take ((count w + 1) * m) rows)) where
    pub ready : Small 64 (part ++ drop ((count w + 1) * m) rows) → LevelsRoom 64 16 regs w m (part ++ drop ((count w + 1) * m) rows)
    ready = kept.ready_by 64 16 width regs w tries rows offsets n h m e (raising (mays all w) regs w tries) (begins_at regs w)
        (bound all regs w tries) part full lost f l

    pub new_long : length (part ++ drop ((count w + 1) * m) rows) ≡ length rows
    new_long = kept.long_by 64 16 width regs w tries rows offsets n h m e (raising (mays all w) regs w tries) (begins_at regs w)
        (bound all regs w tries) part full lost f l

    module _ (list : List ℕ) (total : ℕ) (q : total ≡ length (lists_to regs w tries (rows_of 64 m (suc (count w)) (part ++ drop ((count w + 1) * m) rows))
        (count w))) where
      pub out_short : length list < total → RaisingOutcome w regs tries all rows offsets list (part ++ drop ((count w + 1) * m) rows) offsets list
          (No (Short 3 total))
      out_short =
          kept.short_by 64 16 width regs w tries rows offsets n h m e (raising (mays all w) regs w tries) (begins_at regs w)
          (bound all regs w tries) part full lost f l list total q

      pub out_told : total ≤ length list → (o l' : List ℕ) → Filled regs w tries
          (rows_of 64 m (suc (count w)) (part ++ drop ((count w + 1) * m) rows)) offsets list o l'
          → RaisingOutcome w regs tries all rows offsets list (part ++ drop ((count w + 1) * m) rows) o l' (Is total full lost)
      out_told =
          kept.told_by 64 16 width regs w tries rows offsets n h m e (raising (mays all w) regs w tries) (begins_at regs w)
          (bound all regs w tries) part full lost f l list total q

-- the tests decide
module _ (w : List ℕ) (regs : ℕ) (tries rows offsets : List ℕ) (v : Checked) (e : v ≡ stages_of 64 w regs tries (length rows) (length offsets)) where
  pub go_on : (n : ℕ) → v ≡ Ok n → stages_of 64 w regs tries (length rows) (length offsets) ≡ Ok (count w)
  go_on = kept.go_on 64 w regs tries rows offsets v e

  pub go_no : (r : Refusal) → v ≡ Err r → (all : Bool) (list : List ℕ) → RaisingOutcome w regs tries all rows offsets list rows offsets list (No r)
  go_no r h all list = kept.no_by 64 w regs tries rows offsets v e r h (raising (mays all w) regs w tries) (begins_at regs w) list
