-- The opcodes that tell all of a step, and the steps that they make. Assumes nothing.
use mathlib.Core.Path.{◌≡◌, refl, sym, ap, ◌∙◌}
use mathlib.Core.Bool.{Bool, true, false, not, ◌&&◌, ◌||◌, false≢true}
use mathlib.Core.List.{List, [], ◌∷◌}
use Prim.Native.Nat.{ℕ, zero, suc, ◌*◌, ◌/◌, ◌%◌, ◌≤◌, ◌<◌, min, zero-le}
use native.Mathlib.Decide.{ℕ_discrete}
use native.Mathlib.Omega.{arith}
use types.Run.{OneOf}
use borrow.Author.Tests.{eqb-true, eqb-false, ne_eqb, ltb-true, not-true}
use lib.Dec.{eqb}
use Rattle.laws.specs.Page.{Row, ◌↝◌, look}
use Rattle.laws.proofs.Branch.{and-true}
use Rattle.laws.proofs.Keys.{sorted, row, apart, named, unnamed, Rest}
use Rattle.ops.specs.Op.{Jump, ForIter, JumpIfFalse, JumpIfFalseOrPop, JumpIfTrueOrPop, JumpIfFalseR, JumpUnlessLt, JumpUnlessLtEq, JumpUnlessGt}
use Rattle.ops.specs.Op.{JumpUnlessGtEq, JumpUnlessEq, JumpUnlessNotEq, ReturnR, StoreGlobalR, StoreGlobalAtR, LoadGlobalR, LoadGlobalAtR, UnbindR, WrapCellR}
use Rattle.ops.specs.Op.{Move, MinusR, NotR, LenR, GetAttrR, LoadCellR, AddR, InPlaceAddR, SubR, InPlaceSubR, MulR, DivR, ModR, FloorDivR, BitAndR, BitOrR}
use Rattle.ops.specs.Op.{BitXorR, ShlR, ShrR, LtR, LtEqR, GtR, GtEqR, EqR, NotEqR, IsR, IsNotR, PowR, InR, NotInR, GetItemR, SuperR, StoreCellR, SetAttrR}
use Rattle.ops.specs.Op.{CallSpreadR, ListPushR, StoreItemR, ArgsR, AppendR, OwnResetR, ListAppendR, SetAddR, MapAddR, PopTop, PushRegs, StoreTopR, UnpackR}
use Rattle.ops.specs.Op.{CallGlobalR, CallR, CallMethodR, Raise, ForIterR, Del, WithEnter, WithExit, WithJudge}
use Rattle.code.specs.Ins.{ins_at, count}
use Rattle.code.specs.declared.Ins.{Ins}
use Rattle.roles.specs.Kinds.{jumps, has, Rule, Bits, ByX, FirstAbc, FirstBc, Bare, says, kinds_of, page, rule_of}
use Rattle.roles.specs.Sets.{cases, case_of}
use Rattle.touch.specs.Touch.{plain_of}
use Rattle.roles.specs.declared.Case.{Case}
use Rattle.roles.specs.declared.Case.TheVariants.{Store, Unpack, Enter, Exit, Judge, Step as For, Plain}
use Rattle.steps.specs.Code.{idle}
use Rattle.steps.specs.Inner.{StepAt, TouchesAt, bits_of, is_plain, tells, row_unread, told, calm_of, calm_step, turn_step}
use Rattle.touch.proofs.Cases.{is_plain_lem}
use Rattle.steps.proofs.Touched.{at_work}
use Rattle.steps.proofs.Follows.{is_neither, step_is}

-- ---- the arms of `calm_of`

unfoldable pub calms : List (Row ℕ)
calms =
    ((Jump ∷ []) ↝ 48)
    ∷ ((ForIter ∷ JumpIfFalse ∷ JumpIfFalseOrPop ∷ JumpIfTrueOrPop ∷ []) ↝ 16)
    ∷ ((JumpIfFalseR ∷ []) ↝ 20)
    ∷ ((JumpUnlessLt ∷ JumpUnlessLtEq ∷ JumpUnlessGt ∷ JumpUnlessGtEq ∷ JumpUnlessEq ∷ JumpUnlessNotEq ∷ []) ↝ 28)
    ∷ ((ReturnR ∷ []) ↝ 36)
    ∷ ((StoreGlobalR ∷ StoreGlobalAtR ∷ []) ↝ 4)
    ∷ ((LoadGlobalR ∷ LoadGlobalAtR ∷ UnbindR ∷ []) ↝ 1)
    ∷ ((WrapCellR ∷ []) ↝ 3)
    ∷ ((Move ∷ MinusR ∷ NotR ∷ LenR ∷ GetAttrR ∷ LoadCellR ∷ []) ↝ 5)
    ∷ ((AddR ∷ InPlaceAddR ∷ SubR ∷ InPlaceSubR ∷ MulR ∷ DivR ∷ ModR ∷ FloorDivR ∷ BitAndR ∷ BitOrR ∷ BitXorR ∷ ShlR ∷ ShrR ∷ LtR ∷ LtEqR ∷ GtR ∷ GtEqR ∷ EqR
    ∷ NotEqR ∷ IsR ∷ IsNotR ∷ PowR ∷ InR ∷ NotInR ∷ GetItemR ∷ SuperR ∷ []) ↝ 13)
    ∷ ((StoreCellR ∷ SetAttrR ∷ CallSpreadR ∷ ListPushR ∷ []) ↝ 6)
    ∷ ((StoreItemR ∷ ArgsR ∷ []) ↝ 14)
    ∷ ((AppendR ∷ []) ↝ 7)
    ∷ ((OwnResetR ∷ []) ↝ 2)
    ∷ ((ListAppendR ∷ SetAddR ∷ MapAddR ∷ []) ↝ 12)
    ∷ ((PopTop ∷ PushRegs ∷ StoreTopR ∷ UnpackR ∷ CallGlobalR ∷ CallR ∷ CallMethodR ∷ Raise ∷ ForIterR ∷ Del ∷ WithEnter ∷ WithExit ∷ WithJudge ∷ []) ↝ 64)
    ∷ []

-- what is tested of each number below n holds of one of them
abbrev all : (ℕ → Bool) → ℕ → Bool
all f zero = true
all f (suc n) = f n && all f n

each : (f : ℕ → Bool) (n : ℕ) → all f n ≡ true → (o : ℕ) → o < n → f o ≡ true
each f zero t o l = absurd (omega arith)
each f (suc n) t o l =
    let p = and-true (f n) (all f n) t in
    go p.0 (ℕ_discrete o n) (each f n p.1 o)
  where
    go : f n ≡ true → Dec (o ≡ n) → (o < n → f o ≡ true) → f o ≡ true
    go h (yes e) r = rw e h
    go h (no e) r = r (omega arith)

pub calm_is : (o : ℕ) → o ≤ 190 → look 0 o calms ≡ calm_of o
unfolding calms calm_of rule_of page case_of cases
calm_is o l = eqb-true _ _ (each (λ k. eqb (look 0 k calms) (calm_of k)) 191 refl o (omega arith))

calms_apart : apart 0 calms ≡ true
unfolding calms
calms_apart = refl

-- an arm, and all the others
pub calm_arm : (j o : ℕ) → o ≤ 190 → OneOf (sorted (row 0 calms j).ops) o → (row 0 calms j).rule ≡ calm_of o
calm_arm j o l e = named 0 calms calms_apart j o e ∙ calm_is o l

pub calm_rest : (o : ℕ) → o ≤ 190 → Rest 0 o (Unit {0}) calms → 0 ≡ calm_of o
calm_rest o l e = unnamed 0 calms o e ∙ calm_is o l

-- ---- what the bits say

alike : Bool → Bool → Bool
alike true q = q
alike false q = not q

are_alike : (p q : Bool) → alike p q ≡ true → p ≡ q
unfolding alike
are_alike true true e = refl
are_alike true false e = absurd (false≢true e)
are_alike false true e = absurd (false≢true e)
are_alike false false e = refl

record Says (kind m : ℕ) (stop : Bool) : Type 0 where
  used : (plain_of kind).used ≡ m / 2 % 8 * 2
  given : (plain_of kind).given ≡ m % 2 * 2
  run : (plain_of kind).run ≡ 0
  on : not stop ≡ not (has 32 m)
  to : eqb (kind / 16 % 4) 1 ≡ has jumps m

abbrev test : Bool → ℕ → Bool
test stop k =
    eqb (plain_of k).used (told k stop / 2 % 8 * 2) && (eqb (plain_of k).given (told k stop % 2 * 2)
    && (eqb (plain_of k).run 0 && (alike (not stop) (not (has 32 (told k stop))) && alike (eqb (k / 16 % 4) 1) (has jumps (told k stop)))))

tested : (stop : Bool) → all (test stop) 64 ≡ true
unfolding plain_of alike
tested true = refl
tested false = refl

bits_say : (kind : ℕ) (stop : Bool) → kind < 64 → Says kind (told kind stop) stop
bits_say kind stop l =
    let p = and-true _ _ (each (test stop) 64 (tested stop) kind l) in
    let q = and-true _ _ p.1 in
    let r = and-true _ _ q.1 in
    let s = and-true _ _ r.1 in
    record { used = eqb-true _ _ p.0; given = eqb-true _ _ q.0; run = eqb-true _ _ r.0; on = are_alike _ _ s.0; to = are_alike _ _ s.1 }

-- ---- an opcode that tells

plain_case : (k : Case) → is_plain k ≡ true → k ≡ Plain
plain_case Store e = absurd (false≢true e)
plain_case Unpack e = absurd (false≢true e)
plain_case Enter e = absurd (false≢true e)
plain_case Exit e = absurd (false≢true e)
plain_case Judge e = absurd (false≢true e)
plain_case For e = absurd (false≢true e)
plain_case Plain e = refl

only_bits : (r : Rule) (x f : ℕ) → bits_of r < 64 → bits_of r ≡ says r x f
only_bits (Bits k) x f l = refl
only_bits (ByX k m) x f l = absurd (omega arith)
only_bits (FirstAbc k) x f l = absurd (omega arith)
only_bits (FirstBc k) x f l = absurd (omega arith)
only_bits Bare x f l = absurd (omega arith)

neither : (p q : Bool) → not (p || q) ≡ not p && not q
neither true q = refl
neither false q = refl

same_step : (w : List ℕ) (k : ℕ) (i : Ins) (u g r u' g' r' t : ℕ) (on on' to to' : Bool) → u ≡ u' → g ≡ g' → r ≡ r' → on ≡ on' → to ≡ to'
    → StepAt w k (record { a = i.a; b = i.b; c = i.c; used = u; given = g; run = r; on = on; to = to; target = t })
    → StepAt w k (record { a = i.a; b = i.b; c = i.c; used = u'; given = g'; run = r'; on = on'; to = to'; target = t })
same_step w k i u g r u' g' r' t on on' to to' eu eg er eo et h = rw (← eu, ← eg, ← er, ← eo, ← et) h

module _ (w : List ℕ) (k m : ℕ) (i : Ins) (place : i ≡ ins_at w k) (e : m ≡ calm_of i.op) where
  abbrev kind : ℕ
  kind = bits_of (rule_of i.op)

  told_kinds : kind < 64 → kind ≡ kinds_of i
  unfolding kinds_of
  told_kinds few = only_bits (rule_of i.op) i.x i.a few

  pub turn_is : (n : ℕ) → n ≡ count w → m < 64 → StepAt w k (turn_step i m n)
  unfolding calm_of
  turn_is n en l = go (tells i.op) refl
    where
      go : (t : Bool) → tells i.op ≡ t → StepAt w k (turn_step i m n)
      go false z = let q : m ≡ 64 = rw z at e in absurd (omega arith)
      go true z =
          let p = and-true _ _ z in
          let q = and-true _ _ p.0 in
          let r = and-true _ _ q.0 in
          let few : kind < 64 = ltb-true _ _ p.1 in
          let quiet : false ≡ idle w k = is_neither w k i.op (ap (λ (j : Ins). j.op) place) (eqb-false _ _ (not-true _ r.1)) (not-true _ q.1) in
          let kinds : kind ≡ kinds_of i = told_kinds few in
          let touched : TouchesAt w k (plain_of kind) = at_work w k false quiet i (plain_of kind) refl place (is_plain_lem i (case_of i.op) refl kind (plain_of kind)
          (plain_case _ r.0) kinds refl) in
          let is : m ≡ told kind (row_unread i.op) = rw z at e in
          let says : Says kind m (row_unread i.op) = rw is (bits_say kind (row_unread i.op) few) in
          same_step w k i _ _ _ _ _ _ _ _ _ _ _ says.used says.given says.run (sym (neither (eqb i.op ReturnR) (eqb i.op Jump)) ∙ says.on)
          says.to
          (step_is w n k kind (min i.a n) i (plain_of kind) en place kinds touched refl)

  pub calm_step_lem : m < 16 → StepAt w k (calm_step i m)
  calm_step_lem l =
      let h = turn_is (count w) refl (omega arith) in
      record { used = h.used; given = h.given; after = rw (no_stop, no_jump) at h.after; inside = zero-le }
    where
      no_stop : eqb (m / 32 % 2) 1 ≡ false
      no_stop = ne_eqb (m / 32 % 2) 1 (λ q. omega arith)

      no_jump : eqb (m / 16 % 2) 1 ≡ false
      no_jump = ne_eqb (m / 16 % 2) 1 (λ q. omega arith)
