-- The rows of code that may raise shelter its frames. Assumes nothing.
use mathlib.Core.Path.{◌≡◌, refl, sym, ap, ap₂, ◌∙◌, subst}
use mathlib.Core.Logic.{⊎_elim, ◌⊎◌, inl, inr}
use mathlib.Core.Bool.{Bool, true, false, cond, ◌&&◌, ◌||◌, false≢true}
use mathlib.Core.List.Memᴰ
use mathlib.Core.List.{List, [], ◌∷◌}
use Prim.Native.Nat.{ℕ, zero, suc, ◌+◌, ◌-◌, ◌≤◌, ◌<◌, min, max}
use native.Mathlib.Omega.{arith}
use borrow.Author.Tests.{eqb-true}
use lib.Bits.{bit_or}
use lib.Dec.{eqb}
use Rattle.laws.proofs.Branch.{or_false, or_true}
use Rattle.ops.specs.Op.{JumpIfFalseR, GetAttrR, Call, ArgsR, Jump, ReturnR, CallGlobalR, CallR, CallMethodR, CallSpreadR, StoreTopR, UnpackR, WithEnter}
use Rattle.ops.specs.Op.{WithExit, WithJudge, ForIterR}
use Rattle.code.specs.Ins.{ins_at, count, is_call, wide, dunder}
use Rattle.code.specs.Inner.{Valid}
use Rattle.code.specs.declared.Ins.{Ins}
use Rattle.code.proofs.Rules.{args_follow, wide_call}
use Rattle.roles.specs.Kinds.{page, rule_of, kinds_of, has_role, is_jump, has, dest, abc, bc, first_of}
use Rattle.roles.specs.Sets.{cases, case_of, only, given, given_by}
use Rattle.roles.specs.declared.Case.{Case}
use Rattle.roles.specs.declared.Case.TheVariants.{Store, Unpack, Enter, Exit, Judge, Step as For, Plain}
use Rattle.flow.specs.Set.{bit, alone}
use Rattle.flow.specs.Flow.{joined, Solution, Closed}
use Rattle.flow.specs.Kept.{handlers_of}
use Rattle.flow.proofs.Bits.{bit_lt, bit_zero, or_bit}
use Rattle.flow.proofs.Rows.{In, joined_in, row_at_bit}
use Rattle.flow.proofs.Tries.{handlers_past}
use Rattle.steps.specs.Code.{store_of, idle, set_of, used_at, given_at, after_at}
use Rattle.steps.specs.Inner.{row_unread}
use Rattle.steps.specs.Level.{is_level}
use Rattle.kept.specs.Level.{resume_of, result_at}
use Rattle.steps.proofs.Resume.{resume_in}
use Rattle.nested.specs.Inner.{Shelters}
use Rattle.nested.specs.Raising.{stranded, raises_at, raising, args_at, frame}

-- ---- opcodes

-- a fact of each of the four calls is one of all calls
call_cases : (P : ℕ → Type 0) → P CallGlobalR → P CallR → P CallMethodR → P CallSpreadR → (o : ℕ) → is_call o ≡ true → P o
call_cases P p q r s o e = ⊎_elim
    (λ h. ⊎_elim (λ h'. ⊎_elim (λ g. subst P (sym (eqb-true o CallGlobalR g)) p) (λ g. subst P (sym (eqb-true o CallR g)) q)
    (or_true (eqb o CallGlobalR) (eqb o CallR) h'))
    (λ g. subst P (sym (eqb-true o CallMethodR g)) r) (or_true (eqb o CallGlobalR || eqb o CallR) (eqb o CallMethodR) h))
    (λ g. subst P (sym (eqb-true o CallSpreadR g)) s) (or_true (eqb o CallGlobalR || eqb o CallR || eqb o CallMethodR) (eqb o CallSpreadR) e)

call_goes_on : (o : ℕ) → is_call o ≡ true → row_unread o ≡ false
call_goes_on = call_cases (λ o. row_unread o ≡ false) refl refl refl refl

call_is_no_test : (o : ℕ) → is_call o ≡ true → eqb o JumpIfFalseR ≡ false
call_is_no_test = call_cases (λ o. eqb o JumpIfFalseR ≡ false) refl refl refl refl

-- the fields that a call reads have no bit for a write
abc_reads : (n : ℕ) → has dest (first_of abc n) ≡ false
abc_reads zero = refl
abc_reads (suc zero) = refl
abc_reads (suc (suc zero)) = refl
abc_reads (suc (suc (suc zero))) = refl
abc_reads (suc (suc (suc (suc n)))) = refl

bc_reads : (n : ℕ) → has dest (first_of bc n) ≡ false
bc_reads zero = refl
bc_reads (suc zero) = refl
bc_reads (suc (suc zero)) = refl
bc_reads (suc (suc (suc n))) = refl

not_written : (t d : Bool) (r : ℕ) → d ≡ false → only (t && d) r ≡ []
not_written true d r e = rw e
not_written false d r e = refl

gives_none : (i : Ins) → case_of i.op ≡ Plain → has dest (kinds_of i) ≡ false → given_by i ≡ []
unfolding given_by
gives_none i c e = rw c (not_written (has_role i) (has dest (kinds_of i)) i.a e)

call_gives : (i : Ins) → is_call i.op ≡ true → given_by i ≡ []
unfolding case_of cases kinds_of rule_of page
call_gives i e = call_cases (λ o. i.op ≡ o → given_by i ≡ [])
    (λ q. gives_none i (rw q) (rw q (bc_reads (i.x + 0))))
    (λ q. gives_none i (rw q) (rw q (abc_reads (i.x + 1))))
    (λ q. gives_none i (rw q) (rw q (bc_reads (i.x + 1))))
    (λ q. gives_none i (rw q) (rw q)) i.op e refl

args_give : (i : Ins) → i.op ≡ ArgsR → given_by i ≡ []
unfolding case_of cases kinds_of rule_of page
args_give i q = gives_none i (rw q) (rw q)

stack_gives : (i : Ins) → i.op ≡ Call → given_by i ≡ []
unfolding case_of cases kinds_of rule_of page
stack_gives i q = gives_none i (rw q) (rw q)

-- gives up no register but a
abbrev orderly : Case → Bool
orderly Store = true
orderly Unpack = false
orderly Enter = false
orderly Exit = false
orderly Judge = true
orderly For = true
orderly Plain = true

-- an opcode whose own row leads on to k + 1 and gives up no register but a
abbrev Bears : ℕ → Type 0
Bears o = (orderly (case_of o) ≡ true) × (row_unread o ≡ false)

bears_attr : Bears GetAttrR
unfolding case_of cases
bears_attr = (refl, refl)

bears_stack : Bears Call
unfolding case_of cases
bears_stack = (refl, refl)

-- and so does each but five
bears_other : (o : ℕ) → (eqb o ReturnR || eqb o Jump || eqb o UnpackR || eqb o WithEnter || eqb o WithExit) ≡ false → Bears o
unfolding case_of cases
bears_other o e =
    let (e1, x) = or_false (eqb o ReturnR || eqb o Jump || eqb o UnpackR || eqb o WithEnter) (eqb o WithExit) e in
    let (e2, n) = or_false (eqb o ReturnR || eqb o Jump || eqb o UnpackR) (eqb o WithEnter) e1 in
    let (s, u) = or_false (eqb o ReturnR || eqb o Jump) (eqb o UnpackR) e2 in
    (go (eqb o StoreTopR) (eqb o UnpackR) (eqb o WithEnter) (eqb o WithExit) (eqb o WithJudge) (eqb o ForIterR) u n x, s)
  where
    go : (s u n x j f : Bool) → u ≡ false → n ≡ false → x ≡ false → orderly
        (cond (s || false) Store (cond (u || false) Unpack (cond (n || false) Enter
        (cond (x || false) Exit (cond (j || false) Judge (cond (f || false) For Plain)))))) ≡ true
    go true u n x j f hu hn hx = refl
    go false true n x j f hu hn hx = absurd (false≢true (sym hu))
    go false false true x j f hu hn hx = absurd (false≢true (sym hn))
    go false false false true j f hu hn hx = absurd (false≢true (sym hx))
    go false false false false true f hu hn hx = refl
    go false false false false false true hu hn hx = refl
    go false false false false false false hu hn hx = refl

module _ (regs : ℕ) where
  only_in : (t : Bool) (a r : ℕ) → bit (set_of regs (only t a)) r ≤ bit (alone regs a) r
  unfolding joined
  only_in true a r = omega (arith, or_bit (alone regs a) 0 r, bit_zero r)
  only_in false a r = omega (arith, bit_zero r)

  -- an orderly opcode gives up a at most
  gives_a : (c : Case) (i : Ins) (r : ℕ) → orderly c ≡ true → bit (set_of regs (given c i)) r ≤ bit (alone regs i.a) r
  gives_a Store i r e = only_in true i.a r
  gives_a Unpack i r e = absurd (false≢true e)
  gives_a Enter i r e = absurd (false≢true e)
  gives_a Exit i r e = absurd (false≢true e)
  gives_a Judge i r e = only_in false i.a r
  gives_a For i r e = only_in false i.a r
  gives_a Plain i r e = only_in (has_role i && has dest (kinds_of i)) i.a r

-- ---- positions

module _ (regs : ℕ) (w : List ℕ) (k : ℕ) where
  none_given : given_by (ins_at w k) ≡ [] → (r : ℕ) → bit (set_of regs (given_at w k)) r ≡ 0
  unfolding given_at joined
  none_given e r = go (idle w k) ∙ bit_zero r
    where
      go : (t : Bool) → bit (set_of regs (cond t [] (given_by (ins_at w k)))) r ≡ bit 0 r
      go true = refl
      go false = rw e

  given_a : orderly (case_of (ins_at w k).op) ≡ true → (r : ℕ) → bit (set_of regs (given_at w k)) r ≤ bit (alone regs (ins_at w k).a) r
  unfolding given_at given_by joined
  given_a e r = go (idle w k)
    where
      go : (t : Bool) → bit (set_of regs (cond t [] (given (case_of (ins_at w k).op) (ins_at w k)))) r ≤ bit (alone regs (ins_at w k).a) r
      go true = omega (arith, bit_zero r)
      go false = gives_a regs (case_of (ins_at w k).op) (ins_at w k) r e

  next_after : row_unread (ins_at w k).op ≡ false → In (k + 1) (after_at w k)
  unfolding after_at
  next_after e = go (eqb (ins_at w k).op ReturnR) (eqb (ins_at w k).op Jump) (is_jump (ins_at w k)) (min (ins_at w k).a (count w))
      (min (ins_at w k).a (count w) ∷ []) e
    where
      go : (p q j : Bool) (t : ℕ) (rest : List ℕ) → (p || q) ≡ false → In (k + 1) (cond p [] (cond q (t ∷ []) (cond j ((k + 1) ∷ rest) ((k + 1) ∷ []))))
      go true q j t rest e' = absurd (false≢true (sym e'))
      go false true j t rest e' = absurd (false≢true (sym e'))
      go false false true t rest e' = Memᴰ.head refl
      go false false false t rest e' = Memᴰ.head refl

  resume_val : (t c : Bool) → eqb (ins_at w k).op JumpIfFalseR ≡ t → is_call (ins_at w k).op ≡ c → resume_of w k ≡ cond t k (cond c (store_of w k) (k + 1))
  unfolding resume_of
  resume_val t c et ec = ap₂ (λ (x y : Bool). cond x k (cond y (store_of w k) (k + 1))) et ec

  result_else : eqb (ins_at w k).op JumpIfFalseR ≡ false → eqb (ins_at w k).op Call ≡ false → is_call (ins_at w k).op ≡ false → result_at w k ≡ (ins_at w k).a
  unfolding result_at
  result_else et eu ec = rw (et, eu, ec)

module _ (may : ℕ → Bool) (regs : ℕ) (w tries : List ℕ) (covers : (k : ℕ) → is_level (ins_at w k) ≡ true → may k ≡ true) (valid : Valid w)
    (start : ℕ) (R : ℕ → ℕ) (closed : Closed (raising may regs w tries) start) (sol : Solution (raising may regs w tries) start R) where
  module _ (k : ℕ) (lo : start ≤ k) (hi : k < count w) (r : ℕ) where
    has_row : bit (R k) r ≡ max (max (bit (set_of regs (used_at w k)) r) (bit (joined R (after_at w k)) r - bit (set_of regs (given_at w k)) r))
        (bit (joined R (raises_at may w tries k)) r)
    has_row = ap (λ (x : ℕ). bit x r) (sol.each k lo hi) ∙ row_at_bit (raising may regs w tries) R k r

    uses : bit (set_of regs (used_at w k)) r ≤ bit (R k) r
    uses = omega (arith, has_row)

    on : row_unread (ins_at w k).op ≡ false → bit (R (k + 1)) r ≤ max (bit (set_of regs (given_at w k)) r) (bit (R k) r)
    on e = omega (
      arith,
      has_row,
      joined_in R r (after_at w k) (k + 1) (next_after regs w k e),
      bit_lt (R (k + 1)) r,
      bit_lt (joined R (after_at w k)) r,
      bit_lt
          (set_of regs (given_at w k)) r,
    )

    through : row_unread (ins_at w k).op ≡ false → given_by (ins_at w k) ≡ [] → bit (R (k + 1)) r ≤ bit (R k) r
    through e g = omega (arith, on e, none_given regs w k g r)

    level_raises : is_level (ins_at w k) ≡ true → (h : ℕ) → In h (handlers_of (count w) k tries) → In h (raises_at may w tries k)
    unfolding raises_at
    level_raises e h m = Memᴰ.append_right (only (stranded (ins_at w k)) (k + 1))
        (subst (λ (t : Bool). In h (cond t (handlers_of (count w) k tries) [])) (sym (covers k e)) m)

    past_in : stranded (ins_at w k) ≡ true → In (k + 1) (raises_at may w tries k)
    unfolding raises_at
    past_in e = Memᴰ.append_left (cond (may k) (handlers_of (count w) k tries) []) (go (stranded (ins_at w k)) e)
      where
        go : (t : Bool) → t ≡ true → In (k + 1) (only t (k + 1))
        go true q = Memᴰ.head refl
        go false q = absurd (false≢true q)

    past : stranded (ins_at w k) ≡ true → bit (R (k + 1)) r ≤ bit (R k) r
    past e = omega (arith, has_row, joined_in R r (raises_at may w tries k) (k + 1) (past_in e))

    catch : is_level (ins_at w k) ≡ true → (h : ℕ) → In h (handlers_of (count w) k tries) → (start ≤ h) × (bit (R h) r ≤ bit (R k) r)
    catch e h m = (
      omega (arith, (handlers_past (count w) k hi tries h m).0),
      omega
          (arith, has_row, joined_in R r (raises_at may w tries k) h (level_raises e h m)),
    )

    -- a wide call has ArgsR after it, and what that reads and what comes after it are the call's
    module _ (e : wide (ins_at w k) ≡ true) where
      args : (ins_at w (k + 1)).op ≡ ArgsR
      args = args_follow (ins_at w k) k (ins_at w (k + 1)).op (valid.kept k hi) e

      call : is_call (ins_at w k).op ≡ true
      call = wide_call (ins_at w k) k (ins_at w (k + 1)).op (valid.kept k hi) e

      store_two : store_of w k ≡ k + 2
      unfolding store_of
      store_two = rw e

      inner : k + 1 < count w
      inner = omega (arith, (resume_in w k valid hi).1, resume_val regs w k false true (call_is_no_test (ins_at w k).op call) call, store_two)

  -- what a call reads as it begins is in its row
  reads_args : (k : ℕ) → start ≤ k → k < count w → (r : ℕ) → bit (args_at regs w k) r ≤ bit (R k) r
  unfolding args_at
  reads_args k lo hi r = go (wide (ins_at w k)) refl
    where
      go : (t : Bool) → wide (ins_at w k) ≡ t → bit (bit_or (set_of regs (used_at w k)) (cond t (set_of regs (used_at w (k + 1))) 0)) r ≤ bit (R k) r
      go true e = omega (
        arith,
        or_bit (set_of regs (used_at w k)) (set_of regs (used_at w (k + 1))) r,
        uses k lo hi r,
        uses (k + 1) (omega arith) (inner k lo hi r e) r,
        through k lo hi r (call_goes_on (ins_at w k).op (call k lo hi r e)) (call_gives (ins_at w k) (call k lo hi r e)),
      )
      go false e = omega (arith, or_bit (set_of regs (used_at w k)) 0 r, bit_zero r, uses k lo hi r)

  -- a level that is no call and no test goes on at k + 1 and gives up its result register at most, or it is stranded
  other_bears : (k : ℕ) → is_level (ins_at w k) ≡ true → eqb (ins_at w k).op JumpIfFalseR ≡ false → is_call (ins_at w k).op ≡ false
      → Bears (ins_at w k).op ⊎ (stranded (ins_at w k) ≡ true)
  unfolding is_level
  other_bears k e et ec = ⊎_elim
      (λ h. ⊎_elim
      (λ h'. ⊎_elim (λ g. absurd (false≢true (sym (neither (is_call o) (eqb o JumpIfFalseR) ec et)
      ∙ g))) (λ g. inl (subst Bears (sym (eqb-true o GetAttrR g)) bears_attr)) (or_true (is_call o || eqb o JumpIfFalseR) (eqb o GetAttrR) h'))
      (λ g. inl (subst Bears (sym (eqb-true o Call g)) bears_stack)) (or_true (is_call o || eqb o JumpIfFalseR || eqb o GetAttrR) (eqb o Call) h))
      (λ g. marked (eqb o ReturnR || eqb o Jump || eqb o UnpackR || eqb o WithEnter || eqb o WithExit) refl g)
      (or_true (is_call o || eqb o JumpIfFalseR || eqb o GetAttrR || eqb o Call) (dunder (ins_at w k)) e)
    where
      o : ℕ
      o = (ins_at w k).op

      marked : (t : Bool) → (eqb o ReturnR || eqb o Jump || eqb o UnpackR || eqb o WithEnter || eqb o WithExit) ≡ t → dunder (ins_at w k) ≡ true
          → Bears o ⊎ ((dunder (ins_at w k) && (eqb o ReturnR || eqb o Jump || eqb o UnpackR || eqb o WithEnter || eqb o WithExit)) ≡ true)
      marked true q g = inr (ap₂ ◌&&◌ g q)
      marked false q g = inl (bears_other o q)

      neither : (a b : Bool) → a ≡ false → b ≡ false → (a || b) ≡ false
      neither a b p q = rw (p, q)

  resume_has : (k : ℕ) → start ≤ k → k < count w → is_level (ins_at w k) ≡ true → (r : ℕ)
      → (start ≤ resume_of w k) × (bit (R (resume_of w k)) r ≤ max (bit (alone regs (result_at w k)) r) (bit (R k) r))
  unfolding store_of
  resume_has k lo hi e r = (omega (arith, (resume_in w k valid hi).0), go (eqb o JumpIfFalseR) (is_call o) refl refl)
    where
      o : ℕ
      o = (ins_at w k).op

      res : ℕ
      res = bit (alone regs (result_at w k)) r

      at : {p : ℕ} → resume_of w k ≡ p → bit (R (resume_of w k)) r ≡ bit (R p) r
      at q = ap (λ (x : ℕ). bit (R x) r) q

      called : (t : Bool) → wide (ins_at w k) ≡ t → is_call o ≡ true → bit (R (cond t (k + 2) (k + 1))) r ≤ bit (R k) r
      called true q ec =
          let two : k + 1 + 1 ≡ k + 2 = omega arith in
          omega (
            arith,
            ap (λ (x : ℕ). bit (R x) r) two,
            through (k + 1) (omega arith) (inner k lo hi r q) r (ap row_unread (args k lo hi r q)) (args_give (ins_at w (k + 1)) (args k lo hi r q)),
            through k lo hi r (call_goes_on o ec) (call_gives (ins_at w k) ec),
          )
      called false q ec = through k lo hi r (call_goes_on o ec) (call_gives (ins_at w k) ec)

      store : is_call o ≡ true → bit (R (store_of w k)) r ≤ bit (R k) r
      store ec = called (wide (ins_at w k)) refl ec

      other : (u : Bool) → eqb o Call ≡ u → eqb o JumpIfFalseR ≡ false → is_call o ≡ false
          → bit (R (k + 1)) r ≤ max (bit (alone regs (result_at w k)) r) (bit (R k) r)
      other u eu et ec = ⊎_elim (λ b. by u eu b) (λ s. omega (arith, past k lo hi r s)) (other_bears k e et ec)
        where
          by : (u : Bool) → eqb o Call ≡ u → Bears o → bit (R (k + 1)) r ≤ max (bit (alone regs (result_at w k)) r) (bit (R k) r)
          by true q b = omega (arith, through k lo hi r b.1 (stack_gives (ins_at w k) (eqb-true o Call q)))
          by false q b = omega (arith, on k lo hi r b.1, given_a regs w k b.0 r, ap (λ (x : ℕ). bit (alone regs x) r) (result_else regs w k et q ec))

      go : (t c : Bool) → eqb o JumpIfFalseR ≡ t → is_call o ≡ c → bit (R (resume_of w k)) r ≤ max (bit (alone regs (result_at w k)) r) (bit (R k) r)
      go true c et ec = omega (arith, at (resume_val regs w k true c et ec))
      go false true et ec = omega (arith, at (resume_val regs w k false true et ec), store ec)
      go false false et ec = omega (arith, at (resume_val regs w k false false et ec), other (eqb o Call) refl et ec)

  -- so the rows shelter
  pub shelters : start ≤ count w → ((k : ℕ) → k < start → is_level (ins_at w k) ≡ false) → Shelters (frame may regs w tries) start R
  shelters le early = record {
    inside = le;
    early = early;
    closed = closed;
    solves = sol;
    calls = λ k r lo hi e. reads_args k lo hi r;
    resumes = λ k r lo hi e. resume_has k lo hi e r;
    catches = λ k r h lo hi e m. catch k lo hi r e h m;
  }
