-- What comes after a step, and which positions it goes back before. Assumes nothing.
use mathlib.Core.Path.{◌≡◌, refl, sym, ap, ◌∙◌, subst}
use mathlib.Core.Bool.{Bool, true, false, not, cond, ◌&&◌, ◌||◌}
use mathlib.Core.List.{List, [], ◌∷◌, ◌++◌}
use Prim.Native.Nat.{ℕ, suc, ◌+◌, ◌-◌, ◌/◌, ◌%◌, ◌≤◌, ◌<◌, min}
use native.Mathlib.Decide.{dec_lt}
use native.Mathlib.Omega.{arith}
use borrow.Author.Tests.{eqb-true, eq-eqb, ne_eqb, lt-ltb, le-ltb, le-leb, lt-leb}
use lib.Dec.{eqb, leb, ltb}
use Rattle.ops.specs.Op.{Jump, ReturnR, PushRegs, StoreTopR, PopTop}
use Rattle.code.specs.Ins.{ins_at, count, is_call}
use Rattle.code.specs.declared.Ins.{Ins}
use Rattle.roles.specs.Kinds.{kinds_of, is_jump, page, rule_of}
use Rattle.roles.specs.Sets.{only}
use Rattle.touch.specs.declared.Touch.{Touch}
use Rattle.flow.specs.Sweep.{below}
use Rattle.steps.specs.Code.{store_of, over_pending, past_store, restores, idle, after_at}
use Rattle.steps.specs.Inner.{TouchesAt, StepAt, goes_before}
use Rattle.steps.specs.declared.Step.{Step}

return_stays : (i : Ins) → i.op ≡ ReturnR → is_jump i ≡ false
unfolding is_jump kinds_of rule_of page
return_stays i e = rw e

jump_jumps : (i : Ins) → i.op ≡ Jump → is_jump i ≡ true
unfolding is_jump kinds_of rule_of page
jump_jumps i e = rw e

module _ (i : Ins) (next t : ℕ) where
  after_by : (p q j : Bool) → eqb i.op ReturnR ≡ p → eqb i.op Jump ≡ q → is_jump i ≡ j
      → only (not p && not q) next ++ only j t ≡ cond p [] (cond q (t ∷ []) (cond j (next ∷ t ∷ []) (next ∷ [])))
  after_by true q j ep eq ej = rw (sym ej ∙ return_stays i (eqb-true i.op ReturnR ep))
  after_by false true j ep eq ej = rw (sym ej ∙ jump_jumps i (eqb-true i.op Jump eq))
  after_by false false true ep eq ej = refl
  after_by false false false ep eq ej = refl

pub step_is : (w : List ℕ) (n k m t : ℕ) (i : Ins) (e : Touch) → n ≡ count w → i ≡ ins_at w k → m ≡ kinds_of i → TouchesAt w k e → t ≡ min i.a n
    → StepAt w k (record {
      a = i.a;
      b = i.b;
      c = i.c;
      used = e.used;
      given = e.given;
      run = e.run;
      on = not (eqb i.op ReturnR) && not (eqb i.op Jump);
      to = eqb (m / 16 % 4) 1;
      target = t;
    })
unfolding after_at is_jump
step_is w n k m t i e en ei em he et = record {
  used = rw ei he.used;
  given = rw ei he.given;
  after = rw (em, et, en, ei) (after_by (ins_at w k) (k + 1) (min (ins_at w k).a (count w)) (eqb (ins_at w k).op ReturnR) (eqb (ins_at w k).op Jump)
      (is_jump (ins_at w k)) refl refl refl);
  inside = omega (arith, et, en);
}

-- ---- jumps to before p

or_no : (t : Bool) → t || false ≡ t
or_no true = refl
or_no false = refl

pub below_step : (w : List ℕ) (k : ℕ) (s : Step) (p : ℕ) → StepAt w k s → p ≤ k + 1 → goes_before s p ≡ below p (after_at w k)
unfolding below
below_step w k s p h l = go s.on s.to refl refl ∙ ap (below p) h.after
  where
    on_goes : ltb (k + 1) p ≡ false
    on_goes = le-ltb (k + 1) p l

    go : (x y : Bool) → s.on ≡ x → s.to ≡ y → y && ltb s.target p ≡ below p (only x (k + 1) ++ only y s.target)
    go true true ex ey = rw on_goes (sym (or_no (ltb s.target p)))
    go true false ex ey = rw on_goes
    go false true ex ey = sym (or_no (ltb s.target p))
    go false false ex ey = refl

-- what comes after k goes to k or back just where a jump does
pub back_at : (w : List ℕ) (k : ℕ) → k < count w → below (suc k) (after_at w k) ≡ is_jump (ins_at w k) && leb (ins_at w k).a k
unfolding below after_at
back_at w k l = go (eqb (ins_at w k).op ReturnR) (eqb (ins_at w k).op Jump) (is_jump (ins_at w k)) refl refl refl
  where
    on_goes : ltb (k + 1) (suc k) ≡ false
    on_goes = le-ltb (k + 1) (suc k) (omega arith)

    to : ltb (min (ins_at w k).a (count w)) (suc k) ≡ leb (ins_at w k).a k
    to = at (dec_lt k (ins_at w k).a)
      where
        at : Dec (k < (ins_at w k).a) → ltb (min (ins_at w k).a (count w)) (suc k) ≡ leb (ins_at w k).a k
        at (yes h) = le-ltb (min (ins_at w k).a (count w)) (suc k) (omega arith) ∙ sym (lt-leb (ins_at w k).a k h)
        at (no n) = lt-ltb (min (ins_at w k).a (count w)) (suc k) (omega arith) ∙ sym (le-leb (ins_at w k).a k (omega arith))

    go : (p q j : Bool) → eqb (ins_at w k).op ReturnR ≡ p → eqb (ins_at w k).op Jump ≡ q → is_jump (ins_at w k) ≡ j
        → below (suc k) (cond p [] (cond q (min (ins_at w k).a (count w) ∷ []) (cond j ((k + 1) ∷ min (ins_at w k).a (count w) ∷ []) ((k + 1) ∷ []))))
        ≡ j && leb (ins_at w k).a k
    go true q j ep eq ej = rw (sym ej ∙ return_stays (ins_at w k) (eqb-true (ins_at w k).op ReturnR ep))
    go false true j ep eq ej = rw (sym ej ∙ jump_jumps (ins_at w k) (eqb-true (ins_at w k).op Jump eq)) (or_no (ltb (min (ins_at w k).a (count w)) (suc k)) ∙ to)
    go false false true ep eq ej = rw on_goes (or_no (ltb (min (ins_at w k).a (count w)) (suc k)) ∙ to)
    go false false false ep eq ej = rw on_goes

-- ---- a call's store

module _ (w : List ℕ) (c : ℕ) (i : Ins) (e : i ≡ ins_at w c) where
  pub wide_store : i.marks % 2 ≡ 1 → c + 2 ≡ store_of w c
  unfolding store_of
  wide_store h = let t : eqb ((ins_at w c).marks % 2) 1 ≡ true = subst (λ (j : Ins). eqb (j.marks % 2) 1 ≡ true) e (eq-eqb (i.marks % 2) 1 h) in rw t

  pub next_store : (i.marks % 2 ≡ 1 → ⊥) → c + 1 ≡ store_of w c
  unfolding store_of
  next_store h = let t : eqb ((ins_at w c).marks % 2) 1 ≡ false = subst (λ (j : Ins). eqb (j.marks % 2) 1 ≡ false) e (ne_eqb (i.marks % 2) 1 h) in rw t

pub store_le : (w : List ℕ) (c s : ℕ) → s ≡ store_of w c → s ≤ c + 2
unfolding store_of
store_le w c s e = rw e (go (eqb ((ins_at w c).marks % 2) 1))
  where
    go : (t : Bool) → cond t (c + 2) (c + 1) ≤ c + 2
    go true = omega arith
    go false = omega arith

-- ---- pending values

module _ (w : List ℕ) (c : ℕ) where
  some : (c ≡ 0 → ⊥) → 0 < c
  some n = omega arith

  pub none_before : c ≡ 0 → false ≡ over_pending w c
  unfolding over_pending
  none_before e = rw e

  pub no_call : (call : Ins) (t : Bool) → (c ≡ 0 → ⊥) → call ≡ ins_at w c → t ≡ is_call call.op → t ≡ false → false ≡ over_pending w c
  unfolding over_pending
  no_call call t n e h z =
      let q : is_call (ins_at w c).op ≡ false = ap (λ (i : Ins). is_call i.op) (sym e) ∙ sym h ∙ z in
      rw (q, lt-ltb 0 c (some n))

  pub one_before : (call push : Ins) (t : Bool) → (c ≡ 0 → ⊥) → call ≡ ins_at w c → t ≡ is_call call.op → t ≡ true → push ≡ ins_at w (c - 1)
      → eqb push.op PushRegs && eqb push.x 1 ≡ over_pending w c
  unfolding over_pending
  one_before call push t n e h z p =
      let q : is_call (ins_at w c).op ≡ true = ap (λ (i : Ins). is_call i.op) (sym e) ∙ sym h ∙ z in
      rw (q, p, lt-ltb 0 c (some n))

  pub past_is : (k s : ℕ) (t : Bool) → t ≡ over_pending w c → t ≡ true → s ≡ store_of w c → eqb (s + 1) k ≡ past_store w c k
  unfolding past_store
  past_is k s t e z h = rw (← e, z, h)

  pub not_past : (k : ℕ) (t : Bool) → t ≡ over_pending w c → t ≡ false → false ≡ past_store w c k
  unfolding past_store
  not_past k t e z = rw (← e, z)

module _ (w : List ℕ) (k : ℕ) where
  -- a push is no restore
  pub is_push : (o : ℕ) (r : Bool) → o ≡ (ins_at w k).op → o ≡ PushRegs → r ≡ over_pending w (k + 1) → r ≡ idle w k
  unfolding idle restores
  is_push o r e h z = z ∙ sym (rw (sym e ∙ h) (or_no (over_pending w (k + 1))))

  -- what is no push leaves nothing pending
  no_push : (o : ℕ) → o ≡ (ins_at w k).op → (o ≡ PushRegs → ⊥) → over_pending w (k + 1) ≡ false
  unfolding over_pending
  no_push o e h =
      let z : k + 1 - 1 ≡ k = omega arith in
      rw (z, ne_eqb (ins_at w k).op PushRegs (λ q. h (e ∙ q))) (none (ltb 0 (k + 1) && is_call (ins_at w (k + 1)).op) (eqb (ins_at w k).x 1))
    where
      none : (p q : Bool) → p && false && q ≡ false
      none true q = refl
      none false q = refl

  pub is_restore : (o l m : ℕ) (p q : Bool) → o ≡ (ins_at w k).op → (o ≡ PushRegs → ⊥) → eqb o StoreTopR || eqb o PopTop ≡ true
      → l ≡ k - 2 → m ≡ k - 3 → p ≡ past_store w l k → q ≡ past_store w m k → p || q ≡ idle w k
  unfolding idle restores
  is_restore o l m p q e h z el em ep eq = rw (no_push o e h, ← e, z, ep, eq, el, em)

  pub is_neither : (o : ℕ) → o ≡ (ins_at w k).op → (o ≡ PushRegs → ⊥) → eqb o StoreTopR || eqb o PopTop ≡ false → false ≡ idle w k
  unfolding idle restores
  is_neither o e h z = rw (no_push o e h, ← e, z)

pub ruleset pending = (is_push, is_restore, is_neither)
