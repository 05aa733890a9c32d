-- Where a level goes on, case by case; never past n. Assumes nothing.
use mathlib.Core.Path.{◌≡◌, refl, sym, ap, ◌∙◌}
use mathlib.Core.Bool.{Bool, true, false, cond, ◌||◌}
use mathlib.Core.List.{List}
use Prim.Native.Nat.{ℕ, ◌+◌, ◌*◌, ◌≤◌, ◌<◌}
use native.Mathlib.Nat.{le_refl}
use native.Mathlib.Decide.{dec_lt}
use native.Mathlib.Omega.{arith}
use borrow.Author.Tests.{ne_eqb, lt-ltb, le-ltb}
use lib.Dec.{eqb, ltb}
use lib.ListN.{get_or-eq_default}
use Rattle.ops.specs.Op.{JumpIfFalseR, Call}
use Rattle.code.specs.Ins.{ins_at, count, is_call, wide}
use Rattle.code.specs.Inner.{Valid}
use Rattle.code.specs.declared.Ins.{Ins}
use Rattle.code.proofs.Rules.{args_follow}
use Rattle.steps.specs.Code.{store_of}
use Rattle.steps.specs.Resume.{resume_of, result_at, no_register}
use Rattle.steps.specs.Inner.{Goes}

module _ (w : List ℕ) (k : ℕ) where
  resume_by : (o : ℕ) → (ins_at w k).op ≡ o → resume_of w k ≡ cond (eqb o JumpIfFalseR) k (cond (is_call o) (store_of w k) (k + 1))
  unfolding resume_of
  resume_by o e = ap (λ (x : ℕ). cond (eqb x JumpIfFalseR) k (cond (is_call x) (store_of w k) (k + 1))) e

  result_by : (o : ℕ) → (ins_at w k).op ≡ o
      → result_at w k ≡ cond (eqb o JumpIfFalseR || eqb o Call) no_register
      (cond (is_call o) (cond (ltb (store_of w k) (count w)) (ins_at w (store_of w k)).a no_register) (ins_at w k).a)
  unfolding result_at
  result_by o e =
      ap (λ (x : ℕ). cond (eqb x JumpIfFalseR || eqb x Call) no_register
      (cond (is_call x) (cond (ltb (store_of w k) (count w)) (ins_at w (store_of w k)).a no_register) (ins_at w k).a)) e

  module _ (i : Ins) (e : i ≡ ins_at w k) where
    op_is : (ins_at w k).op ≡ i.op
    op_is = ap (λ (j : Ins). j.op) (sym e)

    pub goes_test : i.op ≡ JumpIfFalseR → Goes w k k no_register
    goes_test h = record { resumes = sym (resume_by JumpIfFalseR (op_is ∙ h)); results = sym (result_by JumpIfFalseR (op_is ∙ h)) }

    pub goes_call : i.op ≡ Call → Goes w k (k + 1) no_register
    goes_call h = record { resumes = sym (resume_by Call (op_is ∙ h)); results = sym (result_by Call (op_is ∙ h)) }

    module _ (t : i.op ≡ JumpIfFalseR → ⊥) (u : i.op ≡ Call → ⊥) (b : Bool) (is : b ≡ is_call i.op) where
      resume_else : (c : Bool) → b ≡ c → resume_of w k ≡ cond c (store_of w k) (k + 1)
      resume_else c h = resume_by i.op op_is ∙ rw (ne_eqb i.op JumpIfFalseR t, ← is, h)

      result_else : (c : Bool) → b ≡ c → result_at w k ≡ cond c (cond (ltb (store_of w k) (count w)) (ins_at w (store_of w k)).a no_register) (ins_at w k).a
      result_else c h = result_by i.op op_is ∙ rw (ne_eqb i.op JumpIfFalseR t, ne_eqb i.op Call u, ← is, h)

      pub goes_on : b ≡ false → (r : ℕ) → r ≡ i.a → Goes w k (k + 1) r
      goes_on h r f = record { resumes = sym (resume_else false h); results = f ∙ ap (λ (j : Ins). j.a) e ∙ sym (result_else false h) }

      module _ (s : ℕ) (at : s ≡ store_of w k) (h : b ≡ true) where
        pub goes_past : count w ≤ s → Goes w k s no_register
        goes_past l = record { resumes = at ∙ sym (resume_else true h); results = sym (result_else true h ∙ rw (← at, le-ltb s (count w) l)) }

        pub goes_store : s < count w → (j : Ins) → j ≡ ins_at w s → (r : ℕ) → r ≡ j.a → Goes w k s r
        goes_store l j q r f = record {
          resumes = at ∙ sym (resume_else true h);
          results = f
              ∙ ap (λ (x : Ins). x.a) q
              ∙ sym (result_else true h ∙ rw (← at, lt-ltb s (count w) l));
        }

pub ruleset goes = (goes_test, goes_call, goes_on, goes_past, goes_store)

-- a store is at n at most: a wide call is followed by ArgsR, and past the end there is none
module _ (w : List ℕ) (k : ℕ) (v : Valid w) (l : k < count w) where
  store_in : store_of w k ≤ count w
  unfolding store_of
  store_in = go (wide (ins_at w k)) refl
    where
      past : wide (ins_at w k) ≡ true → Dec (k + 1 < count w) → k + 2 ≤ count w
      past e (yes h) = omega arith
      past e (no n) =
          let whole = v.whole in
          absurd (omega (arith, args_follow (ins_at w k) k (ins_at w (k + 1)).op (v.kept k l) e, get_or-eq_default w 0 {n = 6 * (k + 1)} (omega arith)))

      go : (t : Bool) → wide (ins_at w k) ≡ t → cond t (k + 2) (k + 1) ≤ count w
      go true e = past e (dec_lt (k + 1) (count w))
      go false e = omega arith

  -- a level resumes at k or past it, at n at most
  pub resume_in : (k ≤ resume_of w k) × (resume_of w k ≤ count w)
  unfolding resume_of store_of
  resume_in = go (eqb (ins_at w k).op JumpIfFalseR) (is_call (ins_at w k).op)
    where
      low : (t : Bool) → k ≤ cond t (k + 2) (k + 1)
      low true = omega arith
      low false = omega arith

      go : (t c : Bool) → (k ≤ cond t k (cond c (store_of w k) (k + 1))) × (cond t k (cond c (store_of w k) (k + 1)) ≤ count w)
      go true c = (le_refl k, omega arith)
      go false true = (low (wide (ins_at w k)), store_in)
      go false false = (omega arith, omega arith)
